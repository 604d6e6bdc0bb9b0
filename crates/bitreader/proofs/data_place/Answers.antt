-- The place is reached from 0: the head's octets and those before it, eight bits each.
use Rattle.bitreader.specs.Taken.{the_data_place}
use borrow.Author.Rules.{rules}
use Rattle.bitreader.proofs.data_place.Goals as goal

pub returns : goal.returns
unfolding the_data_place
returns c = search rules
