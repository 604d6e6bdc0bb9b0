-- A number and the place after it: two calls, by congruence.
use Rattle.bitreader.specs.Taken.{taken_at}
use Rattle.bitreader.proofs.BitReader.next.Goals as goal

pub returns : goal.returns
unfolding taken_at
returns c = cc
