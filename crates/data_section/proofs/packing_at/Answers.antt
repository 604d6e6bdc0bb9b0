-- Two octets read, call by call.
use Rattle.rules.specs.Values.{the_packing_at}
use Rattle.data_section.proofs.packing_at.Goals as goal

pub returns : goal.returns
unfolding the_packing_at
returns c = rw (c.octet-2.ensures, c.octet.ensures)
