-- Bit 2 of PDS octet 8, call by call.
use Rattle.rules.specs.Places.{the_has_bitmap}
use Rattle.laws.proofs.Flags.{read_2}
use Rattle.layout.proofs.has_bitmap.Goals as goal

pub returns : goal.returns
unfolding the_has_bitmap
returns c = read_2 _ _ c.octet.ensures
