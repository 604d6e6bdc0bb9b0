-- Refusal 10 of a stored bitmap: the list of tests opened, call by call.
use Rattle.rules.specs.Table.{any_of, or_all}
use Rattle.rules.specs.Bitmap.{bitmap_faults, lent_faults}
use Rattle.bitmap.proofs.stored_bad.Goals as goal

pub returns : goal.returns
unfolding any_of or_all bitmap_faults lent_faults
returns c = rw c.octet.ensures
