-- Refusal 11: the test of E and then those of the packing (law scale-read).
use Rattle.writable.proofs.Judged.{scale-read}
use Rattle.writable.proofs.scale_bad.Goals as goal

pub returns : goal.returns
returns c = scale-read _ _ _ _ c.exponent_bad.ensures c.packing_bad.ensures
