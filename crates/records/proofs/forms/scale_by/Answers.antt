-- E as a signed field, and R.
use mathlib.Core.Path.{ap}
use Rattle.rules.specs.declared.{Signed.Signed, Scale.Scale}
use Rattle.octets.proofs.Signs.{kept}
use Rattle.records.proofs.forms.scale_by.Goals as goal

pub returns : goal.returns
returns c =
    ap {B = Scale} (λ (z : Signed). record { e = z; r = c.args.r }) (kept c.args.e _ c.plain.ensures c.ranges.e)
