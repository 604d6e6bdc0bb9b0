-- The value put, and how many are left.
use mathlib.Core.Path.{refl, ap}
use lib.ListN.{set}
use Rattle.field.proofs.spread.settle.Goals as goal

pub returns : goal.returns
returns c = let a = c.args in record {
  value = refl;
  values_after = ap (set a.values.now a.i) c.times.ensures;
}
