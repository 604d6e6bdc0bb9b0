-- Past the last row all points; from the pole what the table's sum leaves of all.
use mathlib.Core.Path.{◌∙◌, ap}
use native.Mathlib.Omega.{arith}
use Prim.Native.Nat.{ℕ, ◌-◌}
use borrow.Author.Rules.{rules}
use Rattle.rules.specs.Bounds.{octant_rows, octant_points}
use Rattle.octants.proofs.Laws.{before-pole, before-few, before_last}
use Rattle.octants.proofs.before_row.Goals as goal

pub returns-then-j-ge-OCTANT_ROWS : goal.returns-then-j-ge-OCTANT_ROWS
returns-then-j-ge-OCTANT_ROWS c = c.points.ensures ∙ before_last _ _ c.if-j-ge-OCTANT_ROWS.true

pub overflow_sub-result : goal.overflow_sub-result
overflow_sub-result c =
    let a = c.args in
    omega (arith, c.before_equator-in-Pole.ensures, before-few (octant_rows - a.j))

pub returns-in-Pole : goal.returns-in-Pole
returns-in-Pole c =
    rw c.in-Pole.is
    (ap (λ (x : ℕ). octant_points - x) c.before_equator-in-Pole.ensures ∙ before-pole _ (search rules))
