-- The first line, and the rows after it: with at most 4,096 points there is room.
use mathlib.Core.Path.{◌≡◌, ap, subst}
use mathlib.Core.List.{List}
use Prim.Native.Nat.{ℕ, ◌+◌, ◌*◌, ◌≤◌}
use native.Mathlib.Omega.{arith}
use Rattle.rules.specs.declared.{Shape.Shape}
use Rattle.rules.specs.Chart.{the_points_on}
use Rattle.rules.specs.Listing.{row_lines}
use Rattle.listing.specs.Text.{Wrote}
use Rattle.listing.proofs.Writes.{wrote_next}
use Rattle.listing.proofs.lines.Goals as goal

-- the rows of the grid's shape
rows_of : (present : ℕ → ℕ) (values : List ℕ) {g o : Shape} {t u : List ℕ} {at next : ℕ} → g ≡ o
    → Wrote t u at next (row_lines present values g) × (next ≤ at + the_points_on g * 11)
    → Wrote t u at next (row_lines present values o) × (next ≤ at + the_points_on o * 11)
rows_of present values {t} {u} {at} {next} e a =
    subst (λ (x : Shape). Wrote t u at next (row_lines present values x) × (next ≤ at + the_points_on x * 11)) e a

pub rows-requires : goal.rows-requires
rows-requires c =
    let e = ap (λ (x : Shape). the_points_on x) c.shape_of.ensures in
    let p = c.first_line-next.ensures in
    record { g_in_bounds = omega (arith, e, p.1); g_in_bounds_2 = omega (arith, e) }

pub returns : goal.returns
returns c =
    let p = c.first_line-next.ensures in
    let q = rows_of _ _ c.shape_of.ensures c.rows.ensures in
    (wrote_next p.0 q.0 (omega (arith, p.1, q.1)), omega (arith, p.1, q.1))
