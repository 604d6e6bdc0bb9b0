-- The chart's cells: the grid point at a place inside the chart is one of the grid's; cells and rows written one after
-- another, by the laws of written text; and the room that they take, by the laws of the chart's rows.
use Rattle.std.specs.Prelude.{None, Option, Some}
use mathlib.Core.Path.{◌≡◌, sym, ap, subst, ◌∙◌}
use mathlib.Core.Bool.{Bool, true, false, cond}
use Prim.Native.Nat.{ℕ, zero, suc, ◌+◌, ◌*◌, ◌≤◌, ◌<◌}
use native.Mathlib.Omega.{arith}
use borrow.Author.Tests.{lt-ltb}
use mathlib.Core.List.{List, [], ◌∷◌}
use lib.Dec.{eqb}
use lib.ListN.{length, get_or, length-append}
use Rattle.laws.proofs.Charts.{found, rows_to, rows-to}
use Rattle.rules.specs.declared.{Shape.Shape, GridPoint.GridPoint, Spot.Spot, Grid.Grid}
use Rattle.rules.specs.Bitmap.{mark_of, value_of}
use Rattle.rules.specs.Listing.{hyphen, joined_to, stop, ended, line, decimal, cell, row_line, row_lines}
use Rattle.listing.specs.Text.{Wrote}
use Rattle.listing.proofs.Writes.{wrote_part, wrote_next, joined-most, ended-most}
use Rattle.listing.proofs.Digits.{decimal-most}
use Rattle.rules.specs.Chart.{the_points_on, the_rows_on, the_row_long, the_point_on, pointed}

module _ (g : Shape) (c : Spot) (hr : c.row < the_rows_on g) (hc : c.column < the_row_long g c.row) where
  inside : pointed g c ≡ Some (record { 0 = the_point_on g c })
  unfolding pointed
  inside = rw (lt-ltb c.row (the_rows_on g) hr, lt-ltb c.column (the_row_long g c.row) hc)

  pub point_at : (p : Option GridPoint) (q : GridPoint) → p ≡ pointed g c → p ≡ Some q → (q.0 ≡ the_point_on g c) × (q.0 < the_points_on g)
  point_at p q e f = let h = found g c q (sym e ∙ f) in (sym h.is, h.below)

  pub never_off : (p : Option GridPoint) → p ≡ pointed g c → p ≡ None → ⊥
  never_off p e f =
      let i = inside in
      let z : ◌≡◌ {A = ℕ} 0 1 = cc in
      omega arith

-- cell c of row r, and what follows it
abbrev pub word : List ℕ → List ℕ → Shape → ℕ → ℕ → List ℕ
word values marks g r c =
    ended (cell (mark_of marks) values (the_point_on g (record { row = r; column = c }))) (stop (the_row_long g r) c)

cell-most : (present : ℕ → ℕ) (values : List ℕ) (i : ℕ) → length (cell present values i) ≤ 10
unfolding cell
cell-most present values i = go (eqb (present i) 1)
  where
    go : (t : Bool) → length (cond t (decimal (value_of values i)) (hyphen ∷ [])) ≤ 10
    go true = decimal-most (value_of values i)
    go false = omega arith

pub here-most : (values marks : List ℕ) (i x : ℕ) → length (ended (cell (mark_of marks) values i) x) ≤ 11
here-most values marks i x = ended-most (cell (mark_of marks) values i) x 10 (cell-most (mark_of marks) values i)

pub word-most : (values marks : List ℕ) (g : Shape) (r c : ℕ) → length (word values marks g r c) ≤ 11
word-most values marks g r c =
    here-most values marks (the_point_on g (record { row = r; column = c })) (stop (the_row_long g r) c)

pub row-most : (values marks : List ℕ) (g : Shape) (r : ℕ)
    → length (row_line (mark_of marks) values g r) ≤ the_row_long g r * 11
unfolding row_line line
row-most values marks g r = joined-most (word values marks g r) 11 (word-most values marks g r) (the_row_long g r)

-- one more cell of a row
pub cell_turn : (t u v : List ℕ) (at mid next : ℕ) (values marks : List ℕ) (g : Shape) (r c i x : ℕ)
    → Wrote t u at mid (joined_to (word values marks g r) c)
    → Wrote u v mid next (ended (cell (mark_of marks) values i) x)
    → i ≡ the_point_on g (record { row = r; column = c }) → x ≡ stop (the_row_long g r) c → next ≤ length t
    → Wrote t v at next (joined_to (word values marks g r) (c + 1))
cell_turn t u v at mid next values marks g r c i x a b e f h =
    wrote_part (word values marks g r) c a
    (subst (λ (k : ℕ). Wrote u v mid next (ended (cell (mark_of marks) values k) (stop (the_row_long g r) c))) e
    (subst (λ (k : ℕ). Wrote u v mid next (ended (cell (mark_of marks) values i) k)) f b))
    h

pub row_done : (t u : List ℕ) (at next : ℕ) (values marks : List ℕ) (g : Shape) (r c : ℕ) → c ≡ the_row_long g r
    → Wrote t u at next (joined_to (word values marks g r) c) → Wrote t u at next (row_line (mark_of marks) values g r)
unfolding row_line line
row_done t u at next values marks g r c e a =
    subst (λ (k : ℕ). Wrote t u at next (joined_to (word values marks g r) k)) e a

pub rows-done : (t u : List ℕ) (at next : ℕ) (values marks : List ℕ) (g : Shape) (r : ℕ) → r ≡ the_rows_on g
    → Wrote t u at next (joined_to (row_line (mark_of marks) values g) r)
    → Wrote t u at next (row_lines (mark_of marks) values g)
unfolding row_lines
rows-done t u at next values marks g r e a =
    subst (λ (k : ℕ). Wrote t u at next (joined_to (row_line (mark_of marks) values g) k)) e a

-- the room that is left for one more row
pub rows-most : (values marks : List ℕ) (g : Shape) (r : ℕ)
    → length (joined_to (row_line (mark_of marks) values g) r) ≤ rows_to g r * 11
unfolding joined_to
rows-most values marks g zero = omega arith
rows-most values marks g (suc r) =
    let a = rows-most values marks g r in
    let b = row-most values marks g r in
    let e = length-append (joined_to (row_line (mark_of marks) values g) r) (row_line (mark_of marks) values g r) in
    omega (arith, a, b, e)

pub row_room : (g : Shape) (r : ℕ) → r < the_rows_on g → rows_to g r * 11 + the_row_long g r * 11 ≤ the_points_on g * 11
row_room g r h = let a = rows-to g (suc r) (omega (arith, h)) in omega (arith, a)

pub rows-room : (g : Shape) (r : ℕ) → r ≡ the_rows_on g → rows_to g r * 11 ≤ the_points_on g * 11
rows-room g r e = let a = rows-to g r (omega (arith, e)) in omega (arith, a)

-- what stands at a point, by its mark
pub cell-here : (t u : List ℕ) (at next : ℕ) (values marks : List ℕ) (i x : ℕ) → eqb (mark_of marks i) 1 ≡ true
    → Wrote t u at next (ended (decimal (get_or values i 0)) x)
    → Wrote t u at next (ended (cell (mark_of marks) values i) x)
unfolding cell
cell-here t u at next values marks i x e a = rw e a

pub cell-none : (t u v : List ℕ) (at mid next : ℕ) (values marks : List ℕ) (i x : ℕ) → eqb (mark_of marks i) 1 ≡ false
    → Wrote t u at mid (hyphen ∷ []) → Wrote u v mid next (x ∷ []) → next ≤ length t
    → Wrote t v at next (ended (cell (mark_of marks) values i) x)
unfolding cell
cell-none t u v at mid next values marks i x e a b h = rw e (wrote_next a b h)
