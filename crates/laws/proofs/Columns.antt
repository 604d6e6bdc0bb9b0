-- A table whose columns tile their octets: what that says of its first column, and where its fields end; and that what 9
-- leaves of its cells is held by their octets. By induction on the columns; of each kind's table it is computed that it
-- tiles its section and has its angles in three octets.
use Prim.Native.Nat.{ℕ, suc, ◌+◌, ◌*◌, ◌<◌}
use mathlib.Core.Bool.{Bool, true, ◌&&◌}
use mathlib.Core.Path.{◌≡◌, refl, sym, subst}
use mathlib.Core.List.{List, [], ◌∷◌}
use native.Mathlib.Omega.{arith}
use lib.Pow.{pow_pos}
use borrow.Author.Tests.{eqb-true, ltb-true, ltb-false}
use lib.Dec.{eqb}
use Rattle.bits.proofs.Tests.{both}
use Rattle.rules.specs.declared.{Signed.Signed}
use Rattle.rules.specs.Bounds.{latitude_most, longitude_most}
use Rattle.rules.specs.Numbers.{beyond}
use Rattle.rules.specs.Columns.{Sort, carried, needed, distance, side, latitude, longitude, reserved, Column, Cell, Cells}
use Rattle.rules.specs.Columns.{all_ones, cell_faults, cells_fields, cells_faults, tiles}
use Rattle.rules.specs.Layouts.{Kind, latlon, thinned, mercator, lambert, gaussian, polar, columns, length_by}
use Rattle.laws.specs.Signs.{SignFree}
use Rattle.laws.specs.Cells.{CellTyped, CellsTyped, CellFits, CellsFit}
use Rattle.laws.proofs.Rows.{NoneOf, none-parts}
use Rattle.laws.proofs.Whole.{within}
use Rattle.laws.proofs.Fields.{widths}

pub record Tiled (c : Column) (cs : List Column) (j n : ℕ) : Type 0 where
  pub wide : 0 < c.width
  pub here : c.first ≡ suc j
  pub next : tiles cs (j + c.width) n ≡ true

pub tiled : (c : Column) (cs : List Column) (j n : ℕ) → tiles (c ∷ cs) j n ≡ true → Tiled c cs j n
unfolding tiles
tiled c cs j n h =
    let a = both _ _ h in
    let b = both _ _ a.1 in
    record { wide = ltb-true 0 c.width a.0; here = eqb-true c.first (suc j) b.0; next = b.1 }

pub widths-tile : (cs : List Column) (j n : ℕ) → tiles cs j n ≡ true → (x : Cells cs)
    → widths (cells_fields cs x) j ≡ n
unfolding cells_fields tiles
widths-tile [] j n h x = eqb-true j n h
widths-tile (c ∷ cs) j n h x = widths-tile cs (j + c.width) n (tiled c cs j n h).next x.1

-- every kind's columns tile octets 7 to its length
pub kind-tiles : (k : Kind) → tiles (columns k) 6 (length_by k) ≡ true
unfolding tiles
kind-tiles latlon = refl
kind-tiles thinned = refl
kind-tiles mercator = refl
kind-tiles lambert = refl
kind-tiles gaussian = refl
kind-tiles polar = refl

-- an angle has three octets, so that its bound leaves the sign bit free
abbrev pub angle_three : Sort → ℕ → Bool
angle_three carried c = true
angle_three needed c = true
angle_three distance c = true
angle_three side c = true
angle_three latitude c = eqb c 3
angle_three longitude c = eqb c 3
angle_three reserved c = true

abbrev pub angles_three : List Column → Bool
angles_three [] = true
angles_three (c ∷ cs) = angle_three c.sort c.width && angles_three cs

pub kind-angles : (k : Kind) → angles_three (columns k) ≡ true
kind-angles latlon = refl
kind-angles thinned = refl
kind-angles mercator = refl
kind-angles lambert = refl
kind-angles gaussian = refl
kind-angles polar = refl

-- what 9 leaves of a cell, and of all cells: their octets hold them
pub angle-fits : (most c : ℕ) (z : Signed) → most < 8388608 → eqb c 3 ≡ true → NoneOf (beyond most z.value ∷ []) → SignFree c z
angle-fits most c z l e h =
    subst (λ (x : ℕ). SignFree x z) (sym (eqb-true c 3 e)) (omega (arith, l, within most z.value h.0))

cell-fits : (t : Sort) (c : ℕ) (x : Cell t) → angle_three t c ≡ true → CellTyped t c x → NoneOf (cell_faults t c x)
    → CellFits t c x
cell-fits carried c x a y h = y
cell-fits needed c x a y h = y
cell-fits distance c x a y h = omega (arith, pow_pos (c * 8), ltb-false (all_ones c) x h.0)
cell-fits side c x a y h = y
cell-fits latitude c z a y h = angle-fits latitude_most c z (omega arith) a h
cell-fits longitude c z a y h = angle-fits longitude_most c z (omega arith) a h
cell-fits reserved c x a y h = tt

cells_fit : (cs : List Column) → angles_three cs ≡ true → (x : Cells cs) → CellsTyped cs x → NoneOf (cells_faults cs x)
    → CellsFit cs x
unfolding cells_faults
cells_fit [] a x y h = tt
cells_fit (c ∷ cs) a x y h =
    let b = both (angle_three c.sort c.width) (angles_three cs) a in
    let k = none-parts (cell_faults c.sort c.width x.0) (cells_faults cs x.1) h in
    (cell-fits c.sort c.width x.0 b.0 y.0 k.0, cells_fit cs b.1 x.1 y.1 k.1)

pub kind_fits : (k : Kind) (x : Cells (columns k)) → CellsTyped (columns k) x → NoneOf (cells_faults (columns k) x)
    → CellsFit (columns k) x
kind_fits k x y h = cells_fit (columns k) (kind-angles k) x y h
