-- The law of a table, once over any list of columns that tile their octets: the cells of what was written are those that
-- were written, without a stain, and cells that were read without a stain are written as the octets that stood there.
use Prim.Native.Nat.{ℕ, suc, ◌+◌, ◌-◌, ◌*◌, ◌^◌, ◌<◌, ◌≤◌}
use mathlib.Core.Bool.{Bool, true, false, cond}
use mathlib.Core.Path.{◌≡◌, refl, sym, subst, ◌∙◌, ap}
use mathlib.Core.List.{List, [], ◌∷◌}
use native.Mathlib.Omega.{arith}
use native.Mathlib.Nat.{pow-suc}
use lib.Pow.{pow_pos}
use borrow.Author.Tests.{eqb-true, eqb-false}
use lib.Dec.{eqb}
use lib.ListN.{length, get_or, drop}
use Rattle.bits.specs.Bits.{bits_in, run, Wide}
use Rattle.rules.specs.Numbers.{octet, laid, sign}
use Rattle.rules.specs.Columns.{Sort, carried, needed, distance, side, latitude, longitude, reserved, Column, Cell, Cells}
use Rattle.rules.specs.Columns.{column_at, cell_of, cell_number, cell_stains, cells_at, cells_fields, cells_stains, tiles}
use Rattle.laws.specs.Cells.{CellFits, CellsFit}
use Rattle.laws.proofs.Rows.{NoneOf, none_both, none-parts, not_eq, is_eq}
use Rattle.laws.proofs.Fields.{Fit, Back, Held, all_back, laid-here, one}
use Rattle.laws.proofs.Columns.{tiled, widths-tile}
use Rattle.laws.proofs.Signs.{signed-read, spelled-lt, plus, signed-here}

-- one column
double_sign : (c : ℕ) → 0 < c → sign c + sign c ≡ 2 ^ (c * 8)
double_sign c h =
    let e : suc (8 * c - 1) ≡ c * 8 = omega (arith, h) in
    let d : 2 ^ suc (8 * c - 1) ≡ 2 ^ (8 * c - 1) * 2 = pow-suc 2 (8 * c - 1) in
    omega (arith, d) ∙ sym d ∙ ap (λ (x : ℕ). 2 ^ x) e

number_fits : (t : Sort) (c : ℕ) (x : Cell t) → 0 < c → CellFits t c x → cell_number t c x < 2 ^ (c * 8)
number_fits carried c x p h = h
number_fits needed c x p h = h
number_fits distance c x p h = h
number_fits side c x p h = h
number_fits latitude c z p h = spelled-lt c (2 ^ (c * 8)) z (double_sign c p) h
number_fits longitude c z p h = spelled-lt c (2 ^ (c * 8)) z (double_sign c p) h
number_fits reserved c x p h = pow_pos (c * 8)

-- a number that was written is the cell that it was, without a stain
cell-back : (t : Sort) (c v : ℕ) (x : Cell t) → v ≡ cell_number t c x → CellFits t c x → cell_of t c v ≡ x
cell-back carried c v x e h = e
cell-back needed c v x e h = e
cell-back distance c v x e h = e
cell-back side c v x e h = e
cell-back latitude c v z e h = signed-read c v z e h
cell-back longitude c v z e h = signed-read c v z e h
cell-back reserved c v x e h = refl

no_stain : (t : Sort) (c v : ℕ) (x : Cell t) → v ≡ cell_number t c x → CellFits t c x → NoneOf (cell_stains t c v)
no_stain carried c v x e h = tt
no_stain needed c v x e h = tt
no_stain distance c v x e h = tt
no_stain side c v x e h = tt
no_stain latitude c v z e h = (plus c v z e h, tt)
no_stain longitude c v z e h = (plus c v z e h, tt)
no_stain reserved c v x e h = (not_eq v 0 e, tt)

-- and a cell that was read is written as the number that stood there
number-here : (t : Sort) (c v : ℕ) → NoneOf (cell_stains t c v) → v ≡ cell_number t c (cell_of t c v)
number-here carried c v e = refl
number-here needed c v e = refl
number-here distance c v e = refl
number-here side c v e = refl
number-here latitude c v e = signed-here c v (eqb-false v (sign c) e.0)
number-here longitude c v e = signed-here c v (eqb-false v (sign c) e.0)
number-here reserved c v e = is_eq v 0 e.0

-- the number in a column that stands after octet j
begins : (c : Column) (j : ℕ) → c.first ≡ suc j → c.first - 1 ≡ j
begins c j e = omega (arith, e)

column-is : (c : Column) (s : List ℕ) (g j v : ℕ) → c.first ≡ suc j
    → run (bits_in 8 s) ((g + j) * 8) (c.width * 8) ≡ v → (c.width ≡ 1 → get_or s (g + j) 0 ≡ v) → column_at c s g ≡ v
column-is c s g j v e p q = go (eqb c.width 1) refl
  where
    go : (t : Bool) → eqb c.width 1 ≡ t
        → cond t (octet s g c.first) (run (bits_in 8 s) ((g + (c.first - 1)) * 8) (c.width * 8)) ≡ v
    go true d = ap (λ (x : ℕ). get_or s (g + x) 0) (begins c j e) ∙ q (eqb-true c.width 1 d)
    go false d = ap (λ (x : ℕ). run (bits_in 8 s) ((g + x) * 8) (c.width * 8)) (begins c j e) ∙ p

column-run : (c : Column) (s : List ℕ) (g j : ℕ) → Wide 8 s → c.first ≡ suc j
    → run (bits_in 8 s) ((g + j) * 8) (c.width * 8) ≡ column_at c s g
column-run c s g j w e =
    sym (column-is c s g j _ e refl
    (λ d. sym (one s w (g + j)) ∙ ap (λ (x : ℕ). run (bits_in 8 s) ((g + j) * 8) (x * 8)) (sym d)))

-- all columns
pub fields_fit : (cs : List Column) (j n : ℕ) → tiles cs j n ≡ true → (x : Cells cs) → CellsFit cs x
    → Fit (cells_fields cs x)
unfolding cells_fields
fields_fit [] j n h x f = tt
fields_fit (c ∷ cs) j n h x f =
    let t = tiled c cs j n h in
    (number_fits c.sort c.width x.0 t.wide f.0, fields_fit cs (j + c.width) n t.next x.1 f.1)

module _ (s : List ℕ) (g : ℕ) where
  cells-back : (cs : List Column) (j n : ℕ) → tiles cs j n ≡ true → (x : Cells cs) → CellsFit cs x
      → Back s g j (cells_fields cs x) → (cells_at cs s g ≡ x) × NoneOf (cells_stains cs s g)
  unfolding cells_fields cells_at cells_stains
  cells-back [] j n h x f b = (refl, tt)
  cells-back (c ∷ cs) j n h x f b =
      let t = tiled c cs j n h in
      let e = column-is c s g j (cell_number c.sort c.width x.0) t.here b.0 b.1 in
      let p = cell-back c.sort c.width (column_at c s g) x.0 e f.0 in
      let q = cells-back cs (j + c.width) n t.next x.1 f.1 b.2 in (
        λ i. (p i, q.0 i),
        none_both (cell_stains c.sort c.width (column_at c s g)) (cells_stains cs s g)
            (no_stain c.sort c.width (column_at c s g) x.0 e f.0) q.1,
      )

  cells-held : (cs : List Column) (j n : ℕ) → tiles cs j n ≡ true → Wide 8 s → NoneOf (cells_stains cs s g)
      → Held s g j (cells_fields cs (cells_at cs s g))
  unfolding cells_fields cells_at cells_stains
  cells-held [] j n h w z = tt
  cells-held (c ∷ cs) j n h w z =
      let t = tiled c cs j n h in
      let k = none-parts (cell_stains c.sort c.width (column_at c s g)) (cells_stains cs s g) z in (
        column-run c s g j w t.here ∙ number-here c.sort c.width (column_at c s g) k.0,
        cells-held cs (j + c.width) n t.next w k.1,
      )

-- what was written, read
pub read-cells : (cs : List Column) (j n : ℕ) → tiles cs j n ≡ true → (x : Cells cs) → CellsFit cs x
    → (s : List ℕ) (g : ℕ) (rest : List ℕ) → drop (g + j) s ≡ laid (cells_fields cs x) rest
    → (cells_at cs s g ≡ x) × NoneOf (cells_stains cs s g)
read-cells cs j n h x f s g rest e =
    cells-back s g cs j n h x f (all_back s g j (cells_fields cs x) rest e (fields_fit cs j n h x f))

-- and what was read, written
pub write-cells : (cs : List Column) (j n : ℕ) → tiles cs j n ≡ true → (s : List ℕ) (g : ℕ) → Wide 8 s
    → g + n ≤ length s → NoneOf (cells_stains cs s g)
    → laid (cells_fields cs (cells_at cs s g)) (drop (g + n) s) ≡ drop (g + j) s
write-cells cs j n h s g w l z =
    let m = widths-tile cs j n h (cells_at cs s g) in
    laid-here s g j (cells_fields cs (cells_at cs s g)) (drop (g + n) s) w
    (subst (λ (x : ℕ). g + x ≤ length s) (sym m) l) (cells-held s g cs j n h w z)
    (ap (λ (x : ℕ). drop (g + x) s) (sym m))
