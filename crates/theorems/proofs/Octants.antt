-- What being by value one of the eight octants says of a grid: its scanning flags, its latitudes, and that its counts are
-- an octant's; from the eight, one by one.
use Prim.Native.Nat.{ℕ, ◌<◌}
use mathlib.Core.Bool.{Bool, true, false, ◌||◌}
use mathlib.Core.Path.{◌≡◌, refl, sym, subst, ◌∙◌, ap}
use mathlib.Core.List.{List, [], ◌∷◌}
use native.Mathlib.Omega.{arith}
use borrow.Author.Tests.{not-true, not-false, ltb-false}
use lib.IntN.{ℤ, pos, negsuc}
use lib.Signed.{lt_z}
use Rattle.bits.proofs.Tests.{or_false}
use Rattle.rules.specs.declared.{Octant.Octant, Geometry.TheVariants.Thinned, Grid.Grid, Entry.Entry}
use Rattle.rules.specs.Table.{any_of}
use Rattle.rules.specs.Columns.{cells_faults}
use Rattle.rules.specs.Figures.{the_geometry_by, the_figures_of}
use Rattle.rules.specs.Grid.{octants, the_figures_differ, grid_differs, same_grid, like_one, grid_faults}
use Rattle.laws.proofs.Rows.{none_of, is_eq, clash}
use Rattle.laws.proofs.Grids.{faults-by}

pub record OneOfEight (g : Grid) : Type 0 where
  pub scan : g.scan ≡ 64
  pub up : lt_z g.la1.value (the_figures_of g.geometry).la2.value ≡ true
  pub rows : (the_figures_of g.geometry).rows < 3

-- two signed fields that are not apart
same-value : (a b : ℤ) → (lt_z a b || lt_z b a) ≡ false → a ≡ b
same-value (pos m) (pos n) h =
    let k = or_false _ _ h in
    let e : m ≡ n = omega (arith, ltb-false m n k.0, ltb-false n m k.1) in
    ap pos e
same-value (pos m) (negsuc n) h = clash true refl h
same-value (negsuc m) (pos n) h = clash true refl h
same-value (negsuc m) (negsuc n) h =
    let k = or_false _ _ h in
    let e : m ≡ n = omega (arith, ltb-false n m k.0, ltb-false m n k.1) in
    ap negsuc e

-- a grid like an octant
like : (g o : Grid) → o.scan ≡ 64 → lt_z o.la1.value (the_figures_of o.geometry).la2.value ≡ true
    → (the_figures_of o.geometry).rows < 3
    → same_grid g o ≡ true
    → OneOfEight g
unfolding grid_differs the_figures_differ
like g o es eu er h =
    let n = none_of (grid_differs g o) (not-true _ h) in
    let a = same-value g.la1.value o.la1.value n.1.1.0 in
    let s = n.1.1.1.1.1 in
    let f = none_of (the_figures_differ (the_figures_of g.geometry) (the_figures_of o.geometry)) s.1.0 in
    let b = same-value (the_figures_of g.geometry).la2.value (the_figures_of o.geometry).la2.value f.1.1.0 in
    record {
      scan = is_eq g.scan o.scan s.0 ∙ es;
      up = (λ i. lt_z (a i) (b i)) ∙ eu;
      rows = subst (λ (x : ℕ). x < 3) (sym (is_eq _ _ f.1.0)) er;
    }

-- one of a list
abbrev Each : List Entry → Type 0
Each [] = Unit {0}
Each (e ∷ es) =
    ((e.grid.scan ≡ 64) × (lt_z e.grid.la1.value (the_figures_of e.grid.geometry).la2.value ≡ true)
    × ((the_figures_of e.grid.geometry).rows < 3))
    × Each es

some : (es : List Entry) (g : Grid) → Each es → like_one es g ≡ true → OneOfEight g
unfolding like_one
some [] g f h = clash false h refl
some (e ∷ es) g f h = go (same_grid g e.grid) refl h (some es g f.1)
  where
    go : (t : Bool) → same_grid g e.grid ≡ t → (t || like_one es g) ≡ true → (like_one es g ≡ true → OneOfEight g)
        → OneOfEight g
    go true d k next = like g e.grid f.0.0 f.0.1 f.0.2 d
    go false d k next = next k

each : Each octants
unfolding octants the_geometry_by the_figures_of
each = (
  (refl, refl, omega arith),
  ((refl, refl, omega arith), ((refl, refl, omega arith), ((refl, refl, omega arith), ((refl, refl, omega arith), ((refl, refl, omega arith), ((refl, refl, omega arith), ((refl, refl, omega arith), tt))))))),
)

-- so that row 9 leaves a thinned grid
pub one-of-eight : (g : Grid) (o : Octant) → g.geometry ≡ Thinned o → any_of (grid_faults g) ≡ false → OneOfEight g
unfolding cells_faults
one-of-eight g o e h =
    some octants g each (not-false _ (none_of _ (sym (faults-by g (Thinned o) e) ∙ h)).0)
