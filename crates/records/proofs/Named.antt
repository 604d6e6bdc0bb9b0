-- The records that come in: each kind by its number. Kinds that have no name are refused, and what goes out comes back.
use Rattle.std.specs.Prelude.{None, Option, Some}
use Prim.Native.Nat.{ℕ}
use mathlib.Core.Path.{◌≡◌, refl, sym, ap, ◌∙◌}
use mathlib.Core.Bool.{Bool, true, false, ◌||◌}
use native.Mathlib.Omega.{arith}
use borrow.Author.Tests.{ne_eqb}
use Rattle.rules.specs.declared.{Grid.Grid}
use Rattle.rules.specs.declared.{Bitmap.TheVariants.Without, Bitmap.TheVariants.Carried, Bitmap.TheVariants.Stored}
use Rattle.rules.specs.Table.{any_of, or_all}
use Rattle.rules.specs.declared.{Start.Start, Start.TheVariants.Equator, Start.TheVariants.Pole}
use Rattle.rules.specs.declared.{Start.TheVariants.Neither, Geometry.Geometry, Geometry.TheVariants.LatLon}
use Rattle.rules.specs.declared.{Geometry.TheVariants.Thinned, Geometry.TheVariants.Mercator}
use Rattle.rules.specs.declared.{Geometry.TheVariants.Lambert, Geometry.TheVariants.Gaussian}
use Rattle.rules.specs.declared.{Geometry.TheVariants.Polar}
use Rattle.rules.specs.Numbers.{bit}
use Rattle.rules.specs.Columns.{cells_faults}
use Rattle.rules.specs.Figures.{the_geometry_by, the_figures_of, the_geometry_of}
use Rattle.rules.specs.Grid.{grid_with, cells_by, the_no_grid, grid_or_zeros, the_scan_bad, grid_faults}
use Rattle.rules.specs.Bitmap.{lent_faults}
use Rattle.rules.specs.Writing.{stored_faults}
use Rattle.records.specs.declared.{GridRecord.GridRecord}
use Rattle.records.specs.Forms.{the_grid_back, the_grid_by, the_bitmap_by, UnknownGrid, UnknownBitmap, GridReturns}
use Rattle.records.specs.Forms.{BitmapReturns}

module _ (kind : ℕ) (g : GridRecord) where
  pub grid-none : kind ≡ 0 → None ≡ the_grid_by kind g
  unfolding the_grid_by
  grid-none e = rw e

  pub grid-given : kind ≡ 1 → (x : Grid) → x ≡ the_grid_back g → Some x ≡ the_grid_by kind g
  unfolding the_grid_by
  grid-given e x q = rw (e, q)

  pub grid-other : (kind ≡ 0 → ⊥) → (kind ≡ 1 → ⊥) → (x : Grid) → x ≡ the_no_grid → Some x ≡ the_grid_by kind g
  unfolding the_grid_by
  grid-other a b x q = rw (ne_eqb kind 0 a, ne_eqb kind 1 b, q)

module _ (kind number : ℕ) where
  pub bitmap-none : kind ≡ 0 → Without ≡ the_bitmap_by kind number
  unfolding the_bitmap_by
  bitmap-none e = rw e

  pub bitmap-carried : kind ≡ 1 → Carried ≡ the_bitmap_by kind number
  unfolding the_bitmap_by
  bitmap-carried e = rw e

  pub bitmap-stored : kind ≡ 2 → Stored number ≡ the_bitmap_by kind number
  unfolding the_bitmap_by
  bitmap-stored e = rw e

  pub bitmap-other : (kind ≡ 0 → ⊥) → (kind ≡ 1 → ⊥) → (kind ≡ 2 → ⊥) → Stored 0 ≡ the_bitmap_by kind number
  unfolding the_bitmap_by
  bitmap-other a b c = rw (ne_eqb kind 0 a, ne_eqb kind 1 b, ne_eqb kind 2 c)

zeros-refused : any_of (grid_faults the_no_grid) ≡ true
unfolding any_of or_all cells_faults cells_by the_scan_bad bit grid_faults the_no_grid
zeros-refused = refl

pub unknown_grid : UnknownGrid
unknown_grid kind g l =
    let e : Some the_no_grid ≡ the_grid_by kind g = grid-other kind g (λ q. omega (arith, l, q)) (λ q. omega (arith, l, q)) the_no_grid refl in
    ap (λ (x : Option Grid). any_of (grid_faults (grid_or_zeros x))) (sym e) ∙ zeros-refused

-- a test that applies is not undone by a later one
or-true : (a : Bool) → (a || true) ≡ true
or-true true = refl
or-true false = refl

pub unknown_bitmap : UnknownBitmap
unfolding any_of or_all stored_faults lent_faults
unknown_bitmap kind number lent values marks n l =
    let e : Stored 0 ≡ the_bitmap_by kind number = bitmap-other kind number (λ q. omega (arith, l, q)) (λ q. omega (arith, l, q)) (λ q. omega (arith, l, q)) in
    rw (sym e, or-true)

-- a geometry out of its figures
geometry_back : (x : Geometry) → the_geometry_of (the_figures_of x) ≡ x
unfolding the_geometry_of the_geometry_by the_figures_of
geometry_back (LatLon x) = refl
geometry_back (Thinned o) = by o.start
  where
    by : (f : Start)
        → the_geometry_of (the_figures_of (Thinned (record { edges = o.edges; start = f })))
        ≡ Thinned (record { edges = o.edges; start = f })
    by Equator = refl
    by Pole = refl
    by Neither = refl
geometry_back (Mercator x) = refl
geometry_back (Lambert x) = refl
geometry_back (Gaussian x) = refl
geometry_back (Polar x) = refl

pub grid_returns : GridReturns
unfolding the_grid_by
grid_returns g =
    ap (λ (x : Geometry). Some (grid_with g.ni g.nj g.la1 g.lo1 g.flags g.scan x))
    (geometry_back g.geometry)

pub bitmap_returns : BitmapReturns
unfolding the_bitmap_by
bitmap_returns Without = refl
bitmap_returns Carried = refl
bitmap_returns (Stored number) = refl
