-- Row 9 by a grid's own geometry, and what it leaves, whatever the kind: cells that their octets hold, and points within
-- their bound.
use Prim.Native.Nat.{◌*◌, ◌≤◌}
use mathlib.Core.Path.{◌≡◌, refl, sym, ap, ◌∙◌}
use mathlib.Core.Bool.{false}
use native.Mathlib.Omega.{arith}
use borrow.Author.Tests.{ltb-false}
use lib.Dec.{ltb}
use Rattle.bits.proofs.Tests.{or_right}
use Rattle.rules.specs.declared.{Start.Start, Start.TheVariants.Equator, Start.TheVariants.Pole}
use Rattle.rules.specs.declared.{Start.TheVariants.Neither, Shape.Shape, Shape.TheVariants.Even}
use Rattle.rules.specs.declared.{Shape.TheVariants.Uneven, Geometry.Geometry, Grid.Grid}
use Rattle.rules.specs.Bounds.{octant_points, points_most}
use Rattle.rules.specs.Counts.{total, the_from_equator, counts_of}
use Rattle.rules.specs.Chart.{the_points_on}
use Rattle.rules.specs.Table.{any_of}
use Rattle.rules.specs.Columns.{cells_faults}
use Rattle.rules.specs.Layouts.{columns}
use Rattle.rules.specs.Grid.{kind_of, cells_by, cells_of, shape_by, shape_of, points_of, scan_faults, shape_faults, kind_faults}
use Rattle.rules.specs.Grid.{faults_by, grid_faults}
use Rattle.laws.specs.Cells.{CellsTyped, CellsFit}
use Rattle.laws.proofs.Rows.{NoneOf, none_of, none-parts}
use Rattle.laws.proofs.Columns.{kind_fits}

-- the tests of row 9, of the geometry that a grid has
pub faults-by : (g : Grid) (x : Geometry) → g.geometry ≡ x → any_of (grid_faults g) ≡ any_of (faults_by g x)
unfolding grid_faults
faults-by g x e = ap (λ (y : Geometry). any_of (faults_by g y)) e

-- what 9 leaves of a grid's cells, the types of its numbers given: its octets hold them
cells-by : (g : Grid) (x : Geometry) → any_of (faults_by g x) ≡ false → NoneOf (cells_faults (columns (kind_of x)) (cells_by g x))
cells-by g x e = (none-parts (kind_faults g x) (cells_faults (columns (kind_of x)) (cells_by g x)) (none_of _ e)).1

pub cells-sound : (g : Grid) → any_of (grid_faults g) ≡ false → NoneOf (cells_faults (columns (kind_of g.geometry)) (cells_of g))
cells-sound g e = cells-by g g.geometry (sym (faults-by g g.geometry refl) ∙ e)

pub grid-fits : (g : Grid) → CellsTyped (columns (kind_of g.geometry)) (cells_of g) → any_of (grid_faults g) ≡ false
    → CellsFit (columns (kind_of g.geometry)) (cells_of g)
grid-fits g y e = kind_fits (kind_of g.geometry) (cells_of g) y (cells-sound g e)

-- its points are within their bound
pub octant-few : (f : Start) → total (counts_of f) ≤ octant_points
unfolding total counts_of the_from_equator
octant-few Equator = omega arith
octant-few Pole = omega arith
octant-few Neither = omega arith

-- by its shape: the kinds do not enter
shape_points : (g : Grid) (q : Shape) → NoneOf (shape_faults g q) → the_points_on q ≤ points_most
unfolding the_points_on
shape_points g (Even q) h =
    let n = q.ni * q.nj in
    ltb-false points_most n (or_right (ltb n 1) (ltb points_most n) h.0)
shape_points g (Uneven u) h = omega (arith, octant-few u.start)

points-by : (g : Grid) (x : Geometry) → any_of (faults_by g x) ≡ false → the_points_on (shape_by g x) ≤ points_most
points-by g x e =
    let h = (none-parts (kind_faults g x) (cells_faults (columns (kind_of x)) (cells_by g x)) (none_of _ e)).0 in
    shape_points g (shape_by g x) (none-parts (shape_faults g (shape_by g x)) (scan_faults g x) h).0

pub grid-points : (g : Grid) → any_of (grid_faults g) ≡ false → points_of g ≤ points_most
unfolding shape_of
grid-points g e = points-by g g.geometry (sym (faults-by g g.geometry refl) ∙ e)
