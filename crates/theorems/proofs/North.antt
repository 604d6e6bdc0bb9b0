-- Demand 2: the chart's row 0 is the row that the latitudes call north, where a kind of grid has them: row 9 holds the
-- scanning flags to the latitudes, and the chart is drawn by the flags. Else it is the row of the greatest y.
use Prim.Native.Nat.{ℕ, ◌-◌, ◌<◌}
use mathlib.Core.Bool.{Bool, true, false, not, cond}
use mathlib.Core.Path.{◌≡◌, refl, sym, subst, ◌∙◌, ap}
use mathlib.Core.Logic.{inl, inr}
use native.Mathlib.Omega.{arith}
use borrow.Author.Tests.{lt-ltb, not-false}
use mathlib.Core.List.{[], ◌∷◌}
use lib.Dec.{ltb}
use lib.ListN.{length}
use lib.Signed.{lt_z}
use Rattle.rules.specs.declared.{Signed.Signed, Shape.Shape}
use Rattle.rules.specs.declared.{Shape.TheVariants.Even, Shape.TheVariants.Uneven, Octant.Octant, Geometry.Geometry}
use Rattle.rules.specs.declared.{Geometry.TheVariants.LatLon, Geometry.TheVariants.Thinned}
use Rattle.rules.specs.declared.{Geometry.TheVariants.Mercator, Geometry.TheVariants.Lambert}
use Rattle.rules.specs.declared.{Geometry.TheVariants.Gaussian, Geometry.TheVariants.Polar, Grid.Grid, Spot.Spot}
use Rattle.rules.specs.Counts.{counts_of}
use Rattle.rules.specs.Numbers.{bit}
use Rattle.rules.specs.Table.{any_of}
use Rattle.rules.specs.Layouts.{thinned}
use Rattle.rules.specs.Figures.{the_figures_of}
use Rattle.rules.specs.Grid.{kind_of, the_rectangle_of, shape_by, shape_of, grid_or_zeros, the_scan_bad, scan_faults, shape_faults, kind_faults}
use Rattle.rules.specs.Grid.{grid_faults}
use Rattle.rules.specs.Chart.{north, turned, the_spot_among, the_rows_on, the_spot_on}
use Rattle.rules.specs.Reading.{grid_of}
use Rattle.laws.proofs.Rows.{NoneOf, none_of, none-parts, and_false}
use Rattle.laws.proofs.Counts.{joined}
use Rattle.laws.proofs.Grids.{faults-by}
use Rattle.laws.proofs.Judged.{judged}
use Rattle.theorems.specs.Reads.{DrawnIn, NorthOnTop, above_least, GreatestOnTop, TopBy, TopOfChart, OneChart}
use Rattle.theorems.proofs.Octants.{one-of-eight}
use Rattle.theorems.proofs.Place.{chart-drawn}

-- whether a shape's rows run north
abbrev north_on : Shape → Bool
north_on (Even q) = north q.scan
north_on (Uneven u) = north u.scan

-- scanned row j by the flag: of a rectangle, and of an octant
row-drawn : (g : Shape) (j : ℕ) → j < the_rows_on g → (b : Bool) → north_on g ≡ b → DrawnIn g j (cond b (the_rows_on g - 1 - j) j)
unfolding the_rows_on the_spot_on the_spot_among turned
row-drawn (Even q) j l b e i li =
    ap (λ (c : Spot). c.row) (chart-drawn q.ni q.nj q.scan j i l li)
    ∙ ap (λ (x : Bool). cond x (q.nj - 1 - j) j) e
row-drawn (Uneven u) j l b e i li =
    let counts = counts_of u.start in
    ap (turned (north u.scan) (length counts)) (joined counts j i l li).1
    ∙ ap (λ (x : Bool). cond x (length counts - 1 - j) j) e

drawn : (g : Shape) (j : ℕ) → j < the_rows_on g → (b : Bool) → north_on g ≡ b → (r : ℕ) → cond b (the_rows_on g - 1 - j) j ≡ r
    → DrawnIn g j r
drawn g j l b e r f i li = row-drawn g j l b e i li ∙ f

by_flag : (g : Shape) (la1 la2 : Signed) → 1 < the_rows_on g → (b : Bool) → north_on g ≡ b
    → not (cond b (lt_z la1.value la2.value) (lt_z la2.value la1.value)) ≡ false
    → NorthOnTop g la1 la2
by_flag g la1 la2 l true e h =
    let n = the_rows_on g in
    let up : n - 1 - 0 ≡ n - 1 = omega (arith, l) in
    let down : n - 1 - (n - 1) ≡ 0 = omega (arith, l) in
    inr (
      not-false _ h,
      drawn g 0 (omega (arith, l)) true e (n - 1) up,
      drawn g (n - 1)
          (omega (arith, l)) true e 0 down,
    )
by_flag g la1 la2 l false e h =
    let n = the_rows_on g in
    inl (
      not-false _ h,
      drawn g 0 (omega (arith, l)) false e 0 refl,
      drawn g (n - 1)
          (omega (arith, l)) false e (n - 1) refl,
    )

-- of any grid that row 9 passes and that has a last latitude to go by: by the scan test
by-scan : (g : Grid) (x : Geometry) (la2 : Signed) → g.geometry ≡ x → shape_by g x ≡ the_rectangle_of g
    → scan_faults g x ≡ the_scan_bad g.nj g.scan g.la1 la2 ∷ []
    → any_of (grid_faults g) ≡ false
    → 1 < the_rows_on (the_rectangle_of g)
    → NorthOnTop (the_rectangle_of g) g.la1 la2
unfolding the_rows_on the_scan_bad bit
by-scan g x la2 e q t h l =
    let f = (none-parts (kind_faults g x) _ (none_of _ (sym (faults-by g x e) ∙ h))).0 in
    let k = (none-parts (shape_faults g (shape_by g x)) (scan_faults g x) f).1 in
    by_flag (the_rectangle_of g) g.la1 la2 l (north g.scan) refl
    (and_false (ltb 1 g.nj) _ (lt-ltb _ _ l) (subst NoneOf t k).0)

-- of a grid that has none: by bit 2 alone
up_or_down : (b : Bool) (n j : ℕ) → j < n → cond b (n - 1 - j) j ≡ n - 1 - cond b j (n - 1 - j)
up_or_down true n j l = refl
up_or_down false n j l = omega (arith, l)

greatest_on-top : (g : Grid) → GreatestOnTop (the_rectangle_of g) g.scan
greatest_on-top g j l =
    let q = the_rectangle_of g in
    drawn q j l (north g.scan) refl (the_rows_on q - 1 - above_least g.scan (the_rows_on q) j)
    (up_or_down (north g.scan) (the_rows_on q) j l)

-- and of an octant, since it is one of the eight
by-eight : (g : Grid) (o : Octant) → g.geometry ≡ Thinned o → any_of (grid_faults g) ≡ false
    → 1 < the_rows_on (shape_by g (Thinned o))
    → NorthOnTop (shape_by g (Thinned o)) g.la1 o.edges.la2
unfolding the_figures_of bit
by-eight g o e h l =
    let f = one-of-eight g o e h in
    let up = subst (λ (y : Geometry). lt_z g.la1.value (the_figures_of y).la2.value ≡ true) e f.up in
    by_flag (shape_by g (Thinned o)) g.la1 o.edges.la2 l true (flag g.scan f.scan) (ap not up)
  where
    flag : (scan : ℕ) → scan ≡ 64 → north scan ≡ true
    flag scan e = ap north e

by_kind : (g : Grid) (x : Geometry) → g.geometry ≡ x → any_of (grid_faults g) ≡ false → 1 < the_rows_on (shape_by g x)
    → TopBy (shape_by g x) g x
by_kind g (LatLon x) e h l = by-scan g (LatLon x) x.la2 e refl refl h l
by_kind g (Thinned o) e h l = by-eight g o e h l
by_kind g (Mercator x) e h l = by-scan g (Mercator x) x.la2 e refl refl h l
by_kind g (Lambert x) e h l = greatest_on-top g
by_kind g (Gaussian x) e h l = by-scan g (Gaussian x) x.la2 e refl refl h l
by_kind g (Polar x) e h l = greatest_on-top g

pub top-of-chart : TopOfChart
unfolding shape_of
top-of-chart s lent t l =
    let g = grid_or_zeros (grid_of s) in
    by_kind g g.geometry refl (judged s lent t).grid l

-- all kinds but the thinned one have the same chart
pub one-chart : OneChart
unfolding shape_of
one-chart g n = by g.geometry n
  where
    by : (x : Geometry) → (kind_of x ≡ thinned → ⊥) → shape_by g x ≡ the_rectangle_of g
    by (LatLon x) n = refl
    by (Thinned x) n = absurd (n refl)
    by (Mercator x) n = refl
    by (Lambert x) n = refl
    by (Gaussian x) n = refl
    by (Polar x) n = refl
