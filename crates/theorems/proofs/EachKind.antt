-- The kinds of grid: by octets 5 and 6 each is known, and what figures of no kind stand for is no octant.
use Prim.Native.Nat.{ℕ, ◌<◌}
use mathlib.Core.Path.{◌≡◌, refl, sym, ◌∙◌, ap, subst}
use mathlib.Core.Logic.{⊎_elim}
use mathlib.Core.Bool.{Bool, true, false, ◌&&◌, ◌||◌, cond}
use mathlib.Core.List.{map}
use native.Mathlib.Omega.{arith}
use borrow.Author.Tests.{eqb-true, eq-eqb, ne_eqb}
use lib.Dec.{eqb}
use Rattle.bits.proofs.Tests.{both}
use Rattle.rules.specs.declared.{Start.Start, Start.TheVariants.Neither, Octant.Octant, Figures.Figures}
use Rattle.rules.specs.declared.{Geometry.Geometry, Geometry.TheVariants.Thinned, Grid.Grid}
use Rattle.rules.specs.Counts.{total, counts_of}
use Rattle.rules.specs.Chart.{the_points_on}
use Rattle.rules.specs.Numbers.{octet}
use Rattle.rules.specs.Table.{any_of, or_all}
use Rattle.rules.specs.Layouts.{Kind, latlon, thinned, mercator, lambert, gaussian, polar, length_by, fifth, sixth}
use Rattle.rules.specs.Figures.{the_start_number, the_geometry_by, the_figures_of, the_edges_in, the_geometry_of}
use Rattle.rules.specs.Grid.{admits, the_gds_bad, kind_at, shape_by, shape_of, points_of, grid_faults}
use Rattle.laws.proofs.Rows.{none_of}
use Rattle.theorems.specs.Kinds.{OneKind, added, FormerStay, KindUnknown, RowsUnknown, UnknownRefused}
use Rattle.theorems.proofs.Octants.{one-of-eight}

-- the kind of octets 5 and 6
abbrev kind_by : ℕ → ℕ → Kind
kind_by five six =
    cond (eqb five 33) thinned
    (cond (eqb six 1) mercator
    (cond (eqb six 3) lambert (cond (eqb six 4) gaussian (cond (eqb six 5) polar latlon))))

known : (k : Kind) → kind_by (fifth k) (sixth k) ≡ k
known latlon = refl
known thinned = refl
known mercator = refl
known lambert = refl
known gaussian = refl
known polar = refl

by-octets : (l a b c : ℕ) (k : Kind)
    → (eqb l (length_by k) && (eqb a 0 && (eqb b (fifth k) && eqb c (sixth k)))) ≡ true → kind_by b c ≡ k
by-octets l a b c k h =
    let u = eqb b (fifth k) && eqb c (sixth k) in
    let t = both (eqb b (fifth k)) (eqb c (sixth k)) (both (eqb a 0) u (both (eqb l (length_by k)) (eqb a 0 && u) h).1).1 in
    (λ i. kind_by (eqb-true b (fifth k) t.0 i) (eqb-true c (sixth k) t.1 i)) ∙ known k

pub one-kind : OneKind
one-kind s p k l a b =
    let o = octet s p.start in
    sym (by-octets p.len (o 4) (o 5) (o 6) k a) ∙ by-octets p.len (o 4) (o 5) (o 6) l b

-- a test that does not apply decides nothing
or_none : (a : Bool) → (a || false) ≡ a
or_none true = refl
or_none false = refl

pub former_stay : FormerStay
unfolding the_gds_bad kind_at any_of or_all
former_stay s p h =
    let n = none_of (map (admits s p) added) h in
    (rw (n.0, n.1.0, n.1.1.0, n.1.1.1.0, or_none, or_none, or_none, or_none), rw (n.0, n.1.0, n.1.1.0, n.1.1.1.0))

-- a thinned grid with counts that no octant has
neither : (g : Grid) (o : Octant) → g.geometry ≡ Thinned o → o.start ≡ Neither
    → (any_of (grid_faults g) ≡ true) × (points_of g ≡ 0)
unfolding shape_of the_points_on total counts_of the_figures_of
neither g o e n =
    (go (any_of (grid_faults g)) refl, ap (λ (x : Geometry). the_points_on (shape_by g x)) e ∙ ap (λ (f : Start). total (counts_of f)) n)
  where
    go : (t : Bool) → any_of (grid_faults g) ≡ t → t ≡ true
    go true h = refl
    go false h =
        let w = (one-of-eight g o e h).rows in
        absurd (omega (arith, subst (λ (x : Geometry). (the_figures_of x).rows < 3) e w, ap the_start_number n))

unknown_kind : (f : Figures) → KindUnknown f → the_geometry_of f ≡ Thinned (record { edges = the_edges_in f; start = Neither })
unfolding the_geometry_of
unknown_kind f u = go (eqb f.rows 0) refl
  where
    go : (t : Bool) → eqb f.rows 0 ≡ t → the_geometry_of f ≡ Thinned (record { edges = the_edges_in f; start = Neither })
    go true e =
        let o = u.other (eqb-true f.rows 0 e) in
        rw (ne_eqb f.kind 0 u.kind, e, ne_eqb f.kind 1 o.0, ne_eqb f.kind 3 o.1, ne_eqb f.kind 4 o.2, ne_eqb f.kind 5 o.3)
    go false e = rw (ne_eqb f.kind 0 u.kind, e)

unknown_rows : (f : Figures) → RowsUnknown f → the_geometry_of f ≡ Thinned (record { edges = the_edges_in f; start = Neither })
unfolding the_geometry_of the_geometry_by
unknown_rows f u =
    let r = f.rows in
    rw (
      eq-eqb f.kind 0 u.kind,
      ne_eqb r 0 (λ e. omega (arith, e, u.rows)),
      ne_eqb r 1 (λ e. omega (arith, e, u.rows)),
      ne_eqb r 2 (λ e. omega (arith, e, u.rows)),
    )

pub unknown_refused : UnknownRefused
unknown_refused g f e u =
    let it = ⊎_elim (unknown_kind f) (unknown_rows f) u in
    neither g (record { edges = the_edges_in f; start = Neither }) (e ∙ it) refl
