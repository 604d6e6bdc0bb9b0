-- The derived equality of grids is theirs by value: it answers yes exactly where two grids are one, and two are one
-- exactly where they differ in no field and no figure.
use Rattle.std.proofs.Common.{◌≡◌, Bool, true, false, not, cond, ◌||◌, ap, refl, sym, ◌∙◌, subst, Less, Equal, Greater}
use Rattle.std.proofs.Common.{is_eq as is_equal}
use lib.Signed.{lt_z}
use borrow.Author.Tests.{not-true}
use Rattle.std.specs.Bool.{Decides}
use Rattle.std.proofs.lemmas.Bool.Decides.{Decides-int_eq, Decides-eqb, Decides-and, Decides-like, same_from_decides}
use Rattle.rules.specs.declared.{Signed.Signed, Edges.Edges, Octant.Octant, Cylinder.Cylinder, Belts.Belts}
use Rattle.rules.specs.declared.{Plane.Plane, Cone.Cone, Start.Start, Geometry.Geometry, Figures.Figures, Grid.Grid}
use Rattle.rules.specs.declared.Start.TheVariants.{Equator, Pole, Neither}
use Rattle.rules.specs.declared.Geometry.TheVariants.{LatLon, Thinned, Mercator, Lambert, Gaussian, Polar}
use Rattle.rules.specs.Table.{any_of}
use Rattle.rules.specs.Figures.{the_geometry_by, the_figures_of, the_geometry_of}
use Rattle.rules.specs.Grid.{apart, the_figures_differ, grid_differs, same_grid}
use Rattle.laws.proofs.Rows.{none_of, any_none, is_eq, not_eq}
use Rattle.rules.specs.contracts.SignedPartialEq.TheImpl.{eq-value as signed_eq}
use Rattle.rules.specs.contracts.StartPartialEq.TheImpl.{eq-value as start_eq}
use Rattle.rules.specs.contracts.GeometryPartialEq.TheImpl.{eq-value as geometry_eq}
use Rattle.rules.specs.contracts.EdgesPartialEq.TheImpl.{eq-value as edges_eq}
use Rattle.rules.specs.contracts.OctantPartialEq.TheImpl.{eq-value as octant_eq}
use Rattle.rules.specs.contracts.CylinderPartialEq.TheImpl.{eq-value as cylinder_eq}
use Rattle.rules.specs.contracts.BeltsPartialEq.TheImpl.{eq-value as belts_eq}
use Rattle.rules.specs.contracts.PlanePartialEq.TheImpl.{eq-value as plane_eq}
use Rattle.rules.specs.contracts.ConePartialEq.TheImpl.{eq-value as cone_eq}
use Rattle.rules.specs.contracts.GridPartialEq.TheImpl.{eq-value as grid_eq}

-- what the derived equality of each type decides
signed : (a b : Signed) → Decides (signed_eq.it a b) (a ≡ b)
signed a b =
    Decides-like _ (λ e. λ i. record { value = e i }) (λ e. ap (λ (x : Signed). x.value) e)
    (Decides-int_eq a.value b.value)

start : (a b : Start) → Decides (start_eq.it a b) (a ≡ b)
start Equator Equator = (λ e. refl, λ e. refl)
start Equator Pole = (λ e. cc, λ e. cc)
start Equator Neither = (λ e. cc, λ e. cc)
start Pole Equator = (λ e. cc, λ e. cc)
start Pole Pole = (λ e. refl, λ e. refl)
start Pole Neither = (λ e. cc, λ e. cc)
start Neither Equator = (λ e. cc, λ e. cc)
start Neither Pole = (λ e. cc, λ e. cc)
start Neither Neither = (λ e. refl, λ e. refl)

edges : (a b : Edges) → Decides (edges_eq.it a b) (a ≡ b)
edges a b =
    Decides-like _
    (λ p. λ i. record { la2 = p.0 i; lo2 = p.1.0 i; di = p.1.1.0 i; dj = p.1.1.1 i })
    (λ e. (λ i. (e i).la2, (λ i. (e i).lo2, (λ i. (e i).di, λ i. (e i).dj))))
    (Decides-and _ _ (signed a.la2 b.la2)
    (Decides-and _ _ (signed a.lo2 b.lo2)
    (Decides-and _ _ (Decides-eqb a.di b.di) (Decides-eqb a.dj b.dj))))

octant : (a b : Octant) → Decides (octant_eq.it a b) (a ≡ b)
octant a b =
    Decides-like _
    (λ p. λ i. record { edges = p.0 i; start = p.1 i })
    (λ e. (λ i. (e i).edges, λ i. (e i).start))
    (Decides-and _ _ (edges a.edges b.edges) (start a.start b.start))

cylinder : (a b : Cylinder) → Decides (cylinder_eq.it a b) (a ≡ b)
cylinder a b =
    Decides-like _
    (λ p. λ i. record { la2 = p.0 i; lo2 = p.1.0 i; latin = p.1.1.0 i; di = p.1.1.1.0 i; dj = p.1.1.1.1 i })
    (λ e. (λ i. (e i).la2, (λ i. (e i).lo2, (λ i. (e i).latin, (λ i. (e i).di, λ i. (e i).dj)))))
    (Decides-and _ _ (signed a.la2 b.la2)
    (Decides-and _ _ (signed a.lo2 b.lo2)
    (Decides-and _ _ (signed a.latin b.latin)
    (Decides-and _ _ (Decides-eqb a.di b.di) (Decides-eqb a.dj b.dj)))))

belts : (a b : Belts) → Decides (belts_eq.it a b) (a ≡ b)
belts a b =
    Decides-like _
    (λ p. λ i. record { la2 = p.0 i; lo2 = p.1.0 i; di = p.1.1.0 i; circles = p.1.1.1 i })
    (λ e. (λ i. (e i).la2, (λ i. (e i).lo2, (λ i. (e i).di, λ i. (e i).circles))))
    (Decides-and _ _ (signed a.la2 b.la2)
    (Decides-and _ _ (signed a.lo2 b.lo2)
    (Decides-and _ _ (Decides-eqb a.di b.di) (Decides-eqb a.circles b.circles))))

plane : (a b : Plane) → Decides (plane_eq.it a b) (a ≡ b)
plane a b =
    Decides-like _
    (λ p. λ i. record { lov = p.0 i; dx = p.1.0 i; dy = p.1.1.0 i; centre = p.1.1.1 i })
    (λ e. (λ i. (e i).lov, (λ i. (e i).dx, (λ i. (e i).dy, λ i. (e i).centre))))
    (Decides-and _ _ (signed a.lov b.lov)
    (Decides-and _ _ (Decides-eqb a.dx b.dx)
    (Decides-and _ _ (Decides-eqb a.dy b.dy) (Decides-eqb a.centre b.centre))))

cone : (a b : Cone) → Decides (cone_eq.it a b) (a ≡ b)
cone a b =
    Decides-like _
    (λ p. λ i. record {
      plane = p.0 i;
      latin1 = p.1.0 i;
      latin2 = p.1.1.0 i;
      pole_la = p.1.1.1.0 i;
      pole_lo = p.1.1.1.1 i;
    })
    (λ e. (λ i. (e i).plane, (λ i. (e i).latin1, (λ i. (e i).latin2, (λ i. (e i).pole_la, λ i. (e i).pole_lo)))))
    (Decides-and _ _ (plane a.plane b.plane)
    (Decides-and _ _ (signed a.latin1 b.latin1)
    (Decides-and _ _ (signed a.latin2 b.latin2)
    (Decides-and _ _ (signed a.pole_la b.pole_la) (signed a.pole_lo b.pole_lo)))))

geometry : (a b : Geometry) → Decides (geometry_eq.it a b) (a ≡ b)
geometry (LatLon x) (LatLon y) = Decides-like _ (λ e. ap LatLon e) (λ e. cc) (edges x y)
geometry (LatLon x) (Thinned y) = (λ e. cc, λ e. cc)
geometry (LatLon x) (Mercator y) = (λ e. cc, λ e. cc)
geometry (LatLon x) (Lambert y) = (λ e. cc, λ e. cc)
geometry (LatLon x) (Gaussian y) = (λ e. cc, λ e. cc)
geometry (LatLon x) (Polar y) = (λ e. cc, λ e. cc)
geometry (Thinned x) (LatLon y) = (λ e. cc, λ e. cc)
geometry (Thinned x) (Thinned y) = Decides-like _ (λ e. ap Thinned e) (λ e. cc) (octant x y)
geometry (Thinned x) (Mercator y) = (λ e. cc, λ e. cc)
geometry (Thinned x) (Lambert y) = (λ e. cc, λ e. cc)
geometry (Thinned x) (Gaussian y) = (λ e. cc, λ e. cc)
geometry (Thinned x) (Polar y) = (λ e. cc, λ e. cc)
geometry (Mercator x) (LatLon y) = (λ e. cc, λ e. cc)
geometry (Mercator x) (Thinned y) = (λ e. cc, λ e. cc)
geometry (Mercator x) (Mercator y) = Decides-like _ (λ e. ap Mercator e) (λ e. cc) (cylinder x y)
geometry (Mercator x) (Lambert y) = (λ e. cc, λ e. cc)
geometry (Mercator x) (Gaussian y) = (λ e. cc, λ e. cc)
geometry (Mercator x) (Polar y) = (λ e. cc, λ e. cc)
geometry (Lambert x) (LatLon y) = (λ e. cc, λ e. cc)
geometry (Lambert x) (Thinned y) = (λ e. cc, λ e. cc)
geometry (Lambert x) (Mercator y) = (λ e. cc, λ e. cc)
geometry (Lambert x) (Lambert y) = Decides-like _ (λ e. ap Lambert e) (λ e. cc) (cone x y)
geometry (Lambert x) (Gaussian y) = (λ e. cc, λ e. cc)
geometry (Lambert x) (Polar y) = (λ e. cc, λ e. cc)
geometry (Gaussian x) (LatLon y) = (λ e. cc, λ e. cc)
geometry (Gaussian x) (Thinned y) = (λ e. cc, λ e. cc)
geometry (Gaussian x) (Mercator y) = (λ e. cc, λ e. cc)
geometry (Gaussian x) (Lambert y) = (λ e. cc, λ e. cc)
geometry (Gaussian x) (Gaussian y) = Decides-like _ (λ e. ap Gaussian e) (λ e. cc) (belts x y)
geometry (Gaussian x) (Polar y) = (λ e. cc, λ e. cc)
geometry (Polar x) (LatLon y) = (λ e. cc, λ e. cc)
geometry (Polar x) (Thinned y) = (λ e. cc, λ e. cc)
geometry (Polar x) (Mercator y) = (λ e. cc, λ e. cc)
geometry (Polar x) (Lambert y) = (λ e. cc, λ e. cc)
geometry (Polar x) (Gaussian y) = (λ e. cc, λ e. cc)
geometry (Polar x) (Polar y) = Decides-like _ (λ e. ap Polar e) (λ e. cc) (plane x y)

grid : (a b : Grid) → Decides (grid_eq.it a b) (a ≡ b)
grid a b =
    Decides-like _
    (λ p. λ i. record {
      ni = p.0 i;
      nj = p.1.0 i;
      la1 = p.1.1.0 i;
      lo1 = p.1.1.1.0 i;
      flags = p.1.1.1.1.0 i;
      scan = p.1.1.1.1.1.0 i;
      geometry = p.1.1.1.1.1.1 i;
    })
    (λ e. (
      λ i. (e i).ni,
      (
        λ i. (e i).nj,
        (
          λ i. (e i).la1,
          (
            λ i. (e i).lo1,
            (
              λ i. (e i).flags,
              (λ i. (e i).scan, λ i. (e i).geometry),
            ),
          ),
        ),
      ),
    ))
    (Decides-and _ _ (Decides-eqb a.ni b.ni)
    (Decides-and _ _ (Decides-eqb a.nj b.nj)
    (Decides-and _ _ (signed a.la1 b.la1)
    (Decides-and _ _ (signed a.lo1 b.lo1)
    (Decides-and _ _ (Decides-eqb a.flags b.flags)
    (Decides-and _ _ (Decides-eqb a.scan b.scan) (geometry a.geometry b.geometry)))))))

-- signed fields that are not apart
apart_is : (p q : Bool) → (p || q) ≡ false → is_equal (cond p Less (cond q Greater Equal)) ≡ true
apart_is false false h = refl
apart_is false true h = cc
apart_is true q h = cc

at_one : (a b : Signed) → apart a b ≡ false → a ≡ b
at_one a b h = (signed a b).0 (apart_is (lt_z a.value b.value) (lt_z b.value a.value) h)

apart_no : (p : Bool) → is_equal (cond p Less (cond p Greater Equal)) ≡ true → (p || p) ≡ false
apart_no false h = refl
apart_no true h = cc

at_itself : (a : Signed) → apart a a ≡ false
at_itself a = apart_no (lt_z a.value a.value) ((signed a a).1 refl)

-- a geometry out of its figures
geometry_back : (x : Geometry) → the_geometry_of (the_figures_of x) ≡ x
unfolding the_geometry_of the_geometry_by the_figures_of
geometry_back (LatLon x) = refl
geometry_back (Thinned o) = by o.start
  where
    by : (f : Start)
        → the_geometry_of (the_figures_of (Thinned (record { edges = o.edges; start = f })))
        ≡ Thinned (record { edges = o.edges; start = f })
    by Equator = refl
    by Pole = refl
    by Neither = refl
geometry_back (Mercator x) = refl
geometry_back (Lambert x) = refl
geometry_back (Gaussian x) = refl
geometry_back (Polar x) = refl

figures_same : (x y : Figures) → any_of (the_figures_differ x y) ≡ false → x ≡ y
unfolding the_figures_differ
figures_same x y h =
    let n = none_of (the_figures_differ x y) h in
    λ i. record {
      kind = is_eq x.kind y.kind n.0 i;
      rows = is_eq x.rows y.rows n.1.0 i;
      la2 = at_one x.la2 y.la2 n.1.1.0 i;
      lo2 = at_one x.lo2 y.lo2 n.1.1.1.0 i;
      di = is_eq x.di y.di n.1.1.1.1.0 i;
      dj = is_eq x.dj y.dj n.1.1.1.1.1.0 i;
      dx = is_eq x.dx y.dx n.1.1.1.1.1.1.0 i;
      dy = is_eq x.dy y.dy n.1.1.1.1.1.1.1.0 i;
      lov = at_one x.lov y.lov n.1.1.1.1.1.1.1.1.0 i;
      latin1 = at_one x.latin1 y.latin1 n.1.1.1.1.1.1.1.1.1.0 i;
      latin2 = at_one x.latin2 y.latin2 n.1.1.1.1.1.1.1.1.1.1.0 i;
      pole_la = at_one x.pole_la y.pole_la n.1.1.1.1.1.1.1.1.1.1.1.0 i;
      pole_lo = at_one x.pole_lo y.pole_lo n.1.1.1.1.1.1.1.1.1.1.1.1.0 i;
      centre = is_eq x.centre y.centre n.1.1.1.1.1.1.1.1.1.1.1.1.1.0 i;
      circles = is_eq x.circles y.circles n.1.1.1.1.1.1.1.1.1.1.1.1.1.1.0 i;
    }

figures_itself : (x : Figures) → any_of (the_figures_differ x x) ≡ false
unfolding the_figures_differ
figures_itself x =
    any_none (the_figures_differ x x) (
      not_eq x.kind x.kind refl,
      (
        not_eq x.rows x.rows refl,
        (
          at_itself x.la2,
          (
            at_itself x.lo2,
            (
              not_eq x.di x.di refl,
              (
                not_eq x.dj x.dj refl,
                (
                  not_eq x.dx x.dx refl,
                  (
                    not_eq x.dy x.dy refl,
                    (
                      at_itself x.lov,
                      (
                        at_itself x.latin1,
                        (
                          at_itself x.latin2,
                          (
                            at_itself x.pole_la,
                            (
                              at_itself x.pole_lo,
                              (not_eq x.centre x.centre refl, (not_eq x.circles x.circles refl, tt)),
                            ),
                          ),
                        ),
                      ),
                    ),
                  ),
                ),
              ),
            ),
          ),
        ),
      ),
    )

-- grids that differ in no field
grid_same : (g o : Grid) → any_of (grid_differs g o) ≡ false → g ≡ o
unfolding grid_differs
grid_same g o h =
    let n = none_of (grid_differs g o) h in
    let f = figures_same _ _ n.1.1.1.1.1.1.0 in
    let x : g.geometry ≡ o.geometry =
    sym (geometry_back g.geometry) ∙ ap the_geometry_of f ∙ geometry_back o.geometry in
    λ i. record {
      ni = is_eq g.ni o.ni n.0 i;
      nj = is_eq g.nj o.nj n.1.0 i;
      la1 = at_one g.la1 o.la1 n.1.1.0 i;
      lo1 = at_one g.lo1 o.lo1 n.1.1.1.0 i;
      flags = is_eq g.flags o.flags n.1.1.1.1.0 i;
      scan = is_eq g.scan o.scan n.1.1.1.1.1.0 i;
      geometry = x i;
    }

grid_itself : (g : Grid) → any_of (grid_differs g g) ≡ false
unfolding grid_differs
grid_itself g =
    any_none (grid_differs g g) (
      not_eq g.ni g.ni refl,
      (
        not_eq g.nj g.nj refl,
        (
          at_itself g.la1,
          (
            at_itself g.lo1,
            (
              not_eq g.flags g.flags refl,
              (
                not_eq g.scan g.scan refl,
                (
                  figures_itself (the_figures_of g.geometry),
                  tt,
                ),
              ),
            ),
          ),
        ),
      ),
    )

-- so two ways decide the same
by_value : (g o : Grid) → Decides (same_grid g o) (g ≡ o)
by_value g o = (
  λ h. grid_same g o (not-true _ h),
  λ e. subst (λ (x : Grid). same_grid g x ≡ true) e (ap not (grid_itself g)),
)

pub equal_is : (g o : Grid) → grid_eq.it g o ≡ same_grid g o
equal_is g o = same_from_decides _ _ (grid g o) (by_value g o)
