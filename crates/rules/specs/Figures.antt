-- A grid's geometry in figures, as faces, tables of grids and files of vectors hold it, and back. What a kind does not
-- have is zero.
use Rattle.std.specs.Prelude.{ℕ, cond, eqb, pos}
use Rattle.rules.specs.declared.{Signed.Signed, Start.Start, Start.TheVariants.Equator, Start.TheVariants.Pole}
use Rattle.rules.specs.declared.{Start.TheVariants.Neither, Edges.Edges, Cylinder.Cylinder}
use Rattle.rules.specs.declared.{Belts.Belts, Plane.Plane, Cone.Cone, Geometry.Geometry, Figures.Figures}
use Rattle.rules.specs.declared.{Geometry.TheVariants.LatLon, Geometry.TheVariants.Thinned}
use Rattle.rules.specs.declared.{Geometry.TheVariants.Mercator, Geometry.TheVariants.Lambert}
use Rattle.rules.specs.declared.{Geometry.TheVariants.Gaussian, Geometry.TheVariants.Polar}
use Rattle.rules.specs.Numbers.{plain}

-- how many points each row has, as a number: 0 Ni in every row, 1 an octant's counts from the equator, 2 from the pole,
-- 3 counts that no octant has; and back, another number counting as 3
abbrev pub the_start_number : Start → ℕ
the_start_number Equator = 1
the_start_number Pole = 2
the_start_number Neither = 3

abbrev pub start_by : ℕ → Start
start_by rows = cond (eqb rows 1) Equator (cond (eqb rows 2) Pole Neither)

-- of a latitude/longitude grid, thinned or not
unfoldable pub the_geometry_by : ℕ → Edges → Geometry
the_geometry_by rows x = cond (eqb rows 0) (LatLon x) (Thinned (record { edges = x; start = start_by rows }))

-- all figures in a row: kind and rows; La2, Lo2, Di, Dj; steps in metres; LoV, the latitudes at which a cylinder or a
-- cone cuts the earth, the southern pole; the projection centre flag; a Gaussian grid's N
abbrev pub figures : (kind rows : ℕ) → (la2 lo2 : Signed) → (di dj dx dy : ℕ) → (lov latin1 latin2 la lo : Signed)
    → (centre circles : ℕ)
    → Figures
figures kind rows la2 lo2 di dj dx dy lov latin1 latin2 la lo centre circles = record {
  kind = kind;
  rows = rows;
  la2 = la2;
  lo2 = lo2;
  di = di;
  dj = dj;
  dx = dx;
  dy = dy;
  lov = lov;
  latin1 = latin1;
  latin2 = latin2;
  pole_la = la;
  pole_lo = lo;
  centre = centre;
  circles = circles;
}

-- where a kind has no such angle
abbrev pub none : Signed
none = plain (pos 0)

unfoldable pub the_figures_of : Geometry → Figures
the_figures_of (LatLon x) = figures 0 0 x.la2 x.lo2 x.di x.dj 0 0 none none none none none 0 0
the_figures_of (Thinned o) =
    let x = o.edges in
    figures 0 (the_start_number o.start) x.la2 x.lo2 x.di x.dj 0 0 none none none none none 0 0
the_figures_of (Mercator x) = figures 1 0 x.la2 x.lo2 0 0 x.di x.dj none x.latin none none none 0 0
the_figures_of (Lambert x) =
    let q = x.plane in
    figures 3 0 none none 0 0 q.dx q.dy q.lov x.latin1 x.latin2 x.pole_la x.pole_lo
    q.centre 0
the_figures_of (Gaussian x) = figures 4 0 x.la2 x.lo2 x.di 0 0 0 none none none none none 0 x.circles
the_figures_of (Polar q) = figures 5 0 none none 0 0 q.dx q.dy q.lov none none none none q.centre 0

-- and back. What its kind does not have is not looked at, but rows: only a latitude/longitude grid is thinned. Figures
-- of no kind stand for a thinned grid with counts that no octant has: it has no points, and 9 refuses it
abbrev pub the_edges_in : Figures → Edges
the_edges_in f = record { la2 = f.la2; lo2 = f.lo2; di = f.di; dj = f.dj }

abbrev pub the_plane_in : Figures → Plane
the_plane_in f = record { lov = f.lov; dx = f.dx; dy = f.dy; centre = f.centre }

abbrev pub the_cylinder_in : Figures → Cylinder
the_cylinder_in f = record { la2 = f.la2; lo2 = f.lo2; latin = f.latin1; di = f.dx; dj = f.dy }

abbrev pub the_cone_in : Figures → Cone
the_cone_in f = record {
  plane = the_plane_in f;
  latin1 = f.latin1;
  latin2 = f.latin2;
  pole_la = f.pole_la;
  pole_lo = f.pole_lo;
}

abbrev pub the_belts_in : Figures → Belts
the_belts_in f = record { la2 = f.la2; lo2 = f.lo2; di = f.di; circles = f.circles }

unfoldable pub the_geometry_of : Figures → Geometry
the_geometry_of f =
    let other = Thinned (record { edges = the_edges_in f; start = Neither }) in
    cond (eqb f.kind 0) (the_geometry_by f.rows (the_edges_in f))
    (cond (eqb f.rows 0)
    (cond (eqb f.kind 1) (Mercator (the_cylinder_in f))
    (cond (eqb f.kind 3) (Lambert (the_cone_in f))
    (cond (eqb f.kind 4) (Gaussian (the_belts_in f)) (cond (eqb f.kind 5) (Polar (the_plane_in f)) other))))
    other)
