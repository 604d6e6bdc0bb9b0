-- Document 01, "GDS", the catalogue, and refusals 7 to 9; document 02, R-1, the thinned octants, and R-4, "Mercator,
-- Lambert, Gaussian and polar stereographic grids".
use Rattle.std.specs.Prelude.{ℕ, zero, suc, ◌+◌, ◌*◌, Bool, true, false, not, ◌&&◌, ◌||◌, cond, List, [], ◌∷◌, ◌++◌}
use Rattle.std.specs.Prelude.{None, Option, Some}
use Rattle.std.specs.Prelude.{map, ltb, eqb, ℤ, pos, negsuc}
use Rattle.std.specs.Int.Signed.{lt_z}
use Rattle.rules.specs.declared.{Signed.Signed, Part.Part, Start.Start, Start.TheVariants.Equator}
use Rattle.rules.specs.declared.{Start.TheVariants.Pole, Start.TheVariants.Neither, Shape.Shape}
use Rattle.rules.specs.declared.{Shape.TheVariants.Even, Shape.TheVariants.Uneven, Edges.Edges}
use Rattle.rules.specs.declared.{Plane.Plane, Geometry.Geometry}
use Rattle.rules.specs.declared.{Geometry.TheVariants.LatLon, Geometry.TheVariants.Thinned}
use Rattle.rules.specs.declared.{Geometry.TheVariants.Mercator, Geometry.TheVariants.Lambert}
use Rattle.rules.specs.declared.{Geometry.TheVariants.Gaussian, Geometry.TheVariants.Polar, Figures.Figures}
use Rattle.rules.specs.declared.{Grid.Grid, Entry.Entry}
use Rattle.rules.specs.Bounds.{octant_rows, points_most}
use Rattle.rules.specs.Counts.{counts_of}
use Rattle.rules.specs.Chart.{north, the_points_on}
use Rattle.rules.specs.Numbers.{Field, field, laid, octet, plain, not_within}
use Rattle.rules.specs.Table.{any_of}
use Rattle.rules.specs.Columns.{Cells, cells_at, cells_fields, cells_faults, cells_stains}
use Rattle.rules.specs.Layouts.{Kind, latlon, thinned, mercator, lambert, gaussian, polar, count_columns}
use Rattle.rules.specs.Layouts.{cone_columns, columns, length_by, fifth, sixth, kinds}
use Rattle.rules.specs.Figures.{the_geometry_by, the_figures_of}

-- 8: "GDS length or octets 4 to 6 not as above", "8 admits this length and octet 5", "8 names the accepted types and
-- lengths"; octet 4 is 0 in all
abbrev pub admits : List ℕ → Part → Kind → Bool
admits s p k =
    eqb p.len (length_by k)
    && (eqb (octet s p.start 4) 0
    && (eqb (octet s p.start 5) (fifth k) && eqb (octet s p.start 6) (sixth k)))

unfoldable pub the_gds_bad : List ℕ → Part → Bool
the_gds_bad s p = not (any_of (map (admits s p) kinds))

-- the first kind that a section is admitted as; where there is none, 8 refuses it
abbrev pub first_kind : List Kind → (Kind → Bool) → Kind
first_kind [] test = latlon
first_kind (k ∷ ks) test = cond (test k) k (first_kind ks test)

unfoldable pub kind_at : List ℕ → Part → Kind
kind_at s p = first_kind kinds (admits s p)

-- the counts that such columns hold, and columns that hold these counts
abbrev pub counts_held : (k rows : ℕ) → Cells (count_columns k rows) → List ℕ
counts_held k zero x = []
counts_held k (suc rows) x = x.0 ∷ counts_held (k + 2) rows x.1

abbrev pub count_cells : (k rows : ℕ) → List ℕ → Cells (count_columns k rows)
count_cells k zero counts = tt
count_cells k (suc rows) [] = (0, count_cells (k + 2) rows [])
count_cells k (suc rows) (c ∷ counts) = (c, count_cells (k + 2) rows counts)

-- which octants' counts these are
unfoldable pub same_counts : List ℕ → List ℕ → Bool
same_counts [] [] = true
same_counts [] (d ∷ ds) = false
same_counts (c ∷ cs) [] = false
same_counts (c ∷ cs) (d ∷ ds) = eqb c d && same_counts cs ds

unfoldable pub start_of : List ℕ → Start
start_of counts =
    cond (same_counts counts (counts_of Equator)) Equator (cond (same_counts counts (counts_of Pole)) Pole Neither)

-- what every kind has in the same octets, and a geometry
abbrev pub grid_with : (ni nj : ℕ) (la1 lo1 : Signed) (flags scan : ℕ) → Geometry → Grid
grid_with ni nj la1 lo1 flags scan x =
    record { ni = ni; nj = nj; la1 = la1; lo1 = lo1; flags = flags; scan = scan; geometry = x }

-- the grid whose section holds these cells, column by column
unfoldable pub grid_of_cells : (k : Kind) → Cells (columns k) → Grid
grid_of_cells latlon x =
    let (ni, (nj, (la1, (lo1, (flags, (la2, (lo2, (di, (dj, (scan, rest)))))))))) = x in
    grid_with ni nj la1 lo1 flags scan (LatLon (record { la2 = la2; lo2 = lo2; di = di; dj = dj }))
grid_of_cells thinned x =
    let (ni, (nj, (la1, (lo1, (flags, (la2, (lo2, (di, (dj, (scan, (none, counts))))))))))) = x in
    let edges : Edges = record { la2 = la2; lo2 = lo2; di = di; dj = dj } in
    let start = start_of (counts_held 33 octant_rows counts) in
    grid_with ni nj la1 lo1 flags scan (Thinned (record { edges = edges; start = start }))
grid_of_cells mercator x =
    let (ni, (nj, (la1, (lo1, (flags, (la2, (lo2, (latin, (none, (scan, (di, (dj, rest)))))))))))) = x in
    grid_with ni nj la1 lo1 flags scan (Mercator (record { la2 = la2; lo2 = lo2; latin = latin; di = di; dj = dj }))
grid_of_cells lambert x =
    let (ni, (nj, (la1, (lo1, (flags, (lov, (dx, (dy, (centre, (scan, own)))))))))) = x in
    let (latin1, (latin2, (la, (lo, rest)))) = own in
    let plane : Plane = record { lov = lov; dx = dx; dy = dy; centre = centre } in
    grid_with ni nj la1 lo1 flags scan
    (Lambert (record { plane = plane; latin1 = latin1; latin2 = latin2; pole_la = la; pole_lo = lo }))
grid_of_cells gaussian x =
    let (ni, (nj, (la1, (lo1, (flags, (la2, (lo2, (di, (circles, (scan, rest)))))))))) = x in
    grid_with ni nj la1 lo1 flags scan (Gaussian (record { la2 = la2; lo2 = lo2; di = di; circles = circles }))
grid_of_cells polar x =
    let (ni, (nj, (la1, (lo1, (flags, (lov, (dx, (dy, (centre, (scan, rest)))))))))) = x in
    grid_with ni nj la1 lo1 flags scan (Polar (record { lov = lov; dx = dx; dy = dy; centre = centre }))

-- and back
abbrev pub kind_of : Geometry → Kind
kind_of (LatLon x) = latlon
kind_of (Thinned x) = thinned
kind_of (Mercator x) = mercator
kind_of (Lambert x) = lambert
kind_of (Gaussian x) = gaussian
kind_of (Polar x) = polar

-- octets 7 to 17, and what follows
abbrev pub front_cells : {C : Type 0} → Grid → C → ℕ × (ℕ × (Signed × (Signed × (ℕ × C))))
front_cells g own = (g.ni, (g.nj, (g.la1, (g.lo1, (g.flags, own)))))

unfoldable pub cells_by : Grid → (x : Geometry) → Cells (columns (kind_of x))
cells_by g (LatLon x) = front_cells g (x.la2, (x.lo2, (x.di, (x.dj, (g.scan, (tt, tt))))))
cells_by g (Thinned o) =
    let x = o.edges in
    let counts = count_cells 33 octant_rows (counts_of o.start) in
    front_cells g (x.la2, (x.lo2, (x.di, (x.dj, (g.scan, (tt, counts))))))
cells_by g (Mercator x) =
    front_cells g (x.la2, (x.lo2, (x.latin, (tt, (g.scan, (x.di, (x.dj, (tt, tt))))))))
cells_by g (Lambert x) =
    let q = x.plane in
    let own : Cells cone_columns = (x.latin1, (x.latin2, (x.pole_la, (x.pole_lo, (tt, tt))))) in
    front_cells g (q.lov, (q.dx, (q.dy, (q.centre, (g.scan, own)))))
cells_by g (Gaussian x) = front_cells g (x.la2, (x.lo2, (x.di, (x.circles, (g.scan, (tt, tt))))))
cells_by g (Polar q) = front_cells g (q.lov, (q.dx, (q.dy, (q.centre, (g.scan, (tt, tt))))))

abbrev pub cells_of : (g : Grid) → Cells (columns (kind_of g.geometry))
cells_of g = cells_by g g.geometry

-- the grid that a section says, whatever its octets are
unfoldable pub the_grid_at : List ℕ → Part → Grid
the_grid_at s p = grid_of_cells (kind_at s p) (cells_at (columns (kind_at s p)) s p.start)

-- how many octets a GDS of a grid has
abbrev pub gds_length_of : Grid → ℕ
gds_length_of g = length_by (kind_of g.geometry)

-- octets 1 to 6, and what follows them
abbrev pub head_fields : Kind → List Field → List Field
head_fields k rest = field 3 (length_by k) ∷ field 1 0 ∷ field 1 (fifth k) ∷ field 1 (sixth k) ∷ rest

abbrev pub fields_by : Grid → Geometry → List Field
fields_by g x = head_fields (kind_of x) (cells_fields (columns (kind_of x)) (cells_by g x))

unfoldable pub grid_fields : Grid → List Field
grid_fields g = fields_by g g.geometry

unfoldable pub gds_of : Grid → List ℕ
gds_of g = laid (grid_fields g) []

-- what keeps a grid section from coming back octet for octet
unfoldable pub grid_stains : List ℕ → Part → List Bool
grid_stains s p = cells_stains (columns (kind_at s p)) s p.start

-- how a grid's points lie; R-4: "The facts about scanning and points are proved once over all grid kinds": of all kinds
-- whose rows are not thinned it is the same function of Ni, Nj and the scanning flags
abbrev pub the_rectangle_of : Grid → Shape
the_rectangle_of g = Even (record { ni = g.ni; nj = g.nj; scan = g.scan })

abbrev pub shape_by : Grid → Geometry → Shape
shape_by g (LatLon x) = the_rectangle_of g
shape_by g (Thinned o) = Uneven (record { start = o.start; scan = g.scan })
shape_by g (Mercator x) = the_rectangle_of g
shape_by g (Lambert x) = the_rectangle_of g
shape_by g (Gaussian x) = the_rectangle_of g
shape_by g (Polar x) = the_rectangle_of g

unfoldable pub shape_of : Grid → Shape
shape_of g = shape_by g g.geometry

-- n
abbrev pub points_of : Grid → ℕ
points_of g = the_points_on (shape_of g)

-- the catalogue: "resolution flags are 128, our own setting"
abbrev pub entry : ℕ → ℕ → ℕ → ℤ → ℤ → ℤ → ℤ → ℕ → ℕ → ℕ → ℕ → Entry
entry n i j a b c d e f s rows = record {
  number = n;
  grid = record {
    ni = i;
    nj = j;
    la1 = plain a;
    lo1 = plain b;
    flags = 128;
    scan = s;
    geometry = the_geometry_by rows (record { la2 = plain c; lo2 = plain d; di = e; dj = f });
  };
}

-- document 01's seven
unfoldable pub rectangles : List Entry
rectangles =
    entry 2 144 73 (pos 90000) (pos 0) (negsuc 89999) (pos 357500) 2500 2500 0 0
    ∷ entry 3 360 181 (pos 90000) (pos 0) (negsuc 89999) (pos 359000) 1000 1000 0 0
    ∷ entry 29 145 37 (pos 0) (pos 0) (pos 90000) (pos 360000) 2500 2500 64 0
    ∷ entry 30 145 37 (negsuc 89999) (pos 0) (pos 0) (pos 360000) 2500 2500 64 0
    ∷ entry 33 181 46 (pos 0) (pos 0) (pos 90000) (pos 360000) 2000 2000 64 0
    ∷ entry 34 181 46 (negsuc 89999) (pos 0) (pos 0) (pos 360000) 2000 2000 64 0
    ∷ entry 45 288 145 (pos 90000) (pos 0) (negsuc 89999) (pos 358750) 1250 1250 0 0
    ∷ []

-- R-1: "grids 37 to 44 .. Ni and Di are all ones, Nj is 73"; corners, Dj and scanning flags are document 003's
abbrev pub octant : ℕ → ℤ → ℤ → ℤ → ℤ → ℕ → Entry
octant n a b c d rows = entry n 65535 octant_rows a b c d 65535 1250 64 rows

unfoldable pub octants : List Entry
octants =
    octant 37 (pos 0) (pos 330000) (pos 90000) (pos 60000) 1
    ∷ octant 38 (pos 0) (pos 60000) (pos 90000) (pos 150000) 1
    ∷ octant 39 (pos 0) (pos 150000) (pos 90000) (pos 240000) 1
    ∷ octant 40 (pos 0) (pos 240000) (pos 90000) (pos 330000) 1
    ∷ octant 41 (negsuc 89999) (pos 330000) (pos 0) (pos 60000) 2
    ∷ octant 42 (negsuc 89999) (pos 60000) (pos 0) (pos 150000) 2
    ∷ octant 43 (negsuc 89999) (pos 150000) (pos 0) (pos 240000) 2
    ∷ octant 44 (negsuc 89999) (pos 240000) (pos 0) (pos 330000) 2
    ∷ []

unfoldable pub catalogue : List Entry
catalogue = rectangles ++ octants

-- the first row of a number
unfoldable pub lookup : List Entry → ℕ → Option Grid
lookup [] n = None
lookup (e ∷ es) n = cond (eqb e.number n) (Some e.grid) (lookup es n)

-- "Without a GDS, PDS octet 7 picks from this catalogue .. With one, the GDS decides and octet 7 is not compared", of a
-- PDS at place p
unfoldable pub the_grid_from : Option Grid → List ℕ → ℕ → Option Grid
the_grid_from (Some g) s p = Some g
the_grid_from None s p = lookup catalogue (octet s p 7)

-- 7: "no GDS, octet 7 not in the catalogue"
abbrev pub the_grid_missing : Option Grid → Bool
the_grid_missing None = true
the_grid_missing (Some g) = false

unfoldable pub the_no_grid : Grid
the_no_grid =
    let none = plain (pos 0) in
    record {
      ni = 0;
      nj = 0;
      la1 = none;
      lo1 = none;
      flags = 0;
      scan = 0;
      geometry = LatLon (record { la2 = none; lo2 = none; di = 0; dj = 0 });
    }

-- the grid; zeros where there is none, which 7 refuses
abbrev pub grid_or_zeros : Option Grid → Grid
grid_or_zeros None = the_no_grid
grid_or_zeros (Some g) = g

-- "If Nj > 1, rows running north need La2 above La1, else La2 below La1; with Nj = 1 this is not tested"
unfoldable pub the_scan_bad : ℕ → ℕ → Signed → Signed → Bool
the_scan_bad nj scan la1 la2 =
    ltb 1 nj && not (cond (north scan) (lt_z la1.value la2.value) (lt_z la2.value la1.value))

-- R-1: "by value one of the eight": where two grids differ, field by field, signed fields by their values
abbrev pub apart : Signed → Signed → Bool
apart a b = lt_z a.value b.value || lt_z b.value a.value

unfoldable pub the_figures_differ : Figures → Figures → List Bool
the_figures_differ x y =
    not (eqb x.kind y.kind)
    ∷ not (eqb x.rows y.rows)
    ∷ apart x.la2 y.la2
    ∷ apart x.lo2 y.lo2
    ∷ not (eqb x.di y.di)
    ∷ not (eqb x.dj y.dj)
    ∷ not (eqb x.dx y.dx)
    ∷ not (eqb x.dy y.dy)
    ∷ apart x.lov y.lov
    ∷ apart x.latin1 y.latin1
    ∷ apart x.latin2 y.latin2
    ∷ apart x.pole_la y.pole_la
    ∷ apart x.pole_lo y.pole_lo
    ∷ not (eqb x.centre y.centre)
    ∷ not (eqb x.circles y.circles)
    ∷ []

unfoldable pub grid_differs : Grid → Grid → List Bool
grid_differs g o =
    not (eqb g.ni o.ni)
    ∷ not (eqb g.nj o.nj)
    ∷ apart g.la1 o.la1
    ∷ apart g.lo1 o.lo1
    ∷ not (eqb g.flags o.flags)
    ∷ not (eqb g.scan o.scan)
    ∷ any_of (the_figures_differ (the_figures_of g.geometry) (the_figures_of o.geometry))
    ∷ []

abbrev pub same_grid : Grid → Grid → Bool
same_grid g o = not (any_of (grid_differs g o))

unfoldable pub like_one : List Entry → Grid → Bool
like_one [] g = false
like_one (e ∷ es) g = same_grid g e.grid || like_one es g

-- R-4: "The scan test against latitudes holds for Mercator and Gaussian only; on the other two, chart row 0 is the
-- greatest y"; of a thinned grid the next rule decides
abbrev pub scan_faults : Grid → Geometry → List Bool
scan_faults g (LatLon x) = the_scan_bad g.nj g.scan g.la1 x.la2 ∷ []
scan_faults g (Thinned o) = []
scan_faults g (Mercator x) = the_scan_bad g.nj g.scan g.la1 x.la2 ∷ []
scan_faults g (Lambert x) = []
scan_faults g (Gaussian x) = the_scan_bad g.nj g.scan g.la1 x.la2 ∷ []
scan_faults g (Polar x) = []

-- 9, of how a grid's points lie: "n .. outside the rules"; R-1: "a thinned GDS that isn't by value one of the eight ..
-- is 9"
abbrev pub shape_faults : Grid → Shape → List Bool
shape_faults g (Even q) = not_within 1 points_most (q.ni * q.nj) ∷ []
shape_faults g (Uneven u) = not (like_one octants g) ∷ []

-- and of a grid as a whole
abbrev pub kind_faults : Grid → Geometry → List Bool
kind_faults g x = shape_faults g (shape_by g x) ++ scan_faults g x

-- 9: "Ni, Nj, n, a latitude, a longitude or the scan test outside the rules", by a geometry and of a grid
abbrev pub faults_by : Grid → Geometry → List Bool
faults_by g x = kind_faults g x ++ cells_faults (columns (kind_of x)) (cells_by g x)

unfoldable pub grid_faults : Grid → List Bool
grid_faults g = faults_by g g.geometry
