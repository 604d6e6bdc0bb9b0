-- A grid section out of its groups of fields; the counts, row by row; and what its octets hold, by cases.
use Rattle.std.specs.Prelude.{Option, Some}
use mathlib.Core.Path.{◌≡◌, refl, sym, ap, ◌∙◌, subst}
use mathlib.Core.Bool.{true, false}
use mathlib.Core.List.{List, [], ◌∷◌, ◌++◌}
use Prim.Native.Nat.{ℕ, zero, suc, ◌+◌, ◌-◌, ◌^◌, ◌≤◌, ◌<◌}
use native.Mathlib.Nat.{add-zero}
use native.Mathlib.Numerals.{add-one}
use native.Mathlib.Omega.{arith}
use borrow.Author.Tests.{ltb-false}
use lib.Dec.{ltb}
use lib.ListN.{length, get_or}
use Rattle.bits.specs.Bits.{bit_of, run, runs, placed}
use Rattle.bits.specs.Tables.{tab}
use Rattle.bits.proofs.Tests.{both}
use Rattle.rules.specs.declared.{Signed.Signed, Start.Start, Start.TheVariants.Equator, Start.TheVariants.Pole}
use Rattle.rules.specs.declared.{Start.TheVariants.Neither, Edges.Edges, Octant.Octant, Cylinder.Cylinder, Belts.Belts}
use Rattle.rules.specs.declared.{Plane.Plane, Cone.Cone, Geometry.Geometry, Geometry.TheVariants.LatLon}
use Rattle.rules.specs.declared.{Geometry.TheVariants.Thinned, Geometry.TheVariants.Mercator}
use Rattle.rules.specs.declared.{Geometry.TheVariants.Lambert, Geometry.TheVariants.Gaussian}
use Rattle.rules.specs.declared.{Geometry.TheVariants.Polar, Grid.Grid}
use Rattle.rules.specs.Bounds.{thinned_length, octant_rows, latitude_most, longitude_most}
use Rattle.rules.specs.Counts.{counts_of, the_from_equator}
use Rattle.rules.specs.Numbers.{Field, field, laid, sign, beyond}
use Rattle.rules.specs.Table.{any_of}
use Rattle.rules.specs.Columns.{Sort, carried, needed, distance, side, latitude, longitude, reserved, Column, Cell, Cells}
use Rattle.rules.specs.Columns.{all_ones, cell_faults, cells_fields, cells_faults}
use Rattle.rules.specs.Layouts.{count_columns, columns, length_by}
use Rattle.rules.specs.Grid.{count_cells, kind_of, cells_by, cells_of, fields_by, grid_faults}
use Rattle.rules.specs.Writing.{gds_for}
use Rattle.laws.specs.Signs.{SignFree}
use Rattle.laws.proofs.Fields.{widths, laid-length}
use Rattle.laws.proofs.Lengths.{gds-length}
use Rattle.laws.proofs.Rows.{NoneOf, none_of, any_none, none_both, none-parts}
use Rattle.laws.proofs.Columns.{angle_three, angles_three, kind-angles, angle-fits}
use Rattle.laws.proofs.Grids.{cells-sound}
use Rattle.laws.proofs.Whole.{within, beyond-no}
use Rattle.puts.specs.Put.{the_put_number}
use Rattle.puts.proofs.Laying.{laid_both, Laid, put, kept-long, two-placed}
use Rattle.gds_put.specs.Section.{top_fields, front_fields, edges_fields, count_fields, cell_unheld}
use Rattle.gds_put.specs.Section.{cells_unheld, unheld_by, the_grid_unheld}

-- a group of fields put after those before it
pub after : (d : List ℕ) (at k : ℕ) (fs gs : List Field) (o o' : List ℕ) → o ≡ placed d at (laid fs [])
    → k ≡ at + widths fs 0
    → k + widths gs 0 ≤ length d
    → o' ≡ placed o k (laid gs [])
    → o' ≡ placed d at (laid (fs ++ gs) [])
after d at k fs gs o o' e ek h e' =
    let l = laid-length fs [] ∙ add-zero (widths fs 0) in
    let m = laid-length gs [] ∙ add-zero (widths gs 0) in
    two-placed d at (laid fs []) (laid gs []) [] k (k + widths gs 0) (ek ∙ ap (λ (n : ℕ). at + n) (sym l))
    (ap (λ (n : ℕ). k + n) (sym m)) h o o' e e'
    ∙ ap (placed d at) (sym (laid_both fs gs))

-- octets 7 to 17 of a grid
abbrev pub front_of : Grid → List Field
front_of g = front_fields g.ni g.nj g.la1 g.lo1 g.flags

-- octets 1 to 6, 7 to 17 and a kind's own group after them
pub section : (d : List ℕ) (at : ℕ) (g : Grid) (len five six : ℕ) (own : List Field) (o₁ o₂ o₃ : List ℕ)
    → at + 17 + widths own 0 ≤ length d
    → o₁ ≡ placed d at (laid (top_fields len five six) [])
    → o₂ ≡ placed o₁ (at + 6) (laid (front_of g) [])
    → o₃ ≡ placed o₂ (at + 17) (laid own [])
    → o₃ ≡ placed d at (laid (top_fields len five six ++ (front_of g ++ own)) [])
section d at g len five six own o₁ o₂ o₃ h e₁ e₂ e₃ =
    let top = top_fields len five six in
    let front = after d at (at + 6) top (front_of g) o₁ o₂ e₁ (omega arith) (omega (arith, h)) e₂ in
    after d at (at + 17) (top ++ front_of g) own o₂ o₃ front (omega arith) (omega (arith, h)) e₃

-- eight reserved octets are one column, and are put in two numbers
pub eight : laid (field 4 0 ∷ field 4 0 ∷ []) [] ≡ laid (field 8 0 ∷ []) []
unfolding tab runs run bit_of
eight = refl

-- so many counts take two octets each; all of them are the columns from octet 33 on
pub counts-wide : (f : Start) (rows j : ℕ) → widths (count_fields f rows) j ≡ j + (rows + rows)
unfolding count_fields
counts-wide f zero j = omega arith
counts-wide f (suc rows) j =
    widths-more (count_fields f rows) (field 2 (get_or (counts_of f) rows 0)) j ∙ omega (arith, counts-wide f rows j)
  where
    widths-more : (fs : List Field) (x : Field) (j : ℕ) → widths (fs ++ (x ∷ [])) j ≡ widths fs j + x.width
    widths-more [] x j = refl
    widths-more (y ∷ fs) x j = widths-more fs x (j + y.width)

pub counts-next : (f : Start) (i c : ℕ) → c ≡ get_or (counts_of f) i 0
    → count_fields f i ++ (field 2 c ∷ []) ≡ count_fields f (i + 1)
unfolding count_fields
counts-next f i c e =
    ap (λ (x : ℕ). count_fields f i ++ (field 2 x ∷ [])) e ∙ ap (count_fields f) (sym (add-one i))

-- one more count put
pub counts-put : (d : List ℕ) (g : ℕ) (f : Start) (i k c : ℕ) (o o' : List ℕ)
    → Laid d (g + 32) 146 (count_fields f i) o → i < octant_rows
    → k ≡ 33 + i + i → c ≡ get_or (counts_of f) i 0 → c < 65536 → o' ≡ the_put_number o g k 2 c
    → Laid d (g + 32) 146 (count_fields f (i + 1)) o'
counts-put d g f i k c o o' l h ek ec few e =
    let w = counts-wide f i 0 in
    let n = put l g k 2 c o' e (omega (arith, w, ek)) (omega (arith, w, h)) few in
    subst (λ (fs : List Field). Laid d (g + 32) 146 fs o') (counts-next f i c ec) n

pub counts-long : (d : List ℕ) (g : ℕ) (f : Start) (i : ℕ) (o : List ℕ) → Laid d (g + 32) 146 (count_fields f i) o
    → i ≤ octant_rows → length o ≡ length d
counts-long d g f i o l h = kept-long l (omega (arith, counts-wide f i 0, h))

abbrev column_fields : Start → List Field
column_fields f = cells_fields (count_columns 33 octant_rows) (count_cells 33 octant_rows (counts_of f))

counts_all : (f : Start) → column_fields f ≡ count_fields f octant_rows
unfolding cells_fields count_fields counts_of the_from_equator
counts_all Equator = refl
counts_all Pole = refl
counts_all Neither = refl

-- the section of an octant out of its groups
pub thinned_laid : (g : Grid) (o : Octant)
    → let x = o.edges in
    laid (top_fields thinned_length 33 0
    ++ (front_of g
    ++ (edges_fields x.la2 x.lo2 x.di x.dj g.scan ++ count_fields o.start octant_rows))) []
    ≡ laid (fields_by g (Thinned o)) []
unfolding cells_fields cells_by
thinned_laid g o =
    let x = o.edges in
    ap (λ (fs : List Field). laid
    (top_fields thinned_length 33 0
    ++ (front_of g ++ (edges_fields x.la2 x.lo2 x.di x.dj g.scan ++ fs))) [])
    (sym (counts_all o.start))

-- what is left of a cell that its octets hold
pub angle : (z : Signed) → beyond (sign 3 - 1) z.value ≡ false → SignFree 3 z
angle z h = omega (arith, within (sign 3 - 1) z.value h)

pub near : (d : ℕ) → ltb (all_ones 3) d ≡ false → d < 2 ^ 24
near d h = omega (arith, ltb-false (all_ones 3) d h)

-- so of every kind: its first corner, and what it has of its own
pub corner_free : (g : Grid) (x : Geometry) → any_of (unheld_by g x) ≡ false → SignFree 3 g.la1 × SignFree 3 g.lo1
unfolding cells_unheld cells_by
corner_free g (LatLon x) h = let n = none_of _ h in (angle g.la1 n.0, angle g.lo1 n.1.0)
corner_free g (Thinned x) h = let n = none_of _ h in (angle g.la1 n.0, angle g.lo1 n.1.0)
corner_free g (Mercator x) h = let n = none_of _ h in (angle g.la1 n.0, angle g.lo1 n.1.0)
corner_free g (Lambert x) h = let n = none_of _ h in (angle g.la1 n.0, angle g.lo1 n.1.0)
corner_free g (Gaussian x) h = let n = none_of _ h in (angle g.la1 n.0, angle g.lo1 n.1.0)
corner_free g (Polar x) h = let n = none_of _ h in (angle g.la1 n.0, angle g.lo1 n.1.0)

module _ (g : Grid) where
  pub latlon_free : (x : Edges) → any_of (unheld_by g (LatLon x)) ≡ false → SignFree 3 x.la2 × SignFree 3 x.lo2
  unfolding cells_unheld cells_by
  latlon_free x h = let n = (none_of _ h).1.1 in (angle x.la2 n.0, angle x.lo2 n.1.0)

  pub thinned_free : (o : Octant) → any_of (unheld_by g (Thinned o)) ≡ false
      → SignFree 3 o.edges.la2 × SignFree 3 o.edges.lo2
  unfolding cells_unheld cells_by
  thinned_free o h = let n = (none_of _ h).1.1 in (angle o.edges.la2 n.0, angle o.edges.lo2 n.1.0)

  pub gaussian_free : (x : Belts) → any_of (unheld_by g (Gaussian x)) ≡ false
      → SignFree 3 x.la2 × SignFree 3 x.lo2
  unfolding cells_unheld cells_by
  gaussian_free x h = let n = (none_of _ h).1.1 in (angle x.la2 n.0, angle x.lo2 n.1.0)

  pub mercator_free : (x : Cylinder) → any_of (unheld_by g (Mercator x)) ≡ false
      → (SignFree 3 x.la2 × SignFree 3 x.lo2 × SignFree 3 x.latin) × ((x.di < 2 ^ 24) × (x.dj < 2 ^ 24))
  unfolding cells_unheld cells_by
  mercator_free x h =
      let n = (none_of _ h).1.1 in (
        (angle x.la2 n.0, angle x.lo2 n.1.0, angle x.latin n.1.1.0),
        (near x.di n.1.1.1.0, near x.dj n.1.1.1.1.0),
      )

  pub polar_free : (q : Plane) → any_of (unheld_by g (Polar q)) ≡ false
      → SignFree 3 q.lov × (q.dx < 2 ^ 24) × (q.dy < 2 ^ 24)
  unfolding cells_unheld cells_by
  polar_free q h =
      let n = (none_of _ h).1.1 in
      (angle q.lov n.0, near q.dx n.1.0, near q.dy n.1.1.0)

  pub lambert_free : (x : Cone) → any_of (unheld_by g (Lambert x)) ≡ false
      → (SignFree 3 x.plane.lov × (x.plane.dx < 2 ^ 24) × (x.plane.dy < 2 ^ 24))
      × (SignFree 3 x.latin1 × SignFree 3 x.latin2 × SignFree 3 x.pole_la × SignFree 3 x.pole_lo)
  unfolding cells_unheld cells_by
  lambert_free x h =
      let q = x.plane in
      let n = (none_of _ h).1.1 in
      let m = n.1.1.1 in (
        (angle q.lov n.0, near q.dx n.1.0, near q.dy n.1.1.0),
        (
          angle x.latin1 m.0,
          angle x.latin2 m.1.0,
          angle x.pole_la m.1.1.0,
          angle x.pole_lo m.1.1.1.0,
        ),
      )

-- what a grid's own geometry says of its section
pub kind_unheld : (g : Grid) (x : Geometry) → g.geometry ≡ x → any_of (the_grid_unheld g) ≡ any_of (unheld_by g x)
unfolding the_grid_unheld
kind_unheld g x e = ap (λ (y : Geometry). any_of (unheld_by g y)) e

-- how many octets the section of a grid that is given has
pub room-given : (f : Option Grid) (g : Grid) → f ≡ Some g → (n : ℕ) → n ≡ length_by (kind_of g.geometry)
    → n ≡ length (gds_for f)
room-given f g e n h = h ∙ sym (gds-length g) ∙ sym (ap (λ (x : Option Grid). length (gds_for x)) e)

-- of a grid that row 9 passes its octets hold every cell
free : (c : ℕ) (z : Signed) → SignFree c z → beyond (sign c - 1) z.value ≡ false
free c z h = beyond-no (sign c - 1) z.value (omega (arith, h))

cell-held : (t : Sort) (c : ℕ) (x : Cell t) → angle_three t c ≡ true → NoneOf (cell_faults t c x)
    → NoneOf (cell_unheld t c x)
cell-held carried c x a h = tt
cell-held needed c x a h = tt
cell-held distance c x a h = h
cell-held side c x a h = tt
cell-held latitude c z a h = (free c z (angle-fits latitude_most c z (omega arith) a h), tt)
cell-held longitude c z a h = (free c z (angle-fits longitude_most c z (omega arith) a h), tt)
cell-held reserved c x a h = tt

cells-held : (cs : List Column) → angles_three cs ≡ true → (x : Cells cs) → NoneOf (cells_faults cs x)
    → NoneOf (cells_unheld cs x)
unfolding cells_faults cells_unheld
cells-held [] a x h = tt
cells-held (c ∷ cs) a x h =
    let b = both (angle_three c.sort c.width) (angles_three cs) a in
    let k = none-parts (cell_faults c.sort c.width x.0) (cells_faults cs x.1) h in
    none_both (cell_unheld c.sort c.width x.0) (cells_unheld cs x.1)
    (cell-held c.sort c.width x.0 b.0 k.0) (cells-held cs b.1 x.1 k.1)

pub grid-held : (g : Grid) → any_of (grid_faults g) ≡ false → any_of (the_grid_unheld g) ≡ false
unfolding the_grid_unheld
grid-held g h =
    any_none (the_grid_unheld g)
    (cells-held (columns (kind_of g.geometry)) (kind-angles (kind_of g.geometry)) (cells_of g) (cells-sound g h))
