-- The grid section, there or not: laid it reads back without a stain, and laid from what was read without a stain it is
-- the section read; by the table of its kind. The kinds enter by computed cases alone.
use Rattle.std.specs.Prelude.{None, Option, Some}
use Prim.Native.Nat.{ℕ, zero, suc, ◌+◌, ◌%◌, ◌≤◌}
use mathlib.Core.Bool.{Bool, true, false, not, ◌&&◌, cond}
use mathlib.Core.Path.{◌≡◌, refl, sym, subst, ap, ◌∙◌}
use mathlib.Core.List.{List, [], ◌∷◌, ◌++◌, map}
use native.Mathlib.Omega.{arith}
use borrow.Author.Tests.{eqb-true}
use lib.ListN.{length, drop}
use lib.Dec.{eqb}
use Rattle.bits.specs.Bits.{Wide}
use Rattle.bits.proofs.Tests.{both}
use Rattle.rules.specs.declared.{Part.Part, Start.Start, Start.TheVariants.Equator, Start.TheVariants.Pole}
use Rattle.rules.specs.declared.{Start.TheVariants.Neither, Geometry.Geometry}
use Rattle.rules.specs.declared.{Geometry.TheVariants.LatLon, Geometry.TheVariants.Thinned}
use Rattle.rules.specs.declared.{Geometry.TheVariants.Mercator, Geometry.TheVariants.Lambert}
use Rattle.rules.specs.declared.{Geometry.TheVariants.Gaussian, Geometry.TheVariants.Polar, Grid.Grid}
use Rattle.rules.specs.Bounds.{gds_least, thinned_length, octant_rows}
use Rattle.rules.specs.Counts.{the_from_equator, counts_of}
use Rattle.rules.specs.Numbers.{Field, laid, octet}
use Rattle.rules.specs.Table.{any_of, or_all}
use Rattle.rules.specs.Columns.{Cells, cells_at, cells_fields, cells_stains}
use Rattle.rules.specs.Layouts.{Kind, latlon, thinned, mercator, lambert, gaussian, polar, columns, count_columns}
use Rattle.rules.specs.Layouts.{length_by, fifth, sixth, kinds}
use Rattle.rules.specs.Figures.{the_start_number, the_figures_of}
use Rattle.rules.specs.Grid.{admits, the_gds_bad, first_kind, kind_at, counts_held, count_cells, same_counts, start_of}
use Rattle.rules.specs.Grid.{grid_of_cells, kind_of, cells_by, cells_of, the_grid_at, head_fields, grid_fields, gds_of, grid_stains}
use Rattle.rules.specs.Grid.{the_grid_from, lookup, catalogue, grid_or_zeros, grid_faults}
use Rattle.rules.specs.Writing.{the_grid_given, gds_for}
use Rattle.theorems.specs.Returns.{GridFits, FoundFits}
use Rattle.laws.proofs.Rows.{NoneOf, any_none, clash}
use Rattle.laws.proofs.Sections.{Cut}
use Rattle.laws.proofs.Fields.{Fit, Back, all_back, laid-append, stands, here, one, after-fields, absent-here}
use Rattle.laws.proofs.Columns.{kind-tiles}
use Rattle.laws.specs.Cells.{CellsFit}
use Rattle.laws.proofs.Grids.{grid-fits}
use Rattle.laws.proofs.Lengths.{gds-laid, gds-length}
use Rattle.theorems.proofs.Laid.{Sec, empty_sec, whole_sec, part_is}
use Rattle.theorems.proofs.Cells.{fields_fit, read-cells, write-cells}
use Rattle.theorems.proofs.Octants.{one-of-eight}

-- what of a grid the writer's row 9 and the fields' types leave
pub record GridOk (g : Grid) : Type 0 where
  pub fit : CellsFit (columns (kind_of g.geometry)) (cells_of g)

grid_ok : (g : Grid) → GridFits g → any_of (grid_faults g) ≡ false → GridOk g
grid_ok g f e = record { fit = grid-fits g f e }

-- the record of a record's cells
start_back : (f : Start) → start_of (counts_held 33 octant_rows (count_cells 33 octant_rows (counts_of f))) ≡ f
unfolding start_of counts_of the_from_equator same_counts
start_back Equator = refl
start_back Pole = refl
start_back Neither = refl

abbrev with : Grid → Geometry → Grid
with g x = record { ni = g.ni; nj = g.nj; la1 = g.la1; lo1 = g.lo1; flags = g.flags; scan = g.scan; geometry = x }

grid-cells : (g : Grid) (x : Geometry) → grid_of_cells (kind_of x) (cells_by g x) ≡ with g x
unfolding grid_of_cells cells_by
grid-cells g (LatLon x) = refl
grid-cells g (Thinned o) =
    ap (λ (f : Start). with g (Thinned (record { edges = o.edges; start = f }))) (start_back o.start)
grid-cells g (Mercator x) = refl
grid-cells g (Lambert x) = refl
grid-cells g (Gaussian x) = refl
grid-cells g (Polar x) = refl

-- a kind's own octets pick it
abbrev said : ℕ → ℕ → ℕ → ℕ → Kind → Bool
said l a b c k = eqb l (length_by k) && (eqb a 0 && (eqb b (fifth k) && eqb c (sixth k)))

own : (k : Kind) → first_kind kinds (said (length_by k) 0 (fifth k) (sixth k)) ≡ k
own latlon = refl
own thinned = refl
own mercator = refl
own lambert = refl
own gaussian = refl
own polar = refl

taken : (k : Kind) → not (any_of (map (said (length_by k) 0 (fifth k) (sixth k)) kinds)) ≡ false
unfolding any_of or_all
taken latlon = refl
taken thinned = refl
taken mercator = refl
taken lambert = refl
taken gaussian = refl
taken polar = refl

-- octets 1 to 6
abbrev top : Kind → List Field
top k = head_fields k []

top-fit : (k : Kind) → Fit (top k)
top-fit latlon = (omega arith, (omega arith, (omega arith, (omega arith, tt))))
top-fit thinned = (omega arith, (omega arith, (omega arith, (omega arith, tt))))
top-fit mercator = (omega arith, (omega arith, (omega arith, (omega arith, tt))))
top-fit lambert = (omega arith, (omega arith, (omega arith, (omega arith, tt))))
top-fit gaussian = (omega arith, (omega arith, (omega arith, (omega arith, tt))))
top-fit polar = (omega arith, (omega arith, (omega arith, (omega arith, tt))))

long-enough : (k : Kind) → (gds_least ≤ length_by k) × (length_by k ≤ thinned_length) × (eqb (length_by k % 2) 1 ≡ false)
long-enough latlon = (omega arith, omega arith, refl)
long-enough thinned = (omega arith, omega arith, refl)
long-enough mercator = (omega arith, omega arith, refl)
long-enough lambert = (omega arith, omega arith, refl)
long-enough gaussian = (omega arith, omega arith, refl)
long-enough polar = (omega arith, omega arith, refl)

fields-all : (g : Grid) → GridOk g → Fit (grid_fields g)
unfolding grid_fields
fields-all g o =
    let k = kind_of g.geometry in
    let t = top-fit k in
    let c = fields_fit (columns k) 6 (length_by k) (kind-tiles k) (cells_of g) o.fit in
    (t.0, (t.1.0, (t.1.1.0, (t.1.1.1.0, c))))

gds_sec : (g : Grid) → GridOk g → Sec true gds_least (gds_of g)
unfolding grid_fields
gds_sec g o =
    let k = kind_of g.geometry in
    let b = all_back (gds_of g) 0 0 (grid_fields g) [] (gds-laid g) (fields-all g o) in
    let l = long-enough k in
    whole_sec gds_least (gds_of g) (b.0 ∙ sym (gds-length g)) (omega (arith, gds-length g, l.0))
    (ap (λ (x : ℕ). eqb (x % 2) 1) (gds-length g) ∙ l.2)

-- a grid section where it stands
module _ (s : List ℕ) (k : ℕ) (g : Grid) (rest : List ℕ) (e : drop k s ≡ gds_of g ++ rest) (o : GridOk g) where
  abbrev kind : Kind
  kind = kind_of g.geometry

  abbrev cells : List Field
  cells = cells_fields (columns kind) (cells_of g)

  abbrev part : Part
  part = part_is k (gds_of g)

  stood : drop (k + 0) s ≡ laid (head_fields kind cells) rest
  unfolding gds_of grid_fields
  stood = stands s k (head_fields kind cells) [] rest e

  begun : Back s k 0 (top kind)
  begun = all_back s k 0 (top kind) (laid cells rest) stood (top-fit kind)

  kind-is : kind_at s part ≡ kind
  unfolding kind_at
  kind-is =
      let b = begun in
      (λ i. first_kind kinds (said (gds-length g i) (b.2.1 refl i) (b.2.2.1 refl i) (b.2.2.2.1 refl i)))
      ∙ own kind

  gds-none : the_gds_bad s part ≡ false
  unfolding the_gds_bad
  gds-none =
      let b = begun in
      (λ i. not (any_of (map
      (said (gds-length g i) (b.2.1 refl i) (b.2.2.1 refl i) (b.2.2.2.1 refl i)) kinds)))
      ∙ taken kind

  cells_are : (cells_at (columns kind) s k ≡ cells_of g) × NoneOf (cells_stains (columns kind) s k)
  cells_are =
      read-cells (columns kind) 6 (length_by kind) (kind-tiles kind) (cells_of g) o.fit s k rest
      (after-fields s k 0 (top kind) (laid cells rest) stood)

  grid-back : the_grid_at s part ≡ g
  unfolding the_grid_at
  grid-back =
      ap (λ (q : Kind). grid_of_cells q (cells_at (columns q) s k)) kind-is ∙ ap (grid_of_cells kind) cells_are.0
      ∙ grid-cells g g.geometry

  grid-clean : NoneOf (grid_stains s part)
  unfolding grid_stains
  grid-clean = subst (λ (q : Kind). NoneOf (cells_stains (columns q) s k)) (sym kind-is) cells_are.1

-- nothing in a grid section keeps it from coming back, where there is one
abbrev pub GridClean : Bool → List ℕ → Part → Type 0
GridClean b s p = NoneOf (map (λ (t : Bool). b && t) (grid_stains s p))

clean-there : (tests : List Bool) → NoneOf tests → NoneOf (map (λ (t : Bool). true && t) tests)
clean-there [] h = tt
clean-there (t ∷ tests) h = (h.0, clean-there tests h.1)

there-clean : (tests : List Bool) → NoneOf (map (λ (t : Bool). true && t) tests) → NoneOf tests
there-clean [] h = tt
there-clean (t ∷ tests) h = (h.0, there-clean tests h.1)

clean-away : (tests : List Bool) → NoneOf (map (λ (t : Bool). false && t) tests)
clean-away [] = tt
clean-away (t ∷ tests) = (refl, clean-away tests)

-- a grid, or none
abbrev pub FoundOk : Option Grid → Type 0
FoundOk None = Unit {0}
FoundOk (Some g) = GridOk g

pub found_ok : (f : Option Grid) (p : List ℕ) → FoundFits f → any_of (grid_faults (grid_or_zeros (the_grid_from f p 0))) ≡ false
    → FoundOk f
unfolding the_grid_from
found_ok None p h e = tt
found_ok (Some g) p h e = grid_ok g h e

pub found_sec : (f : Option Grid) → FoundOk f → Sec (the_grid_given f) gds_least (gds_for f)
found_sec None o = empty_sec gds_least
found_sec (Some g) o = gds_sec g o

pub found-most : (f : Option Grid) → length (gds_for f) ≤ thinned_length
found-most None = omega arith
found-most (Some g) = omega (arith, gds-length g, (long-enough (kind_of g.geometry)).1)

pub found_back : (s : List ℕ) (k : ℕ) (f : Option Grid) (rest : List ℕ) → drop k s ≡ gds_for f ++ rest → FoundOk f
    → cond (the_grid_given f) (Some (the_grid_at s (part_is k (gds_for f)))) None ≡ f
found_back s k None rest e o = refl
found_back s k (Some g) rest e o = ap Some (grid-back s k g rest e o)

pub found_none : (s : List ℕ) (k : ℕ) (f : Option Grid) (rest : List ℕ) → drop k s ≡ gds_for f ++ rest → FoundOk f
    → (the_grid_given f && the_gds_bad s (part_is k (gds_for f))) ≡ false
found_none s k None rest e o = refl
found_none s k (Some g) rest e o = gds-none s k g rest e o

pub found-clean : (s : List ℕ) (k : ℕ) (f : Option Grid) (rest : List ℕ) → drop k s ≡ gds_for f ++ rest → FoundOk f
    → GridClean (the_grid_given f) s (part_is k (gds_for f))
found-clean s k None rest e o = clean-away (grid_stains s (part_is k []))
found-clean s k (Some g) rest e o = clean-there (grid_stains s (part_is k (gds_of g))) (grid-clean s k g rest e o)

-- the same octet 7 picks the same grid
pub from-same : (f : Option Grid) (s : List ℕ) (k : ℕ) (p : List ℕ) → octet s k 7 ≡ octet p 0 7
    → the_grid_from f s k ≡ the_grid_from f p 0
unfolding the_grid_from
from-same (Some g) s k p e = refl
from-same None s k p e = ap (lookup catalogue) e

-- the octants' counts, known again
same-counts : (xs ys : List ℕ) → same_counts xs ys ≡ true → xs ≡ ys
unfolding same_counts
same-counts [] [] e = refl
same-counts [] (y ∷ ys) e = clash false e refl
same-counts (x ∷ xs) [] e = clash false e refl
same-counts (x ∷ xs) (y ∷ ys) e =
    let b = both (eqb x y) (same_counts xs ys) e in
    let h = eqb-true x y b.0 in
    let t = same-counts xs ys b.1 in
    λ i. h i ∷ t i

known : (xs : List ℕ) → (start_of xs ≡ Neither → ⊥) → counts_of (start_of xs) ≡ xs
unfolding start_of
known xs = go (same_counts xs (counts_of Equator)) refl (same_counts xs (counts_of Pole)) refl
  where
    go : (a : Bool) → same_counts xs (counts_of Equator) ≡ a → (b : Bool) → same_counts xs (counts_of Pole) ≡ b
        → (cond a Equator (cond b Pole Neither) ≡ Neither → ⊥)
        → counts_of (cond a Equator (cond b Pole Neither)) ≡ xs
    go true d b e n = sym (same-counts xs (counts_of Equator) d)
    go false d true e n = sym (same-counts xs (counts_of Pole) e)
    go false d false e n = absurd (n refl)

cells-counts : (k rows : ℕ) (x : Cells (count_columns k rows)) → count_cells k rows (counts_held k rows x) ≡ x
cells-counts k zero x = refl
cells-counts k (suc rows) x =
    let e = cells-counts (k + 2) rows x.1 in
    λ i. (x.0, e i)

-- the cells of the record of cells
abbrev pub tallies : Cells (columns thinned) → Cells (count_columns 33 octant_rows)
tallies x = x.1.1.1.1.1.1.1.1.1.1.1

abbrev refill : Cells (columns thinned) → Cells (count_columns 33 octant_rows) → Cells (columns thinned)
refill x counts =
    let y = x.1.1.1.1.1 in
    (x.0, (x.1.0, (x.1.1.0, (x.1.1.1.0, (x.1.1.1.1.0, (y.0, (y.1.0, (y.1.1.0, (y.1.1.1.0, (y.1.1.1.1.0, (tt, counts)))))))))))

not-neither : (x : Cells (columns thinned)) → any_of (grid_faults (grid_of_cells thinned x)) ≡ false
    → start_of (counts_held 33 octant_rows (tallies x)) ≡ Neither → ⊥
unfolding grid_of_cells the_figures_of
not-neither x h e =
    let o = one-of-eight (grid_of_cells thinned x) _ refl h in
    let n : the_start_number (start_of (counts_held 33 octant_rows (tallies x))) ≡ 3 = ap the_start_number e in
    omega (arith, n, o.rows)

fields-of : (k : Kind) (x : Cells (columns k)) → any_of (grid_faults (grid_of_cells k x)) ≡ false
    → grid_fields (grid_of_cells k x) ≡ head_fields k (cells_fields (columns k) x)
unfolding grid_fields grid_of_cells cells_by
fields-of latlon x h = refl
fields-of thinned x h =
    let a = known (counts_held 33 octant_rows (tallies x)) (not-neither x h) in
    let e = ap (count_cells 33 octant_rows) a ∙ cells-counts 33 octant_rows (tallies x) in
    ap (λ (q : Cells (count_columns 33 octant_rows)). head_fields thinned (cells_fields (columns thinned) (refill x q))) e
fields-of mercator x h = refl
fields-of lambert x h = refl
fields-of gaussian x h = refl
fields-of polar x h = refl

-- the kind that is picked is admitted, where one is
first-none : (ks : List Kind) (f : Kind → Bool) → f (first_kind ks f) ≡ false → NoneOf (map f ks)
first-none [] f e = tt
first-none (k ∷ ks) f e = go (f k) refl (first-none ks f)
  where
    go : (t : Bool) → f k ≡ t → (f (first_kind ks f) ≡ false → NoneOf (map f ks)) → (f k ≡ false) × NoneOf (map f ks)
    go true d q = clash (f k) d (sym (ap (λ (t : Bool). f (cond t k (first_kind ks f))) d) ∙ e)
    go false d q = (d, q (sym (ap (λ (t : Bool). f (cond t k (first_kind ks f))) d) ∙ e))

pub picked : (ks : List Kind) (f : Kind → Bool) → not (any_of (map f ks)) ≡ false → f (first_kind ks f) ≡ true
picked ks f h = go (f (first_kind ks f)) refl
  where
    go : (t : Bool) → f (first_kind ks f) ≡ t → t ≡ true
    go true d = refl
    go false d = clash (not (any_of (map f ks))) (ap not (any_none (map f ks) (first-none ks f d))) h

-- what row 8 leaves of a section: it is its kind's
pub record Admitted (s : List ℕ) (p : Part) : Type 0 where
  pub len : p.len ≡ length_by (kind_at s p)
  pub four : octet s p.start 4 ≡ 0
  pub five : octet s p.start 5 ≡ fifth (kind_at s p)
  pub six : octet s p.start 6 ≡ sixth (kind_at s p)

pub admitted : (s : List ℕ) (p : Part) → the_gds_bad s p ≡ false → Admitted s p
unfolding kind_at the_gds_bad
admitted s p h =
    let a = both _ _ (picked kinds (admits s p) h) in
    let b = both _ _ a.1 in
    let c = both _ _ b.1 in
    record { len = eqb-true _ _ a.0; four = eqb-true _ _ b.0; five = eqb-true _ _ c.0; six = eqb-true _ _ c.1 }

-- a section laid again from what was read
written : (s : List ℕ) (p : Part) → Wide 8 s → p.start + p.len ≤ length s → Cut true gds_least s p
    → the_gds_bad s p ≡ false → any_of (grid_faults (the_grid_at s p)) ≡ false → NoneOf (grid_stains s p)
    → gds_of (the_grid_at s p) ++ drop (p.start + p.len) s ≡ drop p.start s
unfolding gds_of the_grid_at grid_stains
written s p w l e h g z =
    let it = kind_at s p in
    let k = p.start in
    let x = cells_at (columns it) s k in
    let a = admitted s p h in
    let n = a.len in
    let m : k + length_by it ≤ length s = subst (λ (y : ℕ). k + y ≤ length s) n l in
    let low : laid (cells_fields (columns it) x) (drop (k + length_by it) s) ≡ drop (k + 6) s = write-cells (columns it) 6 (length_by it) (kind-tiles it) s k w m z in
    ap (λ (y : ℕ). laid (grid_fields (the_grid_at s p)) [] ++ drop (k + y) s) n
    ∙ laid-append (grid_fields (the_grid_at s p)) [] (drop (k + length_by it) s)
    ∙ ap (λ (fs : List Field). laid fs (drop (k + length_by it) s)) (fields-of it x g)
    ∙ ap (laid (top it)) low
    ∙ here s k (top it) (drop (k + 6) s) w (omega (arith, m, (long-enough it).0)) (
      sym e.says
          ∙ n,
      (one s w (k + 3) ∙ a.four, (one s w (k + 4) ∙ a.five, (one s w (k + 5) ∙ a.six, tt))),
    )
    refl

-- or none
pub found_here : (b : Bool) (s : List ℕ) (p : Part) → Wide 8 s → p.start + p.len ≤ length s → Cut b gds_least s p
    → (b && the_gds_bad s p) ≡ false → (b ≡ true → any_of (grid_faults (the_grid_at s p)) ≡ false) → GridClean b s p
    → gds_for (cond b (Some (the_grid_at s p)) None) ++ drop (p.start + p.len) s ≡ drop p.start s
found_here false s p w l e h g c = absent-here s p.start p.len e.says
found_here true s p w l e h g c = written s p w l e h (g refl) (there-clean (grid_stains s p) c)
