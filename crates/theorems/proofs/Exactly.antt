-- Demand 2: reading and then writing gives the same octets only of a canonical message, since whatever is written is
-- canonical: each section is laid without a stain.
use Rattle.std.specs.Prelude.{None, Some}
use Prim.Native.Nat.{ℕ, zero, suc, ◌+◌, ◌-◌, ◌*◌, ◌^◌, ◌<◌}
use mathlib.Core.Bool.{Bool, true, false, cond}
use mathlib.Core.Path.{◌≡◌, refl, sym, subst, ◌∙◌, ap}
use mathlib.Core.List.{List, [], ◌∷◌}
use native.Mathlib.Omega.{arith}
use native.Mathlib.Nat.{le_refl}
use lib.Dec.{T, eqb}
use borrow.Author.Tests.{eqb-true}
use lib.ListN.{length, get_or}
use Rattle.bits.specs.Bits.{bits_in, run}
use Rattle.bits.proofs.Runs.{bits_in-bits, run-lt}
use Rattle.rules.specs.declared.{Start.Start, Part.Part, Places.Places}
use Rattle.rules.specs.declared.{Bitmap.TheVariants.Carried, Bitmap.TheVariants.Stored}
use Rattle.rules.specs.Bounds.{octant_rows}
use Rattle.rules.specs.Counts.{counts_of}
use Rattle.rules.specs.Numbers.{octet, number}
use Rattle.rules.specs.Table.{accepted}
use Rattle.rules.specs.Places.{pds_start, the_has_grid, the_has_bitmap, places_of}
use Rattle.rules.specs.Columns.{Sort, carried, needed, distance, side, latitude, longitude, reserved, Column, Cells}
use Rattle.rules.specs.Columns.{column_at, cell_of, cells_at}
use Rattle.rules.specs.Layouts.{Kind, latlon, thinned, mercator, lambert, gaussian, polar, count_columns, columns}
use Rattle.rules.specs.Grid.{kind_at, counts_held, count_cells, start_of, grid_of_cells, cells_by, the_grid_at}
use Rattle.rules.specs.Bitmap.{Lent, the_bitmap_at}
use Rattle.rules.specs.Values.{scale_at}
use Rattle.rules.specs.Reading.{grid_in, bitmap_in, the_scale_in}
use Rattle.rules.specs.Writing.{Parts, the_grid_given, points_for, message, write_refusal, write_of, output_after}
use Rattle.rules.specs.RoundTrip.{parts_in, minus_zero, bitmap_padding_set, data_padding_set, canonical}
use Rattle.laws.specs.Cells.{CellTyped, CellsTyped}
use Rattle.laws.specs.Taken.{Taken}
use Rattle.theorems.specs.Returns.{Below, GridFits, FoundFits, NumberFits, WriteAfterReadExactly, WrittenCanonical}
use Rattle.laws.proofs.Rows.{true-is}
use Rattle.laws.proofs.Counts.{count_most}
use Rattle.laws.proofs.Grids.{octant-few}
use Rattle.theorems.proofs.Replies.{handed-is}
use Rattle.theorems.proofs.GridSection.{GridClean, tallies, found-clean}
use Rattle.theorems.proofs.BitmapSection.{map-clean}
use Rattle.theorems.proofs.DataSection.{scale-clean, data_clean}
use Rattle.theorems.proofs.ReadBack.{marks_for, packed_for, few, marks-bits, data_fine, grid_fine, places}
use Rattle.theorems.proofs.ReadBack.{grid-there, stands-g, stands-m, stands-d, points-in, bitmap-in}
use Rattle.theorems.proofs.ReadBack.{present-count, packing-in}
use Rattle.theorems.proofs.Reoffered.{reoffered}
use Rattle.theorems.proofs.WriteBack.{Clean, clean-canonical, comes_back}

module _ (w : Parts) (out : List ℕ) (gf : FoundFits w.form.grid) (nf : NumberFits w.form.bitmap)
    (rf : w.scale.r < 2 ^ 32) (acc : T (accepted (write_refusal w out))) where
  written-clean : Clean (message w) w.lent
  written-clean =
      let s = message w in
      let at = places w out gf nf rf acc in
      let m = present-count w out gf nf rf acc in
      let p = packing-in w out gf nf rf acc in
      let d = stands-d w out gf nf rf acc in
      let o = data_fine w out gf nf rf acc in
      let there = sym (grid-there w out gf nf rf acc) in
      let section = sym (ap (λ (x : Places). x.gds) at) in
      let g : GridClean (the_has_grid s pds_start) s (places_of s).gds =
      subst (λ (b : Bool). GridClean b s (places_of s).gds) there
      (subst (GridClean (the_grid_given w.form.grid) s) section
      (found-clean s _ w.form.grid _ (stands-g w out gf nf rf acc) (grid_fine w out gf nf rf acc))) in
      record {
        grid = g;
        bitmap =
            (λ i. bitmap_padding_set s (bitmap-in w out gf nf rf acc i) (at i).bms.start
            (points-in w out gf nf rf acc i))
            ∙ map-clean s w.lent _ (marks_for w) (points_for w) _ (few w out gf nf rf acc)
            (marks-bits w out gf nf rf acc) w.form.bitmap (stands-m w out gf nf rf acc);
        scale = (λ i. minus_zero s (at i).bds.start 5 6)
            ∙ scale-clean s _ w.form.packing w.scale (packed_for w) _ d o;
        padding = (λ i. data_padding_set s (at i).bds.start (at i).bds.len (m i * (p i).bits))
            ∙ data_clean s _ w.form.packing w.scale (packed_for w) _ d o;
      }

pub written-canonical : WrittenCanonical
unfolding write_of output_after
written-canonical w out gf nf rf acc =
    subst (λ (s : List ℕ). T (canonical s w.lent)) (sym (handed-is (write_refusal w out) (message w) out acc))
    (true-is _ (clean-canonical (message w) w.lent (written-clean w out gf nf rf acc)))

-- what is read of octets fits its columns, of any table
column-lt : (c : Column) (s : List ℕ) (g : ℕ) → Below 256 s → column_at c s g < 2 ^ (c.width * 8)
column-lt c s g h = go (eqb c.width 1) refl
  where
    go : (t : Bool) → eqb c.width 1 ≡ t
        → cond t (octet s g c.first) (run (bits_in 8 s) ((g + (c.first - 1)) * 8) (c.width * 8))
        < 2 ^ (c.width * 8)
    go true e =
        subst (λ (w : ℕ). octet s g c.first < 2 ^ (w * 8)) (sym (eqb-true c.width 1 e)) (h (g + (c.first - 1)))
    go false e = run-lt (bits_in-bits 8 s) ((g + (c.first - 1)) * 8) (c.width * 8)

cell_typed : (t : Sort) (c v : ℕ) → v < 2 ^ (c * 8) → CellTyped t c (cell_of t c v)
cell_typed carried c v l = l
cell_typed needed c v l = l
cell_typed distance c v l = tt
cell_typed side c v l = l
cell_typed latitude c v l = tt
cell_typed longitude c v l = tt
cell_typed reserved c v l = tt

cells_typed : (cs : List Column) (s : List ℕ) (g : ℕ) → Below 256 s → CellsTyped cs (cells_at cs s g)
unfolding cells_at
cells_typed [] s g h = tt
cells_typed (c ∷ cs) s g h = (cell_typed c.sort c.width (column_at c s g) (column-lt c s g h), cells_typed cs s g h)

-- and a grid that was read has the cells that were read, of a thinned one with an octant's counts
counts_typed : (k rows : ℕ) (counts : List ℕ) → ((j : ℕ) → get_or counts j 0 < 2 ^ 16)
    → CellsTyped (count_columns k rows) (count_cells k rows counts)
counts_typed k zero counts h = tt
counts_typed k (suc rows) [] h = (omega arith, counts_typed (k + 2) rows [] h)
counts_typed k (suc rows) (c ∷ counts) h = (h 0, counts_typed (k + 2) rows counts (λ j. h (suc j)))

octant_typed : (f : Start) (j : ℕ) → get_or (counts_of f) j 0 < 2 ^ 16
octant_typed f j = omega (arith, count_most (counts_of f) j, octant-few f)

abbrev Typed : (k : Kind) → Cells (columns k) → Type 0
Typed k x = CellsTyped (columns k) x

read_fits : (k : Kind) (x : Cells (columns k)) → Typed k x → GridFits (grid_of_cells k x)
unfolding grid_of_cells cells_by
read_fits latlon x h = h
read_fits thinned x h =
    let f = start_of (counts_held 33 octant_rows (tallies x)) in
    let y = h.1.1.1.1.1 in
    let counts = counts_typed 33 octant_rows (counts_of f) (octant_typed f) in
    (h.0, (h.1.0, (h.1.1.0, (h.1.1.1.0, (h.1.1.1.1.0, (y.0, (y.1.0, (y.1.1.0, (y.1.1.1.0, (y.1.1.1.1.0, (tt, counts)))))))))))
read_fits mercator x h = h
read_fits lambert x h = h
read_fits gaussian x h = h
read_fits polar x h = h

grid-fits : (b : Bool) (s : List ℕ) (p : Part) → Below 256 s → FoundFits (cond b (Some (the_grid_at s p)) None)
unfolding the_grid_at
grid-fits false s p h = tt
grid-fits true s p h =
    let k = kind_at s p in
    read_fits k (cells_at (columns k) s p.start) (cells_typed (columns k) s p.start h)

number_fits : (b : Bool) (s : List ℕ) (k : ℕ) → NumberFits (the_bitmap_at s b k)
unfolding the_bitmap_at
number_fits false s k = tt
number_fits true s k = go (eqb (number s k 5 6) 0)
  where
    go : (t : Bool) → NumberFits (cond t Carried (Stored (number s k 5 6)))
    go true = tt
    go false = run-lt (bits_in-bits 8 s) ((k + 4) * 8) 16

module _ (s : List ℕ) (lent : Lent) (below : Below 256 s) (t : Taken s lent) (same : message (parts_in s lent) ≡ s) where
  grid_in_fits : FoundFits (parts_in s lent).form.grid
  unfolding parts_in grid_in
  grid_in_fits = grid-fits (the_has_grid s pds_start) s (places_of s).gds below

  number_in_fits : NumberFits (parts_in s lent).form.bitmap
  unfolding parts_in bitmap_in
  number_in_fits = number_fits (the_has_bitmap s pds_start) s (places_of s).bms.start

  r-fits : (parts_in s lent).scale.r < 2 ^ 32
  unfolding parts_in the_scale_in scale_at
  r-fits = run-lt (bits_in-bits 8 s) (((places_of s).bds.start + 6) * 8) 32

  only-canonical : T (canonical s lent)
  unfolding parts_in
  only-canonical =
      let w = parts_in s lent in
      subst (λ (x : List ℕ). T (canonical x lent)) same
      (true-is _ (clean-canonical (message w) lent
      (written-clean w (message w) grid_in_fits number_in_fits r-fits
      (reoffered s lent t (message w) (le_refl (length (message w)))))))

pub write-after-read_exactly : WriteAfterReadExactly
write-after-read_exactly s lent below t = (comes_back s lent below t, only-canonical s lent below t)
