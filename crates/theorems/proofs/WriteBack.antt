-- Demand 2: a message that is taken and canonical, read and written again, gives the same octets; from its end to its
-- front, each section in the form `written ++ what follows ≡ what stands there`.
use Rattle.std.specs.Prelude.{None, Some}
use Prim.Native.Nat.{ℕ, ◌+◌, ◌*◌, ◌≤◌}
use mathlib.Core.Bool.{Bool, true, false, not, cond, ◌&&◌}
use mathlib.Core.Path.{◌≡◌, refl, sym, ◌∙◌, ap}
use mathlib.Core.List.{List, [], ◌∷◌, ◌++◌, map}
use native.Mathlib.Omega.{arith}
use borrow.Author.Tests.{not-true}
use lib.Dec.{T}
use lib.ListN.{length, take, drop, length-drop}
use lib.Seq.{drop-length}
use Rattle.bits.proofs.Cut.{cut}
use Rattle.rules.specs.declared.{Part.Part, Grid.Grid}
use Rattle.rules.specs.Numbers.{laid}
use Rattle.rules.specs.Table.{any_of}
use Rattle.rules.specs.Grid.{the_grid_at, grid_stains, the_grid_from, grid_or_zeros, grid_faults}
use Rattle.rules.specs.Places.{the_end_start, pds_start, the_has_grid, the_has_bitmap, places_of, the_grib_bad, the_edition_bad, total_faults}
use Rattle.rules.specs.Bitmap.{Lent, mark_of, value_of, bms_of}
use Rattle.rules.specs.Points.{gathered}
use Rattle.rules.specs.Values.{the_packing_at, the_length_bad, bds_of}
use Rattle.rules.specs.Reading.{grid_in, grid_of, bitmap_in, points_in, packing_in, the_scale_in, data_in, present_count}
use Rattle.rules.specs.Writing.{Parts, gds_for, message, write_refusal, write_of, output_after}
use Rattle.rules.specs.RoundTrip.{parts_in, minus_zero, bitmap_padding_set, data_padding_set, stains, canonical}
use Rattle.laws.specs.Taken.{Taken}
use Rattle.theorems.specs.Returns.{Below, WriteAfterRead}
use Rattle.laws.proofs.Rows.{none_of, any_none, is_true, is_eq, clash, none_both, none-parts}
use Rattle.theorems.proofs.Replies.{handed-is}
use Rattle.laws.proofs.Judged.{Judged, judged}
use Rattle.laws.proofs.Sections.{Sections, sections}
use Rattle.laws.proofs.Fields.{here, one}
use Rattle.theorems.proofs.Laid.{ahead, ending, body}
use Rattle.theorems.proofs.GridSection.{GridClean, found_here}
use Rattle.laws.proofs.Bounded.{map-says, kind}
use Rattle.theorems.proofs.BitmapSection.{map-here}
use Rattle.theorems.proofs.DataSection.{data_here}
use Rattle.theorems.proofs.ReadBack.{body_for, message-laid}
use Rattle.theorems.proofs.Reoffered as read

-- what the list of stains says of each section, there and back
pub record Clean (s : List ℕ) (lent : Lent) : Type 0 where
  pub grid : GridClean (the_has_grid s pds_start) s (places_of s).gds
  pub bitmap : bitmap_padding_set s (bitmap_in s) (places_of s).bms.start (points_in s) ≡ false
  pub scale : minus_zero s (places_of s).bds.start 5 6 ≡ false
  pub padding : data_padding_set s (places_of s).bds.start (places_of s).bds.len
      (present_count s lent * (packing_in s).bits) ≡ false

abbrev grid_tests : List ℕ → List Bool
grid_tests s = map (λ (t : Bool). the_has_grid s pds_start && t) (grid_stains s (places_of s).gds)

abbrev other_tests : List ℕ → Lent → List Bool
other_tests s lent =
    bitmap_padding_set s (bitmap_in s) (places_of s).bms.start (points_in s)
    ∷ minus_zero s (places_of s).bds.start 5 6
    ∷ data_padding_set s (places_of s).bds.start (places_of s).bds.len (present_count s lent * (packing_in s).bits)
    ∷ []

clean_of : (s : List ℕ) (lent : Lent) → T (canonical s lent) → Clean s lent
unfolding canonical stains
clean_of s lent c =
    let h = none-parts (grid_tests s) (other_tests s lent) (none_of (stains s lent) (not-true _ (is_true _ c))) in
    let d = h.1 in
    record { grid = h.0; bitmap = d.0; scale = d.1.0; padding = d.1.1.0 }

pub clean-canonical : (s : List ℕ) (lent : Lent) → Clean s lent → canonical s lent ≡ true
unfolding canonical stains
clean-canonical s lent c =
    ap not (any_none (stains s lent)
    (none_both (grid_tests s) (other_tests s lent) c.grid (c.bitmap, (c.scale, (c.padding, tt)))))

-- the grid of a section that is there is the one judged
judged-grid : (b : Bool) (s : List ℕ) (g : Grid)
    → any_of (grid_faults (grid_or_zeros (the_grid_from (cond b (Some g) None) s pds_start))) ≡ false
    → b ≡ true → any_of (grid_faults g) ≡ false
unfolding the_grid_from
judged-grid true s g h e = h
judged-grid false s g h e = clash false e refl

module _ (s : List ℕ) (lent : Lent) (below : Below 256 s) (t : Taken s lent) (c : Clean s lent) where
  abbrev w : Parts
  w = parts_in s lent

  abbrev P : Part
  P = (places_of s).pds

  abbrev G : Part
  G = (places_of s).gds

  abbrev M : Part
  M = (places_of s).bms

  abbrev D : Part
  D = (places_of s).bds

  at : Sections s
  at = sections s lent t

  j : Judged s lent
  j = judged s lent t

  end-here : laid ending [] ≡ drop (D.start + D.len) s
  unfolding total_faults
  end-here =
      let f = none_of (total_faults s) j.total in
      let e : the_end_start s ≡ D.start + D.len = omega (arith, at.end) in
      let q : length s ≡ the_end_start s + 4 = omega (arith, at.end) in
      here s (the_end_start s) ending [] below (omega (arith, at.end)) (is_eq _ _ f.1.0, tt)
      (sym (drop-length s) ∙ ap (λ (x : ℕ). drop x s) q)
      ∙ ap (λ (x : ℕ). drop x s) e

  bds-here : bds_of (packing_in s) (the_scale_in s) (read.xs s lent t) ++ drop (D.start + D.len) s ≡ drop D.start s
  unfolding packing_in the_scale_in data_in the_packing_at the_length_bad
  bds-here =
      data_here s D.start D.len (present_count s lent) below (omega (arith, at.end)) (at.bds.least refl)
      (at.bds.even refl) (sym at.bds.says)
      (is_eq _ _ j.length) c.scale c.padding

  bms-here : bms_of (bitmap_in s) (mark_of w.marks) (points_in s) ++ drop (M.start + M.len) s ≡ drop M.start s
  unfolding bitmap_in
  bms-here =
      map-here (bitmap_in s) (the_has_bitmap s pds_start) s lent M (points_in s) (mark_of w.marks) below
      (omega (arith, at.at-bds, at.end)) (kind s) at.bms
      (map-says s (the_has_bitmap s pds_start) M.start).1 j.bitmap c.bitmap (read.marks-bits s lent t)
      (read.by_map s lent t)

  gds-here : gds_for (grid_in s) ++ drop (G.start + G.len) s ≡ drop G.start s
  unfolding grid_in grid_of
  gds-here =
      found_here (the_has_grid s pds_start) s G below (omega (arith, at.at-bms, at.at-bds, at.end)) at.gds j.gds
      (judged-grid (the_has_grid s pds_start) s (the_grid_at s G) j.grid) c.grid

  body-here : body w.pds (gds_for (grid_in s)) (bms_of (bitmap_in s) (mark_of w.marks) (points_in s))
      (bds_of (packing_in s) (the_scale_in s) (read.xs s lent t)) ≡ drop pds_start s
  body-here =
      let g = gds_for (grid_in s) in
      let m = bms_of (bitmap_in s) (mark_of w.marks) (points_in s) in
      let d = bds_of (packing_in s) (the_scale_in s) (read.xs s lent t) in
      let at-d : d ++ laid ending [] ≡ drop (M.start + M.len) s = ap (λ (x : List ℕ). d ++ x) end-here ∙ bds-here ∙ ap (λ (x : ℕ). drop x s) at.at-bds in
      let at-m : m ++ (d ++ laid ending []) ≡ drop (G.start + G.len) s = ap (λ (x : List ℕ). m ++ x) at-d ∙ bms-here ∙ ap (λ (x : ℕ). drop x s) at.at-bms in
      let at_g : g ++ (m ++ (d ++ laid ending [])) ≡ drop (8 + P.len) s = ap (λ (x : List ℕ). g ++ x) at-m ∙ gds-here ∙ ap (λ (x : ℕ). drop x s) at.at-gds in
      ap (λ (x : List ℕ). x ++ (g ++ (m ++ (d ++ laid ending [])))) (read.pds-is s lent t)
      ∙ ap (λ (x : List ℕ). take P.len (drop 8 s) ++ x) at_g ∙ cut s 8 P.len

  same_body : body_for w ≡ drop pds_start s
  unfolding parts_in
  same_body =
      ap (λ (k : ℕ). body w.pds (gds_for (grid_in s)) (bms_of (bitmap_in s) (mark_of w.marks) k)
      (bds_of (packing_in s) (the_scale_in s) (gathered (mark_of w.marks) (value_of w.values) k)))
      (read.points-for s lent t)
      ∙ ap (λ (x : List ℕ). body w.pds (gds_for (grid_in s)) (bms_of (bitmap_in s) (mark_of w.marks) (points_in s))
      (bds_of (packing_in s) (the_scale_in s) x)) (read.packed-is s lent t)
      ∙ body-here

  same-message : message w ≡ s
  unfolding the_grib_bad the_edition_bad total_faults
  same-message =
      let f = none_of (total_faults s) j.total in
      let long : 8 ≤ length s = omega (arith, at.at-gds, at.at-bms, at.at-bds, at.end) in
      let l : 8 + length (drop 8 s) ≡ length s = omega (arith, length-drop 8 s) in
      message-laid w ∙ ap (λ (x : List ℕ). laid (ahead (8 + length x)) x) same_body
      ∙ ap (λ (x : ℕ). laid (ahead x) (drop 8 s)) l
      ∙ here s 0 (ahead (length s)) (drop 8 s) below long
      (is_eq _ _ j.mark, (is_eq _ _ f.0, (one s below 7 ∙ is_eq _ _ j.edition, tt))) refl

pub comes_back : (s : List ℕ) (lent : Lent) → Below 256 s → Taken s lent → T (canonical s lent)
    → message (parts_in s lent) ≡ s
comes_back s lent below t c = same-message s lent below t (clean_of s lent c)

pub write-after-read : WriteAfterRead
unfolding write_of output_after
write-after-read s out lent below t c room =
    let w = parts_in s lent in
    let e = comes_back s lent below t c in
    let acc = read.reoffered s lent t out (omega (arith, ap length e, room)) in
    (acc, handed-is (write_refusal w out) (message w) out acc ∙ e)
