-- What reading hands out of a taken message is the parts that it has: each field of the header, and the fronts of the
-- two lists; from the definitions, with the PDS cut out.
use Prim.Native.Nat.{ℕ, ◌≤◌}
use mathlib.Core.Bool.{Bool, ◌||◌, cond}
use mathlib.Core.Path.{◌≡◌, refl, sym, ◌∙◌, ap}
use mathlib.Core.List.{List, [], ◌∷◌}
use native.Mathlib.Omega.{arith}
use borrow.Author.Tests.{le-ltb}
use lib.Dec.{T, ltb}
use lib.ListN.{length, take}
use Rattle.bits.specs.Bits.{bits_in, run, count}
use Rattle.bits.proofs.Cut.{run-part}
use Rattle.bits.proofs.Marks.{count_same}
use Rattle.rules.specs.declared.{Refusal.Refusal}
use Rattle.rules.specs.Answers.{Header}
use Rattle.rules.specs.Numbers.{number, signed, decimal_at}
use Rattle.rules.specs.Table.{row, refusal, accepted}
use Rattle.rules.specs.Places.{octets_of, pds_start, places_of, the_section_at}
use Rattle.rules.specs.Grid.{grid_or_zeros}
use Rattle.rules.specs.Bitmap.{Lent, mark_of}
use Rattle.rules.specs.Points.{scattered}
use Rattle.rules.specs.Reading.{points_in, present_in, present_count, packing_in, the_scale_in, decimal_in, values_in, marks_in}
use Rattle.rules.specs.Reading.{message_table, parsed_of, found_by, found_in, refused_by, answer_by, read_table, read_refusal}
use Rattle.rules.specs.Reading.{read_of, the_values_after, the_marks_after}
use Rattle.rules.specs.Writing.{points_for}
use Rattle.rules.specs.RoundTrip.{parts_in}
use Rattle.laws.specs.Taken.{Taken}
use Rattle.theorems.specs.Reads.{Tells, ReadTells}
use Rattle.bits.proofs.Tests.{or_none}
use Rattle.laws.proofs.Rows.{accepts, taken-by, first-after, is_true}
use Rattle.theorems.proofs.Lists.{filled-front}
use Rattle.laws.proofs.Judged.{rows}
use Rattle.laws.proofs.Sections.{reads-inside}
use Rattle.theorems.proofs.Laid.{moment_same}
use Rattle.theorems.proofs.Reoffered.{w, pds-octet, grid-for, points-for, marks-is}

-- D is read off the message as off its PDS
pub decimal-same : (s pds : List ℕ) (lent : Lent) → Taken s lent → octets_of s (places_of s).pds ≡ pds
    → decimal_in s ≡ decimal_at pds 0
unfolding decimal_in places_of the_section_at
decimal-same s pds lent t e =
    let h = (reads-inside s lent t).pds in
    ap (signed 2)
    (sym (ap (λ (o : List ℕ). run (bits_in 8 o) 208 16) (sym e)
    ∙ run-part s 8 (number s 8 1 3) 208 16 (omega (arith, h))))

module _ (s : List ℕ) (lent : Lent) (values marks : List ℕ) (t : Taken s lent) (rv : points_in s ≤ length values)
    (rm : points_in s ≤ length marks) where
  abbrev r : Refusal
  r = read_refusal s lent values marks

  read-zero : r ≡ refusal 0
  unfolding read_refusal read_table
  read-zero =
      let last = row 14 (ltb (length values) (points_in s) || ltb (length marks) (points_in s)) in
      first-after (message_table s lent) (last ∷ []) (rows s lent t)
      ∙ accepts (last ∷ []) (or_none _ _ (le-ltb _ _ rv) (le-ltb _ _ rm), tt)

  took : T (accepted r)
  took = taken-by r read-zero

  pub header : read_of s lent values marks ≡ found_in s lent
  unfolding read_of answer_by
  header = ap (λ (b : Bool). cond b (found_in s lent) (refused_by r)) (is_true (accepted r) took)

  values-front : take (points_for (w s lent t)) (the_values_after s lent values marks) ≡ values_in s lent
  unfolding the_values_after values_in scattered
  values-front =
      ap (λ (k : ℕ). take k (the_values_after s lent values marks)) (points-for s lent t)
      ∙ filled-front r _ (points_in s) values took

  marks-front : take (points_for (w s lent t)) (the_marks_after s lent values marks) ≡ marks_in s lent
  unfolding the_marks_after marks_in
  marks-front =
      ap (λ (k : ℕ). take k (the_marks_after s lent values marks)) (points-for s lent t)
      ∙ filled-front r (present_in s lent) (points_in s) marks took

  present-is : present_count s lent ≡ count (mark_of (w s lent t).marks) 0 (points_for (w s lent t))
  unfolding present_count
  present-is =
      count_same (present_in s lent) (mark_of (w s lent t).marks) (points_in s) (λ i l. sym (marks-is s lent t i l))
      (points_in s) (omega arith)
      ∙ ap (count (mark_of (w s lent t).marks) 0) (sym (points-for s lent t))

  tells : Tells s lent values marks (w s lent t)
  unfolding found_in found_by parsed_of parts_in packing_in the_scale_in
  tells = record {
    refusal = ap (λ (h : Header). h.refusal) header;
    places = ap (λ (h : Header). h.places) header;
    pds = ap (λ (h : Header). octets_of s h.places.pds) header;
    time = ap (λ (h : Header). h.time) header ∙ moment_same s pds_start (w s lent t).pds (pds-octet s lent t);
    d = ap (λ (h : Header). h.d) header ∙ decimal-same s (w s lent t).pds lent t refl;
    grid = ap (λ (h : Header). h.grid) header ∙ ap grid_or_zeros (sym (grid-for s lent t));
    points = ap (λ (h : Header). h.points) header ∙ sym (points-for s lent t);
    bitmap = ap (λ (h : Header). h.bitmap) header;
    present = ap (λ (h : Header). h.present) header ∙ present-is;
    packing = ap (λ (h : Header). h.packing) header;
    scale = ap (λ (h : Header). h.scale) header;
    each = values-front;
    which = marks-front;
  }

pub read-tells : ReadTells
read-tells s lent values marks t rv rm = tells s lent values marks t rv rm
