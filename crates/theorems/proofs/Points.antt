-- Demand 2 at every point: the value that reading hands out at a present point stands among the data by the count of
-- ones before it, and is 0 at an absent one; and the k-th of the data at its bit place. From the definitions.
use Prim.Native.Nat.{ℕ, ◌+◌, ◌<◌}
use mathlib.Core.Bool.{Bool, cond}
use mathlib.Core.Path.{◌≡◌, sym, ◌∙◌, ap}
use mathlib.Core.List.{List}
use native.Mathlib.Omega.{arith}
use borrow.Author.Tests.{lt-ltb, eq-eqb, ne_eqb}
use lib.Dec.{eqb}
use lib.ListN.{get_or}
use Rattle.bits.specs.Bits.{bits_in, count}
use Rattle.bits.proofs.Ones.{count_ones}
use Rattle.rules.specs.declared.{Bitmap.Bitmap, Bitmap.TheVariants.Without}
use Rattle.rules.specs.Table.{accepted}
use Rattle.rules.specs.Bitmap.{Lent, bitmap_octets, the_bitmap_given, present_by}
use Rattle.rules.specs.Points.{numbered, absent, outside, the_data_number, value_at, scattered}
use Rattle.rules.specs.Reading.{own_refusal, bitmap_in, in_force_in, points_in, present_in, present_count, data_in}
use Rattle.rules.specs.Reading.{values_in, marks_in, found_by, found_in, refused_by, answer_by, header_of, read_refusal}
use Rattle.rules.specs.Reading.{the_values_after, the_marks_after, numbering_of}
use Rattle.laws.specs.Taken.{Taken}
use Rattle.theorems.specs.Reads.{OwnNumber, ValueAtPoint, PackedSimply, ReadKeeps, PresentCounted}
use Rattle.laws.proofs.Rows.{is_true}
use Rattle.theorems.proofs.Lists.{filled_at, filled-after}
use Rattle.laws.proofs.Judged.{read_taken}
use Rattle.laws.proofs.Data.{data_at, data_inside}
use Rattle.theorems.proofs.BitmapSection.{present-bits}
use Rattle.laws.proofs.Gathered.{number_lt, value_there, value-away}

module _ (s : List ℕ) (lent : Lent) (t : Taken s lent) (i : ℕ) (l : i < points_in s) where
  abbrev p : ℕ → ℕ
  p = present_in s lent

  abbrev xs : List ℕ
  xs = data_in s lent

  numbering : numbering_of s lent i ≡ cond (eqb (p i) 1) (numbered (count p 0 i)) absent
  unfolding numbering_of the_data_number
  numbering =
      ap (λ (b : Bool). cond b (the_data_number p (points_in s) i) outside) (is_true (accepted (own_refusal s lent)) t)
      ∙ ap (λ (b : Bool). cond b (cond (eqb (p i) 1) (numbered (count p 0 i)) absent) outside) (lt-ltb i (points_in s) l)

  bit : p i < 2
  unfolding present_in
  bit = present-bits (bitmap_in s) (bitmap_octets s lent.octets (in_force_in s)) i

  here : p i ≡ 1
      → let k = count p 0 i in
      (numbering_of s lent i ≡ numbered k) × (k < present_count s lent) × (value_at p xs i ≡ get_or xs k 0)
  unfolding present_count
  here one =
      let k = count p 0 i in (
        numbering ∙ ap (λ (b : Bool). cond b (numbered k) absent) (eq-eqb (p i) 1 one),
        number_lt p i (points_in s) one l,
        value_there p xs i one,
      )

  away : p i ≡ 0 → (numbering_of s lent i ≡ absent) × (value_at p xs i ≡ 0)
  away none =
      let not-one : p i ≡ 1 → ⊥ = λ e. omega arith in (
        numbering
            ∙ ap (λ (b : Bool). cond b (numbered (count p 0 i)) absent) (ne_eqb (p i) 1 not-one),
        value-away p xs i not-one,
      )

pub packed_simply : PackedSimply
packed_simply s lent t k l = record { inside = data_inside s lent t k l; is = data_at s lent k l }

-- with no bitmap every point is one
all_ones : (m : Bitmap) (o : List ℕ) → m ≡ Without → (i : ℕ) → present_by m o i ≡ 1
unfolding present_by
all_ones m o e i = ap (λ (x : Bitmap). cond (the_bitmap_given x) (bits_in 8 o i) 1) e

pub own-number : OwnNumber
unfolding present_in
own-number s lent t none i l =
    let p = present_in s lent in
    let each = all_ones (bitmap_in s) (bitmap_octets s lent.octets (in_force_in s)) none in
    numbering s lent t i l ∙ ap (λ (b : Bool). cond b (numbered (count p 0 i)) absent) (eq-eqb (p i) 1 (each i))
    ∙ ap numbered (sym (count_ones p 0 i (λ j k. each (0 + j))))

pub value-at-point : ValueAtPoint
unfolding the_values_after the_marks_after values_in marks_in scattered
value-at-point s lent values marks t i l =
    let r = read_refusal s lent values marks in
    let own = read_taken s lent values marks t in
    let v = filled_at r (value_at (present_in s lent) (xs s lent own i l)) (points_in s) values i t l in
    record {
      bit = bit s lent own i l;
      mark = filled_at r (present_in s lent) (points_in s) marks i t l;
      here = λ e. let h = here s lent own i l e in (h.0, h.1, v ∙ h.2);
      away = λ e. let h = away s lent own i l e in (h.0, v ∙ h.1);
    }

pub read_keeps : ReadKeeps
unfolding the_values_after the_marks_after values_in marks_in scattered
read_keeps s lent values marks t =
    let r = read_refusal s lent values marks in
    (filled-after r _ (points_in s) values t, filled-after r (present_in s lent) (points_in s) marks t)

pub present-counted : PresentCounted
unfolding header_of answer_by found_in found_by present_count
present-counted s lent t =
    ap (λ (b : Bool). (cond b (found_in s lent) (refused_by (own_refusal s lent))).present)
    (is_true (accepted (own_refusal s lent)) t)
