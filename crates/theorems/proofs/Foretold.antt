-- The length told before the values are known is the message's: the rows but 14 that pass for the parts pass for zeros
-- in the place of their values, and a section's length hangs on how many values it has, not on which.
use Prim.Native.Nat.{ℕ, zero, suc, ◌+◌, ◌*◌, ◌^◌}
use mathlib.Core.Bool.{Bool, true, false, not, ◌&&◌, ◌||◌, cond}
use mathlib.Core.Path.{◌≡◌, refl, sym, ap, ◌∙◌}
use mathlib.Core.List.{List, [], ◌∷◌, ◌++◌}
use mathlib.Core.Logic.{⊎_elim}
use native.Mathlib.Nat.{le_refl}
use native.Mathlib.Omega.{arith}
use borrow.Author.Tests.{le-ltb, lt-leb, eqb-true, not-false}
use lib.Dec.{ltb, leb, eqb}
use lib.IntN.{pos}
use lib.Pow.{pow_pos}
use lib.ListN.{length, length-append}
use Rattle.bits.specs.Bits.{bits_in}
use Rattle.bits.specs.Tables.{tab, any_below}
use Rattle.bits.proofs.Fill.{length-tab, get_or-tab}
use Rattle.bits.proofs.Below.{none_below, no-below}
use Rattle.bits.proofs.Tests.{both, or_false, or_none}
use Rattle.rules.specs.declared.{Refusal.Refusal, Bitmap.Bitmap, Bitmap.TheVariants.Without}
use Rattle.rules.specs.Answers.{Written}
use Rattle.rules.specs.declared.{Bitmap.TheVariants.Carried, Bitmap.TheVariants.Stored, Form.Form, Scale.Scale}
use Rattle.rules.specs.declared.{Packing.Packing}
use Rattle.rules.specs.Bounds.{exponent_most, step_most}
use Rattle.rules.specs.Numbers.{field, laid, joined, decimal_at, beyond}
use Rattle.rules.specs.Table.{refusal, first_or, first, any_of}
use Rattle.rules.specs.Places.{sevens}
use Rattle.rules.specs.Time.{time_faults}
use Rattle.rules.specs.Grid.{the_grid_missing, grid_or_zeros, grid_faults}
use Rattle.rules.specs.Bitmap.{Lent, lent_faults, the_bitmap_given, mark_of, marks_long, value_of, bms_of}
use Rattle.rules.specs.Points.{gathered}
use Rattle.rules.specs.Values.{packing_faults, bds_of}
use Rattle.rules.specs.Writing.{Parts, grid_for, points_for, pds_faults, lists_fit, stored_faults, point_bad, parts_faults}
use Rattle.rules.specs.Writing.{gds_for, sections_for, indicator_fields, message, write_table, write_refusal, length_of}
use Rattle.rules.specs.Writing.{write_of, unvalued, length_for}
use Rattle.rules.specs.Checking.{Source, source_faults, the_decimal_differs}
use Rattle.rules.specs.Packing.{exponent, packed_parts, pack_table, pack_refusal}
use Rattle.laws.proofs.Rows.{none_of, any_none}
use Rattle.laws.proofs.Whole.{beyond-no}
use Rattle.laws.proofs.Fields.{laid-length}
use Rattle.laws.proofs.Lengths.{data_len, bds-length}
use Rattle.theorems.specs.Returns.{LengthTold, PackLengthTold}
use Rattle.theorems.proofs.Offered.{Offer, unoffered}
use Rattle.theorems.proofs.PackReplies.{not_this}

-- lists that are as long as each other, behind and before the same
behind : (p x y : List ℕ) → length x ≡ length y → length (p ++ x) ≡ length (p ++ y)
behind p x y e = length-append p x ∙ ap (λ (n : ℕ). length p + n) e ∙ sym (length-append p y)

before : (x y r : List ℕ) → length x ≡ length y → length (x ++ r) ≡ length (y ++ r)
before x y r e = length-append x r ∙ ap (λ (n : ℕ). n + length r) e ∙ sym (length-append y r)

-- as many are gathered of any values
one_more : (t : Bool) (xs ys : List ℕ) (x y : ℕ) → length xs ≡ length ys
    → length (cond t (xs ++ (x ∷ [])) xs) ≡ length (cond t (ys ++ (y ∷ [])) ys)
one_more true xs ys x y e = length-append xs (x ∷ []) ∙ ap (λ (k : ℕ). k + 1) e ∙ sym (length-append ys (y ∷ []))
one_more false xs ys x y e = e

gathered-many : (f v u : ℕ → ℕ) (n : ℕ) → length (gathered f v n) ≡ length (gathered f u n)
unfolding gathered
gathered-many f v u zero = refl
gathered-many f v u (suc n) =
    one_more (eqb (f n) 1) (gathered f v n) (gathered f u n) (v n) (u n) (gathered-many f v u n)

data_many : (p : Packing) (c d : Scale) (xs ys : List ℕ) → length xs ≡ length ys
    → length (bds_of p c xs) ≡ length (bds_of p d ys)
data_many p c d xs ys e = bds-length p c xs ∙ ap (λ (k : ℕ). data_len (k * p.bits)) e ∙ sym (bds-length p d ys)

-- the sections' lengths are the message's, but for its indicator
message-many : (w : Parts) → length (message w) ≡ 8 + length (joined (sections_for w))
unfolding message
message-many w = laid-length (indicator_fields (8 + length (joined (sections_for w)))) (joined (sections_for w))

-- 10 asks of the values how many there are
stored-alike : (b : Bitmap) (lent : Lent) (values us marks : List ℕ) (n : ℕ) → length values ≡ length us
    → stored_faults b lent values marks n ≡ stored_faults b lent us marks n
unfolding stored_faults lists_fit
stored-alike Without lent values us marks n e = refl
stored-alike Carried lent values us marks n e = refl
stored-alike (Stored k) lent values us marks n e =
    ap (λ (x : ℕ).
    (eqb x n && eqb (length marks) (marks_long n)
    && any_below (λ i. not (eqb (bits_in 8 lent.octets i) (mark_of marks i))) n) ∷ lent_faults lent k n) e

-- 13 at a point that passes, with 0 in its value's place
zero-passes : (bitmap : Bool) (bits mark value : ℕ) → point_bad bitmap bits mark value ≡ false → (v : ℕ) → v ≡ 0
    → point_bad bitmap bits mark v ≡ false
unfolding point_bad
zero-passes bitmap bits mark value e v z =
    ap (λ (x : ℕ). (eqb mark 0 && (not bitmap || not (eqb x 0))) || leb (2 ^ bits) x) z
    ∙ or_none _ (leb (2 ^ bits) 0)
    (go (eqb mark 0) bitmap (or_false (eqb mark 0 && (not bitmap || not (eqb value 0))) (leb (2 ^ bits) value) e).0)
    (lt-leb (2 ^ bits) 0 (pow_pos bits))
  where
    go : (t b : Bool) → (t && (not b || not (eqb value 0))) ≡ false → (t && (not b || false)) ≡ false
    go true true h = refl
    go true false h = h
    go false b h = refl

-- what all rows but 14 leave
pub record Passed (w : Parts) : Type 0 where
  pub pds : any_of (pds_faults w.pds) ≡ false
  pub time : any_of (time_faults w.pds 0) ≡ false
  pub found : the_grid_missing (grid_for w) ≡ false
  pub grid : any_of (grid_faults (grid_or_zeros (grid_for w))) ≡ false
  pub stored : any_of (stored_faults w.form.bitmap w.lent w.values w.marks (points_for w)) ≡ false
  pub packing : any_of (beyond exponent_most w.scale.e.value ∷ packing_faults w.form.packing) ≡ false
  pub parts : any_of (parts_faults w) ≡ false

-- of a reply that is none of their numbers
passed : (w : Parts) (out : List ℕ) (k : ℕ)
    → (eqb 5 k ≡ false) × (eqb 6 k ≡ false) × (eqb 7 k ≡ false) × (eqb 9 k ≡ false) × (eqb 10 k ≡ false)
    × (eqb 11 k ≡ false) × (eqb 13 k ≡ false)
    → write_refusal w out ≡ refusal k → Passed w
unfolding write_refusal write_table first first_or
passed w out k d e =
    let h5 = not_this 5 k (any_of (pds_faults w.pds)) _ d.0 e in
    let h6 = not_this 6 k (any_of (time_faults w.pds 0)) _ d.1 h5.1 in
    let h7 = not_this 7 k (the_grid_missing (grid_for w)) _ d.2 h6.1 in
    let h9 = not_this 9 k (any_of (grid_faults (grid_or_zeros (grid_for w)))) _ d.3 h7.1 in
    let h10 = not_this 10 k (any_of (stored_faults w.form.bitmap w.lent w.values w.marks (points_for w))) _ d.4 h9.1 in
    let h11 = not_this 11 k (any_of (beyond exponent_most w.scale.e.value ∷ packing_faults w.form.packing)) _ d.5 h10.1 in
    let h13 = not_this 13 k (any_of (parts_faults w)) _ d.6 h11.1 in
    record { pds = h5.0; time = h6.0; found = h7.0; grid = h9.0; stored = h10.0; packing = h11.0; parts = h13.0 }

module _ (w : Parts) (o : Passed w) where
  abbrev n : ℕ
  n = points_for w

  abbrev zeros : List ℕ
  zeros = tab (λ _. 0) n

  abbrev u : Parts
  u = unvalued w.pds w.form w.lent w.marks

  long : length w.values ≡ length zeros
  unfolding parts_faults lists_fit
  long =
      let fit = not-false (lists_fit w.values w.marks n) (none_of (parts_faults w) o.parts).0 in
      eqb-true (length w.values) n (both (eqb (length w.values) n) (eqb (length w.marks) (marks_long n)) fit).0
      ∙ sym (length-tab (λ _. 0) n)

  lists : any_of (parts_faults u) ≡ false
  unfolding parts_faults lists_fit unvalued points_for grid_for
  lists =
      let h = none_of (parts_faults w) o.parts in
      let bits = w.form.packing.bits in
      let gaps = the_bitmap_given w.form.bitmap in
      any_none (parts_faults u) (
        ap (λ (x : ℕ). not (eqb x n && eqb (length w.marks) (marks_long n))) (sym long) ∙ h.0,
        (
          h.1.0,
          (
            no-below (λ i. point_bad gaps bits (mark_of w.marks i) (value_of zeros i)) n
                (λ i l. zero-passes gaps bits (mark_of w.marks i) (value_of w.values i)
                (none_below (λ i. point_bad gaps bits (mark_of w.marks i) (value_of w.values i)) n h.1.1.0 i l)
                (value_of zeros i) (get_or-tab (λ _. 0) n i 0 l)),
            h.1.1.1,
          ),
        ),
      )

  offer : Offer u (message u)
  unfolding unvalued points_for grid_for
  offer = record {
    pds = o.pds;
    time = o.time;
    found = o.found;
    grid = o.grid;
    stored = ap any_of (stored-alike w.form.bitmap w.lent zeros w.values w.marks n (sym long)) ∙ o.stored;
    packing =
        any_none (beyond exponent_most (pos 0) ∷ packing_faults w.form.packing) (
          beyond-no exponent_most (pos 0) (omega arith),
          (none_of (beyond exponent_most w.scale.e.value ∷ packing_faults w.form.packing) o.packing).1,
        );
    parts = lists;
    room = le-ltb (length (message u)) (length (message u)) (le_refl (length (message u)));
  }

  same-long : length (message u) ≡ length (message w)
  unfolding joined sections_for unvalued points_for grid_for
  same-long =
      let f = mark_of w.marks in
      let p = w.form.packing in
      let xs = gathered f (value_of zeros) n in
      let ys = gathered f (value_of w.values) n in
      let end = laid (field 4 sevens ∷ []) [] ++ [] in
      let zero-scale : Scale = record { e = record { value = pos 0 }; r = 0 } in
      let x = bds_of p zero-scale xs in
      let y = bds_of p w.scale ys in
      let m = bms_of w.form.bitmap f n in
      let g = gds_for w.form.grid in
      message-many u
      ∙ ap (λ (k : ℕ). 8 + k)
      (behind w.pds (g ++ (m ++ (x ++ end))) (g ++ (m ++ (y ++ end)))
      (behind g (m ++ (x ++ end)) (m ++ (y ++ end))
      (behind m (x ++ end) (y ++ end)
      (before x y end
      (data_many p zero-scale w.scale xs ys (gathered-many f (value_of zeros) (value_of w.values) n))))))
      ∙ sym (message-many w)

  told : length_for w.pds w.form w.lent w.marks ≡ record { refusal = refusal 0; len = length (message w) }
  unfolding length_for write_of length_of
  told =
      ap (λ (r : Refusal). length_of r (message u)) (unoffered u (message u) offer)
      ∙ ap {B = Written} (λ (k : ℕ). record { refusal = refusal 0; len = k }) same-long

pub length-told : LengthTold
length-told w out e = told w (⊎_elim
    (λ (h : write_refusal w out ≡ refusal 0). passed w out 0 (refl, refl, refl, refl, refl, refl, refl) h)
    (λ (h : write_refusal w out ≡ refusal 14). passed w out 14 (refl, refl, refl, refl, refl, refl, refl) h)
    e)

-- the packer's own rows pass too
packer-passed : (pds : List ℕ) (form : Form) (lent : Lent) (f : Source) (out : List ℕ) (k : ℕ)
    → (eqb 5 k ≡ false) × (eqb 18 k ≡ false) × (eqb 15 k ≡ false) × (eqb 11 k ≡ false) × (eqb 19 k ≡ false)
    → pack_refusal pds form lent f out ≡ refusal k → write_refusal (packed_parts pds form lent f) out ≡ refusal k
unfolding pack_refusal pack_table first first_or write_refusal
packer-passed pds form lent f out k d e =
    let h5 = not_this 5 k (any_of (pds_faults pds)) _ d.0 e in
    let h18 = not_this 18 k (any_of (source_faults f)) _ d.1 h5.1 in
    let h15 = not_this 15 k (the_decimal_differs (decimal_at pds 0).value f.d) _ d.2 h18.1 in
    let h11 = not_this 11 k (any_of (packing_faults form.packing)) _ d.3 h15.1 in
    (not_this 19 k (ltb step_most (exponent f form.packing.bits)) _ d.4 h11.1).1

pub pack-length-told : PackLengthTold
unfolding packed_parts
pack-length-told pds form lent f out e = ⊎_elim
    (λ (h : pack_refusal pds form lent f out ≡ refusal 0). told (packed_parts pds form lent f)
    (passed (packed_parts pds form lent f) out 0 (refl, refl, refl, refl, refl, refl, refl)
    (packer-passed pds form lent f out 0 (refl, refl, refl, refl, refl) h)))
    (λ (h : pack_refusal pds form lent f out ≡ refusal 14). told (packed_parts pds form lent f)
    (passed (packed_parts pds form lent f) out 14 (refl, refl, refl, refl, refl, refl, refl)
    (packer-passed pds form lent f out 14 (refl, refl, refl, refl, refl) h)))
    e
