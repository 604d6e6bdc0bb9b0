-- A data number leans on presence below n alone; the bits of a bitmap in force are those that code reads; by cases of
-- the definitions.
use mathlib.Core.Path.{◌≡◌, refl, sym, ap, ap₂, ◌∙◌}
use mathlib.Core.Bool.{Bool, true, false, cond}
use mathlib.Core.List.{List}
use Prim.Native.Nat.{ℕ, ◌+◌, ◌*◌, ◌-◌, ◌<◌, ◌≤◌}
use native.Mathlib.Omega.{arith}
use borrow.Author.Tests.{lt-ltb, le-ltb, ltb-true, ltb-false, eq-eqb, ne_eqb}
use lib.Dec.{ltb, eqb}
use lib.ListN.{take, drop}
use Rattle.rules.specs.declared.{Bitmap.TheVariants.Without, Bitmap.TheVariants.Carried}
use Rattle.rules.specs.declared.{Header.Header, Refusal.Refusal}
use Rattle.rules.specs.Answers.{header_reply}
use Rattle.std.specs.Prelude.{Ok, Err}
use Rattle.rules.specs.declared.{Bitmap.TheVariants.Stored}
use Rattle.bits.specs.Bits.{bits_in, count, octets_for}
use Rattle.bits.proofs.Ones.{count_ext}
use Rattle.rules.specs.Bitmap.{Lent, present_by, bitmap_octets, in_force}
use Rattle.rules.specs.Points.{Numbering, numbered, absent, outside, the_data_number}
use Rattle.rules.specs.Reading.{header_of, numbering_of, present_in, in_force_in}
use Rattle.bitmap.proofs.Laws.{bit-part}
use Rattle.message.proofs.Said as S
use Rattle.bitmap.specs.Held.{bits_from}
use Rattle.data_numbers.specs.Told.{always}

module _ (f : ℕ → ℕ) (n i : ℕ) where
  pub out : n ≤ i → outside ≡ the_data_number f n i
  unfolding the_data_number
  out h = let e : ltb i n ≡ false = le-ltb i n h in rw e

  pub away : i < n → (f i ≡ 1 → ⊥) → absent ≡ the_data_number f n i
  unfolding the_data_number
  away h z = let e : ltb i n ≡ true = lt-ltb i n h in let k : eqb (f i) 1 ≡ false = ne_eqb (f i) 1 z in rw (e, k)

  pub here : (r : ℕ) → i < n → f i ≡ 1 → r ≡ count f 0 i → numbered r ≡ the_data_number f n i
  unfolding the_data_number
  here r h z q = let e : ltb i n ≡ true = lt-ltb i n h in let k : eqb (f i) 1 ≡ true = eq-eqb (f i) 1 z in rw (e, k, q)

-- ones counted from octet p on
pub count-from : (s : List ℕ) (p n r : ℕ) → r ≡ count (bits_in 8 s) (p * 8) n → r ≡ count (bits_from s p) 0 n
count-from s p n r e =
    e
    ∙ count_ext (bits_in 8 s) (bits_from s p) (p * 8) 0 n
    (λ (j : ℕ) h. ap (λ (k : ℕ). bits_in 8 s (p * 8 + k)) (omega arith))

-- two ways to say presence that agree below n
module _ (f g : ℕ → ℕ) (n i : ℕ) (h : (j : ℕ) → j < n → f j ≡ g j) where
  ext_inside : i < n → the_data_number f n i ≡ the_data_number g n i
  unfolding the_data_number
  ext_inside l =
      ap₂ (λ (x y : ℕ). cond (ltb i n) (cond (eqb x 1) (numbered y) absent) outside)
      (h i l)
      (count_ext f g 0 0 i (λ (j : ℕ) (k : j < i). let e : 0 + j ≡ j = omega arith in ap f e ∙ h j (omega arith) ∙ ap g (sym e)))

  ext_by : (b : Bool) → ltb i n ≡ b → the_data_number f n i ≡ the_data_number g n i
  ext_by true e = ext_inside (ltb-true i n e)
  ext_by false e = let k = ltb-false i n e in sym (out f n i k) ∙ out g n i k

  pub number_ext : the_data_number f n i ≡ the_data_number g n i
  number_ext = ext_by (ltb i n) refl

-- presence by a bitmap's kind
module _ (bits : List ℕ) (n i : ℕ) (r : Numbering) where
  pub by-none : r ≡ the_data_number always n i → r ≡ the_data_number (present_by Without bits) n i
  unfolding present_by
  by-none e = e ∙ number_ext always (present_by Without bits) n i (λ j h. refl)

  pub by-carried : r ≡ the_data_number (bits_from bits 0) n i → r ≡ the_data_number (present_by Carried bits) n i
  unfolding present_by
  by-carried e = e ∙ number_ext (bits_from bits 0) (present_by Carried bits) n i (λ j h. ap (bits_in 8 bits) (omega arith))

  pub by-stored : (k : ℕ) → r ≡ the_data_number (bits_from bits 0) n i → r ≡ the_data_number (present_by (Stored k) bits) n i
  unfolding present_by
  by-stored k e =
      e ∙ number_ext (bits_from bits 0) (present_by (Stored k) bits) n i (λ j h. ap (bits_in 8 bits) (omega arith))

-- the bits of a bitmap in force are those of the slice that it is a part of
pub of_part : (s : List ℕ) (a n i : ℕ)
    → the_data_number (bits_from s a) n i ≡ the_data_number (bits_in 8 (take (octets_for n) (drop a s))) n i
of_part s a n i =
    number_ext (bits_from s a) (bits_in 8 (take (octets_for n) (drop a s))) n i
    (λ (j : ℕ) (l : j < n). bit-part s a n j l ∙ ap (bits_in 8 (take (octets_for n) (drop a s))) (omega arith))

-- a refused message has no points
pub refused : (s : List ℕ) (lent : Lent) (r : Refusal) → Err r ≡ header_reply (header_of s lent) → (i : ℕ)
    → outside ≡ numbering_of s lent i
unfolding numbering_of
refused s lent r e i = rw (S.refused s lent r e).0

-- a message's points
module _ (s : List ℕ) (lent : Lent) (h : Header) (e : Ok h ≡ header_reply (header_of s lent)) (i : ℕ) where
  module _ (r : Numbering) where
    taken : r
        ≡ the_data_number
        (present_by h.bitmap (bitmap_octets s lent.octets (in_force h.bitmap h.places.bms h.points)))
        h.points i
        → r ≡ numbering_of s lent i
    unfolding numbering_of present_in in_force_in
    taken q =
        q ∙ rw (S.taken s lent h e, S.places-of s lent h e, S.bitmap-of s lent h e, S.points-of s lent h e)

    pub none : h.bitmap ≡ Without → r ≡ the_data_number always h.points i → r ≡ numbering_of s lent i
    none b q = taken (rw b (by-none _ h.points i r q))

    pub carried : h.bitmap ≡ Carried → r ≡ the_data_number (bits_from s (h.places.bms.start + 6)) h.points i
        → r ≡ numbering_of s lent i
    unfolding present_by bitmap_octets in_force
    carried b q = taken (rw b (q ∙ of_part s (h.places.bms.start + 6) h.points i))

    pub stored : (k : ℕ) → h.bitmap ≡ Stored k → r ≡ the_data_number (bits_from lent.octets 0) h.points i
        → r ≡ numbering_of s lent i
    unfolding present_by bitmap_octets in_force
    stored k b q = taken (rw b (q ∙ of_part lent.octets 0 h.points i))
