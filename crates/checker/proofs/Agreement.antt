-- The message's marks beside the source's: which octets they are bits of, by the kind of the bitmap.
use mathlib.Core.Path.{◌≡◌, refl, sym, ap, ◌∙◌}
use mathlib.Core.Bool.{Bool, true, false, not}
use mathlib.Core.List.{List}
use Prim.Native.Nat.{ℕ, ◌+◌}
use native.Mathlib.Nat.{zero-add}
use native.Mathlib.Decide.{ℕ_discrete}
use borrow.Author.Tests.{eq-eqb, ne_eqb}
use lib.Dec.{eqb}
use Rattle.bits.specs.Bits.{bits_in}
use Rattle.bits.specs.Tables.{any_below}
use Rattle.bits.proofs.Below.{any_ext}
use Rattle.bitmap.proofs.Laws.{bit-part}
use Rattle.rules.specs.declared.{Part.Part, Bitmap.Bitmap, Bitmap.TheVariants.Without, Bitmap.TheVariants.Carried}
use Rattle.rules.specs.declared.{Bitmap.TheVariants.Stored}
use Rattle.rules.specs.Bounds.{bms_head}
use Rattle.rules.specs.Bitmap.{mark_of, present_by, bitmap_octets, in_force}
use Rattle.marks.specs.Marks.{the_all_present, marks_differ}

twice : (b : Bool) → not (not b) ≡ b
twice true = refl
twice false = refl

turned : (x y : ℕ) → eqb x y ≡ eqb y x
turned x y =
    elim (ℕ_discrete x y)
    [ yes e ↦ eq-eqb x y e ∙ sym (eq-eqb y x (sym e)) | no e ↦ ne_eqb x y e ∙ sym (ne_eqb y x (λ q. e (sym q))) ]

module _ (s store : List ℕ) (bms : Part) (marks : List ℕ) (n : ℕ) (b : Bitmap) where
  abbrev differ : Bitmap → Bool
  differ b = any_below (λ i. not (eqb (present_by b (bitmap_octets s store (in_force b bms n)) i) (mark_of marks i))) n

  pub without : b ≡ Without → (r : Bool) → r ≡ the_all_present marks n → not r ≡ differ b
  unfolding present_by the_all_present
  without h r e = rw h (ap not e ∙ twice _ ∙ any_ext _ _ n (λ i _. ap not (turned (mark_of marks i) 1)))

  pub carried : b ≡ Carried → (r : Bool) → r ≡ marks_differ s (bms.start + bms_head) marks n → r ≡ differ b
  unfolding present_by bitmap_octets in_force marks_differ
  carried h r e =
      rw h (e ∙ any_ext _ _ n
      (λ i k. ap (λ (x : ℕ). not (eqb x (mark_of marks i)))
      (bit-part s (bms.start + bms_head) n i k ∙ ap (bits_in 8 _) (zero-add i))))

  pub stored : (number : ℕ) → b ≡ Stored number → (r : Bool) → r ≡ marks_differ store 0 marks n → r ≡ differ b
  unfolding present_by bitmap_octets in_force marks_differ
  stored number h r e =
      rw h (e ∙ any_ext _ _ n
      (λ i k. ap (λ (x : ℕ). not (eqb x (mark_of marks i))) (bit-part store 0 n i k ∙ ap (bits_in 8 _) (zero-add i))))
