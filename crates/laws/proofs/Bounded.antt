-- Demand 2: the octets of the bitmap in force lie in the slice they are part of; by cases on the kind, from row 10.
use Prim.Native.Nat.{ℕ, ◌+◌, ◌-◌, ◌*◌, ◌≤◌}
use mathlib.Core.Bool.{Bool, true, false, cond}
use mathlib.Core.Path.{◌≡◌, refl, ◌∙◌}
use mathlib.Core.List.{List}
use native.Mathlib.Omega.{arith}
use borrow.Author.Tests.{ltb-false, eqb-true}
use lib.Dec.{eqb}
use lib.ListN.{length}
use Rattle.bits.specs.Bits.{octets_for}
use Rattle.rules.specs.declared.{Part.Part, Bitmap.Bitmap, Bitmap.TheVariants.Without, Bitmap.TheVariants.Carried}
use Rattle.rules.specs.declared.{Bitmap.TheVariants.Stored}
use Rattle.rules.specs.Bounds.{bms_least}
use Rattle.rules.specs.Numbers.{octet, number}
use Rattle.rules.specs.Table.{any_of}
use Rattle.rules.specs.Places.{after, pds_start, the_has_bitmap, places_of}
use Rattle.rules.specs.Bitmap.{Lent, the_bitmap_at, lent_faults, bitmap_faults, the_bitmap_given, in_force, no_bitmap}
use Rattle.rules.specs.Reading.{bitmap_in, points_in, in_force_in}
use Rattle.laws.specs.Taken.{BitmapInside}
use Rattle.laws.proofs.Rows.{none_of, is_eq}
use Rattle.laws.proofs.Judged.{judged}
use Rattle.laws.proofs.Sections.{sections}

-- what a bitmap section's kind says of its octets
abbrev pub NumberIs : List ℕ → ℕ → Bitmap → Type 0
NumberIs s k Without = Unit {0}
NumberIs s k Carried = number s k 5 6 ≡ 0
NumberIs s k (Stored j) = number s k 5 6 ≡ j

pub map-says : (s : List ℕ) (there : Bool) (k : ℕ)
    → (there ≡ the_bitmap_given (the_bitmap_at s there k)) × NumberIs s k (the_bitmap_at s there k)
unfolding the_bitmap_at
map-says s false k = (refl, tt)
map-says s true k = go (eqb (number s k 5 6) 0) refl
  where
    go : (t : Bool) → eqb (number s k 5 6) 0 ≡ t
        → (true ≡ the_bitmap_given (cond t Carried (Stored (number s k 5 6))))
        × NumberIs s k (cond t Carried (Stored (number s k 5 6)))
    go true e = (refl, eqb-true _ _ e)
    go false e = (refl, refl)

-- a bitmap is given where the PDS says that there is a section
pub kind : (s : List ℕ) → the_has_bitmap s pds_start ≡ the_bitmap_given (bitmap_in s)
unfolding bitmap_in
kind s = (map-says s (the_has_bitmap s pds_start) (places_of s).bms.start).0

bounded : (m : Bitmap) (s : List ℕ) (lent : Lent) (p : Part) (n : ℕ) → (the_bitmap_given m ≡ true → bms_least ≤ p.len)
    → p.start + p.len ≤ length s → any_of (bitmap_faults s lent p m n) ≡ false
    → after (in_force m p n).part ≤ length (cond (in_force m p n).stored lent.octets s)
unfolding bitmap_faults lent_faults in_force no_bitmap
bounded Without s lent p n q l e = omega arith
bounded Carried s lent p n q l e =
    let h = is_eq (8 * (p.len - 6)) (n + octet s p.start 4) (none_of (bitmap_faults s lent p Carried n) e).1.0 in
    omega (arith, q refl)
bounded (Stored j) s lent p n q l e =
    omega (
      arith,
      ltb-false (length lent.octets) (octets_for n)
          (none_of (bitmap_faults s lent p (Stored j) n) e).1.1.1.1.0,
    )

pub bitmap-inside : BitmapInside
unfolding in_force_in
bitmap-inside s lent t =
    let at = sections s lent t in
    bounded (bitmap_in s) s lent (places_of s).bms (points_in s) (λ q. at.bms.least (kind s ∙ q))
    (omega (arith, at.at-bds, at.end)) (judged s lent t).bitmap
