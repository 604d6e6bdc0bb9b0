-- Marks read as presence, and the test of whether a block fits.
use mathlib.Core.Path.{◌≡◌, refl, sym, ap, ap₂, ◌∙◌}
use mathlib.Core.Bool.{Bool, true, false, cond, ◌&&◌}
use mathlib.Core.List.{List}
use mathlib.Core.Logic.{⊎_elim}
use Prim.Native.Nat.{ℕ, ◌+◌, ◌-◌, ◌≤◌, ◌<◌}
use native.Mathlib.Omega.{arith}
use borrow.Author.Tests.{eq-eqb, le-leb, lt-leb, leb-true, eqb-true}
use lib.Dec.{eqb, leb}
use Rattle.bits.proofs.Runs.{Bits, lt_or_ge}
use Rattle.bits.proofs.Tests.{and_left, and_right}
use Rattle.rules.specs.Bitmap.{mark_of}
use Rattle.laws.specs.Marks.{here}
use Rattle.gathering.specs.Gather.{here_from, gather_fits}

bit-few : (b : Bool) → cond b 1 0 < 2
bit-few true = omega arith
bit-few false = omega arith

pub here-bits : (marks : List ℕ) → Bits (here marks)
unfolding here
here-bits marks i = bit-few (eqb (mark_of marks i) 1)

pub here-from-bits : (marks : List ℕ) (at : ℕ) → Bits (here_from marks at)
here-from-bits marks at j = here-bits marks (at + j)

pub here-is : (marks : List ℕ) (i r : ℕ) → r ≡ cond (eqb (mark_of marks i) 1) 1 0 → r ≡ here marks i
unfolding here
here-is marks i r e = e

-- a point is present by its mark as it is by `here`
pub here-one : (marks : List ℕ) (i : ℕ) → eqb (here marks i) 1 ≡ eqb (mark_of marks i) 1
unfolding here
here-one marks i = back (eqb (mark_of marks i) 1)
  where
    back : (b : Bool) → eqb (cond b 1 0) 1 ≡ b
    back true = refl
    back false = refl

pub here-marked : (marks : List ℕ) (i : ℕ) → here marks i ≡ 1 → mark_of marks i ≡ 1
here-marked marks i h = eqb-true (mark_of marks i) 1 (sym (here-one marks i) ∙ eq-eqb (here marks i) 1 h)

module _ (c room at marked : ℕ) where
  pub fits_after : at ≤ marked → leb c room && leb c (marked - at) ≡ gather_fits c room at marked
  unfolding gather_fits
  fits_after h = ap (λ (t : Bool). leb c room && t) (⊎_elim
      (λ l. lt-leb c (marked - at) l ∙ sym (lt-leb (at + c) marked (omega arith)))
      (λ l. le-leb c (marked - at) l ∙ sym (le-leb (at + c) marked (omega arith)))
      (lt_or_ge (marked - at) c))

  pub fits-none : marked < at → false ≡ gather_fits c room at marked
  unfolding gather_fits
  fits-none h = sym (none (leb c room) (leb (at + c) marked) (lt-leb (at + c) marked (omega arith)))
    where
      none : (a b : Bool) → b ≡ false → a && b ≡ false
      none true b e = e
      none false b e = refl

  pub fits_said : gather_fits c room at marked ≡ true → (c ≤ room) × (at + c ≤ marked)
  unfolding gather_fits
  fits_said h = (
    leb-true c room (and_left (leb c room) (leb (at + c) marked) h),
    leb-true (at + c) marked
        (and_right (leb c room) (leb (at + c) marked) h),
  )

  pub fits_so : c ≤ room → at + c ≤ marked → gather_fits c room at marked ≡ true
  unfolding gather_fits
  fits_so h k = ap₂ (λ (a b : Bool). a && b) (le-leb c room h) (le-leb (at + c) marked k)

-- an answer where the block fits, and where it does not
pub where_fit : {A : Type 0} (t b : Bool) (x y z : A) → t ≡ true → t ≡ b → x ≡ y → x ≡ cond b y z
where_fit t b x y z h e k = k ∙ sym (ap (λ (s : Bool). cond s y z) (sym e ∙ h))

pub where_not : {A : Type 0} (t b : Bool) (y z : A) → t ≡ false → t ≡ b → z ≡ cond b y z
where_not t b y z h e = sym (ap (λ (s : Bool). cond s y z) (sym e ∙ h))
