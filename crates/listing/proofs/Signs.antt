-- The magnitude of a signed number by way of 64 bits, where its negation always fits; and a decimal with its sign. By
-- the number's two cases.
use mathlib.Core.Path.{◌≡◌, refl, ap, ◌∙◌, subst}
use mathlib.Core.Bool.{true, false}
use mathlib.Core.List.{List, [], ◌∷◌}
use Prim.Native.Nat.{ℕ, zero, suc, ◌≤◌}
use native.Mathlib.Omega.{arith}
use native.Mathlib.Nat.{not-suc-le-zero}
use borrow.Author.Tests.{ltb-true}
use lib.Dec.{T}
use lib.ListN.{length}
use lib.IntN.{ℤ, pos, negsuc, neg_ℤ, ◌-ℤ◌, +ℤ_idl, nat_abs}
use lib.Signed.{non_neg, lt_z}
use mir.Syntax.{w32, w64}
use mir.Val.{Fits, SFits, to_z, of_z}
use mir.Facts.{to_z-of_z}
use Rattle.rules.specs.Listing.{hyphen, ended, decimal, decimal_signed}
use Rattle.listing.specs.Text.{Wrote}
use Rattle.listing.proofs.Writes.{wrote_next}

wide : (z : ℤ) → SFits w32 z → SFits w64 z
wide z h = record { sfits = omega (arith, h.sfits) }

neg_wide : (z : ℤ) → SFits w32 z → SFits w64 (neg_ℤ z)
neg_wide (pos zero) h = record { sfits = omega arith }
neg_wide (pos (suc n)) h = record { sfits = omega (arith, h.sfits) }
neg_wide (negsuc n) h = record { sfits = omega (arith, h.sfits) }

pub cast_fits : (z : ℤ) → SFits w32 z → SFits w64 (to_z w32 (of_z w32 z))
cast_fits z h = rw (to_z-of_z h) (wide z h)

negated : (z : ℤ) → SFits w32 z → pos 0 -ℤ to_z w64 (of_z w64 (to_z w32 (of_z w32 z))) ≡ neg_ℤ z
negated z h = rw (to_z-of_z h, to_z-of_z (wide z h)) (+ℤ_idl (neg_ℤ z))

pub sub-fits : (z : ℤ) → SFits w32 z → SFits w64 (pos 0 -ℤ to_z w64 (of_z w64 (to_z w32 (of_z w32 z))))
sub-fits z h = rw (negated z h) (neg_wide z h)

back : (z : ℤ) → SFits w32 z → to_z w64 (of_z w64 (pos 0 -ℤ to_z w64 (of_z w64 (to_z w32 (of_z w32 z))))) ≡ neg_ℤ z
back z h = rw (negated z h) (to_z-of_z (neg_wide z h))

pub taken-fits : (z : ℤ) → SFits w32 z → lt_z (to_z w32 (of_z w32 z)) (pos 0) ≡ true
    → T (non_neg (to_z w64 (of_z w64 (pos 0 -ℤ to_z w64 (of_z w64 (to_z w32 (of_z w32 z)))))))
    × Fits w32 (nat_abs (to_z w64 (of_z w64 (pos 0 -ℤ to_z w64 (of_z w64 (to_z w32 (of_z w32 z)))))))
taken-fits z h e = rw (back z h) (go z h (simp (to_z-of_z h) at e))
  where
    go : (z : ℤ) → SFits w32 z → lt_z z (pos 0) ≡ true → T (non_neg (neg_ℤ z)) × Fits w32 (nat_abs (neg_ℤ z))
    go (pos n) h e = absurd (not-suc-le-zero (ltb-true n 0 e))
    go (negsuc n) h e = (tt, record { fits = omega (arith, h.sfits) })

abs_neg : (z : ℤ) → nat_abs (neg_ℤ z) ≡ nat_abs z
abs_neg (pos zero) = refl
abs_neg (pos (suc n)) = refl
abs_neg (negsuc n) = refl

pub taken_is : (z : ℤ) → SFits w32 z
    → nat_abs (to_z w64 (of_z w64 (pos 0 -ℤ to_z w64 (of_z w64 (to_z w32 (of_z w32 z)))))) ≡ nat_abs z
taken_is z h = ap nat_abs (back z h) ∙ abs_neg z

pub left-fits : (z : ℤ) → SFits w32 z → lt_z (to_z w32 (of_z w32 z)) (pos 0) ≡ false
    → T (non_neg (to_z w32 (of_z w32 z))) × Fits w32 (nat_abs (to_z w32 (of_z w32 z)))
left-fits z h e = rw (to_z-of_z h) (go z h (simp (to_z-of_z h) at e))
  where
    go : (z : ℤ) → SFits w32 z → lt_z z (pos 0) ≡ false → T (non_neg z) × Fits w32 (nat_abs z)
    go (pos n) h e = (tt, record { fits = omega (arith, h.sfits) })
    go (negsuc n) h e = absurd (subst T e tt)

pub left_is : (z : ℤ) → SFits w32 z → nat_abs (to_z w32 (of_z w32 z)) ≡ nat_abs z
left_is z h = ap nat_abs (to_z-of_z h)

-- a number below zero after its sign, and another as it is
pub sign-taken : (t u v : List ℕ) (at mid next : ℕ) (z : ℤ) (m x : ℕ) → SFits w32 z
    → lt_z (to_z w32 (of_z w32 z)) (pos 0) ≡ true → m ≡ nat_abs (to_z w32 (of_z w32 z))
    → Wrote t u at mid (hyphen ∷ []) → Wrote u v mid next (ended (decimal m) x) → next ≤ length t
    → Wrote t v at next (ended (decimal_signed z) x)
unfolding decimal_signed
sign-taken t u v at mid next z m x h e f a b r = go z (f ∙ ap nat_abs (to_z-of_z h)) (simp (to_z-of_z h) at e)
  where
    go : (z : ℤ) → m ≡ nat_abs z → lt_z z (pos 0) ≡ true → Wrote t v at next (ended (decimal_signed z) x)
    go (pos n) f e = absurd (not-suc-le-zero (ltb-true n 0 e))
    go (negsuc n) f e = wrote_next a (subst (λ (k : ℕ). Wrote u v mid next (ended (decimal k) x)) f b) r

pub sign-left : (t u : List ℕ) (at next : ℕ) (z : ℤ) (m x : ℕ) → SFits w32 z → lt_z (to_z w32 (of_z w32 z)) (pos 0) ≡ false
    → m ≡ nat_abs (to_z w32 (of_z w32 z))
    → Wrote t u at next (ended (decimal m) x) → Wrote t u at next (ended (decimal_signed z) x)
unfolding decimal_signed
sign-left t u at next z m x h e f a = go z (f ∙ ap nat_abs (to_z-of_z h)) (simp (to_z-of_z h) at e)
  where
    go : (z : ℤ) → m ≡ nat_abs z → lt_z z (pos 0) ≡ false → Wrote t u at next (ended (decimal_signed z) x)
    go (pos n) f e = subst (λ (k : ℕ). Wrote t u at next (ended (decimal k) x)) f a
    go (negsuc n) f e = absurd (subst T e tt)

-- a signed number handed on
pub signed_arg : (t u : List ℕ) (at next : ℕ) (z : ℤ) (x : ℕ) → SFits w32 z
    → Wrote t u at next (ended (decimal_signed (to_z w32 (of_z w32 z))) x) → Wrote t u at next (ended (decimal_signed z) x)
signed_arg t u at next z x h a = subst (λ (k : ℤ). Wrote t u at next (ended (decimal_signed k) x)) (to_z-of_z h) a
