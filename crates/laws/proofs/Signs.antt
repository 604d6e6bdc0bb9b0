-- Sign and magnitude over the sign bit's weight: what is written reads back and is never minus zero, and what is read
-- and is not minus zero is written back.
use Prim.Native.Nat.{ℕ, zero, suc, ◌+◌, ◌-◌, ◌≤◌, ◌<◌}
use mathlib.Core.Bool.{Bool, true, false, cond}
use mathlib.Core.Path.{◌≡◌, refl, sym, subst, ◌∙◌, ap}
use native.Mathlib.Omega.{arith}
use borrow.Author.Tests.{lt-ltb, le-ltb, ltb-true, ltb-false, ne_eqb}
use lib.Dec.{ltb, eqb}
use lib.IntN.{ℤ, pos, negsuc, neg_ℤ, nat_abs}
use Rattle.rules.specs.declared.{Signed.Signed}
use Rattle.laws.specs.Signs.{SignFree}
use Rattle.rules.specs.Numbers.{sign, plain, signed, spelled_value, spelled}

value-back : (half : ℕ) (c : ℕ) (z : ℤ) → half ≡ sign c → nat_abs z < half → (signed c (spelled_value c z)).value ≡ z
unfolding signed
value-back half c (pos n) e h = simp (lt-ltb n (sign c) (subst (λ (x : ℕ). n < x) e h))
value-back half c (negsuc n) e h =
    let f : sign c + suc n - sign c ≡ suc n = omega arith in
    simp (le-ltb (sign c + suc n) (sign c) (omega arith), f)

-- a signed field where its number was read back
pub signed-read : (c v : ℕ) (z : Signed) → v ≡ spelled c z → SignFree c z → signed c v ≡ z
signed-read c v z e h = ap (signed c) e ∙ ap plain (value-back (sign c) c z.value refl h)

value-lt : (c top : ℕ) (z : ℤ) → sign c + sign c ≡ top → nat_abs z < sign c → spelled_value c z < top
value-lt c top (pos n) e h = omega arith
value-lt c top (negsuc n) e h = omega arith

pub spelled-lt : (c top : ℕ) (z : Signed) → sign c + sign c ≡ top → SignFree c z → spelled c z < top
spelled-lt c top z = value-lt c top z.value

-- no signed field is written as minus zero
value_not : (c : ℕ) (z : ℤ) → nat_abs z < sign c → spelled_value c z ≡ sign c → ⊥
value_not c (pos n) h e = omega arith
value_not c (negsuc n) h e = omega arith

pub plus : (c v : ℕ) (z : Signed) → v ≡ spelled c z → SignFree c z → eqb v (sign c) ≡ false
plus c v z e h = ne_eqb v (sign c) (λ q. value_not c z.value h (sym e ∙ q))

-- a signed field that is not minus zero
spelled_neg : (h c v d : ℕ) → h ≡ sign c → h ≤ v → (v ≡ h → ⊥) → v - h ≡ d → spelled_value c (neg_ℤ (pos d)) ≡ v
spelled_neg h c v zero e l z q = absurd (z (omega arith))
spelled_neg h c v (suc d) e l z q = ap (λ (x : ℕ). x + suc d) (sym e) ∙ omega arith

pub signed-here : (c v : ℕ) → (v ≡ sign c → ⊥) → v ≡ spelled c (signed c v)
unfolding signed
signed-here c v z = sym (go (ltb v (sign c)) refl)
  where
    go : (t : Bool) → ltb v (sign c) ≡ t → spelled_value c (cond t (pos v) (neg_ℤ (pos (v - sign c)))) ≡ v
    go true e = refl
    go false e = spelled_neg (sign c) c v (v - sign c) refl (ltb-false v (sign c) e) z refl

-- a signed field's magnitude
neg_size : (d : ℕ) → nat_abs (neg_ℤ (pos d)) ≡ d
neg_size zero = refl
neg_size (suc d) = refl

pub signed-size : (c v : ℕ) → v < sign c + sign c → SignFree c (signed c v)
unfolding signed
signed-size c v h = go (ltb v (sign c)) refl
  where
    less : (v h : ℕ) → v < h + h → h ≤ v → v - h < h
    less v h a b = omega arith

    go : (t : Bool) → ltb v (sign c) ≡ t → nat_abs (cond t (pos v) (neg_ℤ (pos (v - sign c)))) < sign c
    go true e = ltb-true v (sign c) e
    go false e =
        subst (λ (x : ℕ). x < sign c) (sym (neg_size (v - sign c))) (less v (sign c) h (ltb-false v (sign c) e))
