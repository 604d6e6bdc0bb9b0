-- Whole numbers: sizes, differences and order by cases on the two signs.
use Prim.Native.Nat.{ℕ, zero, suc, ◌+◌, ◌-◌, ◌*◌, ◌≤◌}
use mathlib.Core.Bool.{Bool, true, false, cond}
use mathlib.Core.Path.{◌≡◌, refl, sym, subst, ap}
use native.Mathlib.Omega.{arith}
use native.Mathlib.Nat.{not-suc-le-zero}
use borrow.Author.Tests.{ltb-true, ltb-false, le-ltb}
use lib.Dec.{T, ltb}
use lib.IntN.{ℤ, pos, negsuc, neg_ℤ, nat_abs, sub_ℕ, ◌-ℤ◌}
use lib.Signed.{lt_z}
use Rattle.rules.specs.Numbers.{beyond}
use Rattle.bits.proofs.Tests.{or_false, or_none}

-- what a difference of two naturals says in size, and a bound on twice that
sub-size : (a b h : ℕ) → a ≤ b + h → b ≤ a + h → nat_abs (sub_ℕ a b) ≤ h
sub-size a b h p q = go (ltb a b) refl
  where
    go : (t : Bool) → ltb a b ≡ t → nat_abs (cond t (negsuc (b - suc a)) (pos (a - b))) ≤ h
    go true e = omega (arith, ltb-true a b e)
    go false e = omega (arith, ltb-false a b e)

pub twice-apart : (d m h : ℕ) → 2 * d ≤ 2 * m + h → 2 * m ≤ 2 * d + h → 2 * nat_abs (pos d -ℤ pos m) ≤ h
twice-apart d zero h p q = omega arith
twice-apart d (suc m) h p q = go (ltb d (suc m)) refl
  where
    go : (t : Bool) → ltb d (suc m) ≡ t → 2 * nat_abs (cond t (negsuc (suc m - suc d)) (pos (d - suc m))) ≤ h
    go true e = omega (arith, ltb-true d (suc m) e)
    go false e = omega (arith, ltb-false d (suc m) e)

-- the size of a difference
pub sub-le : (a b : ℤ) → nat_abs (a -ℤ b) ≤ nat_abs a + nat_abs b
sub-le (pos a) (pos zero) = omega arith
sub-le (pos a) (pos (suc b)) = sub-size a (suc b) _ (omega arith) (omega arith)
sub-le (pos a) (negsuc b) = omega arith
sub-le (negsuc a) (pos zero) = sub-size 0 (suc a) _ (omega arith) (omega arith)
sub-le (negsuc a) (pos (suc b)) = omega arith
sub-le (negsuc a) (negsuc b) = sub-size (suc b) (suc a) _ (omega arith) (omega arith)

-- a number that is not below another: the difference is its size
pub gap : (v r : ℤ) → lt_z v r ≡ false → v -ℤ r ≡ pos (nat_abs (v -ℤ r))
gap (pos a) (pos zero) e = refl
gap (pos a) (pos (suc b)) e = simp (le-ltb a (suc b) (ltb-false a (suc b) e))
gap (pos a) (negsuc b) e = refl
gap (negsuc a) (pos b) e = absurd (subst T e tt)
gap (negsuc a) (negsuc b) e = simp (le-ltb (suc b) (suc a) (omega (arith, ltb-false b a e)))

-- not below each other: equal
pub lt_z_antisym : (a b : ℤ) → lt_z a b ≡ false → lt_z b a ≡ false → a ≡ b
lt_z_antisym (pos a) (pos b) p q = ap pos (omega (arith, ltb-false a b p, ltb-false b a q))
lt_z_antisym (pos a) (negsuc b) p q = absurd (subst T q tt)
lt_z_antisym (negsuc a) (pos b) p q = absurd (subst T p tt)
lt_z_antisym (negsuc a) (negsuc b) p q = ap negsuc (omega (arith, ltb-false b a p, ltb-false a b q))

pub lt_z_irrefl : (a : ℤ) → lt_z a a ≡ false
lt_z_irrefl (pos a) = le-ltb a a (omega arith)
lt_z_irrefl (negsuc a) = le-ltb a a (omega arith)

-- at least a, which is above b
pub not-below : (v a b : ℤ) → lt_z v a ≡ false → lt_z b a ≡ true → lt_z v b ≡ false
not-below (pos v) (pos a) (pos b) p q = le-ltb v b (omega (arith, ltb-false v a p, ltb-true b a q))
not-below (pos v) (pos a) (negsuc b) p q = refl
not-below (pos v) (negsuc a) (pos b) p q = absurd (subst T (sym q) tt)
not-below (pos v) (negsuc a) (negsuc b) p q = refl
not-below (negsuc v) (pos a) b p q = absurd (subst T p tt)
not-below (negsuc v) (negsuc a) (pos b) p q = absurd (subst T (sym q) tt)
not-below (negsuc v) (negsuc a) (negsuc b) p q = le-ltb b v (omega (arith, ltb-false a v p, ltb-true a b q))

-- a magnitude that is within its bound, there and back
pub within : (most : ℕ) (z : ℤ) → beyond most z ≡ false → nat_abs z ≤ most
within most (pos n) e = ltb-false most n (or_false (ltb most n) (lt_z (pos n) (neg_ℤ (pos most))) e).0
within zero (negsuc n) e = absurd (subst T e tt)
within (suc m) (negsuc n) e = omega (arith, ltb-false m n e)

pub not-over : (most : ℕ) (z : ℤ) → nat_abs z ≤ most → lt_z (pos most) z ≡ false
not-over most (pos n) h = le-ltb most n h
not-over most (negsuc n) h = refl

not-under : (most : ℕ) (z : ℤ) → nat_abs z ≤ most → lt_z z (neg_ℤ (pos most)) ≡ false
not-under zero (pos n) h = le-ltb n 0 (omega arith)
not-under (suc k) (pos n) h = refl
not-under zero (negsuc n) h = absurd (not-suc-le-zero h)
not-under (suc k) (negsuc n) h = le-ltb k n (omega (arith, h))

pub beyond-no : (most : ℕ) (z : ℤ) → nat_abs z ≤ most → beyond most z ≡ false
beyond-no most z h = or_none _ _ (not-over most z h) (not-under most z h)

-- a number from 0 to a bound
pub natural : (most : ℕ) (z : ℤ) → lt_z z (pos 0) ≡ false → lt_z (pos most) z ≡ false
    → (z ≡ pos (nat_abs z)) × (nat_abs z ≤ most)
natural most (pos n) a b = (refl, ltb-false most n b)
natural most (negsuc n) a b = absurd (subst T a tt)
