-- Of two numbers above R the greater is the farther.
use mathlib.Core.Path.{◌≡◌, refl, sym, ap, subst}
use mathlib.Core.Bool.{Bool, true, false, cond}
use Prim.Native.Nat.{ℕ, zero, suc, ◌+◌, ◌-◌, ◌≤◌, ◌<◌}
use native.Mathlib.Omega.{arith}
use lib.Dec.{T, ltb}
use lib.IntN.{ℤ, pos, negsuc, nat_abs, sub_ℕ, ◌-ℤ◌}
use lib.Signed.{lt_z, mag}
use borrow.Author.Tests.{ltb-true, ltb-false, le-ltb}
use Rattle.laws.proofs.Whole.{lt_z_antisym}
use Rattle.scaling.specs.Spread.{floor, spread_of}

-- the distance of two naturals
between : (a b : ℕ) → nat_abs (sub_ℕ a b) ≡ a - b + (b - a)
between a b = go (ltb a b) refl
  where
    go : (t : Bool) → ltb a b ≡ t → nat_abs (cond t (negsuc (b - suc a)) (pos (a - b))) ≡ a - b + (b - a)
    go true e = omega (arith, ltb-true a b e)
    go false e = omega (arith, ltb-false a b e)

-- of two numbers not below R, the greater is the farther
pub farther : (r v h : ℤ) → lt_z v r ≡ false → lt_z h v ≡ false → nat_abs (v -ℤ r) ≤ nat_abs (h -ℤ r)
farther (pos zero) (pos v) (pos h) p q = omega (arith, ltb-false h v q)
farther (pos (suc r)) (pos v) (pos h) p q =
    omega (arith, between v (suc r), between h (suc r), ltb-false v (suc r) p, ltb-false h v q)
farther (negsuc r) (pos v) (pos h) p q = omega (arith, ltb-false h v q)
farther (negsuc r) (negsuc v) (pos h) p q = omega (arith, between (suc r) (suc v), ltb-false r v p)
farther (negsuc r) (negsuc v) (negsuc h) p q =
    omega (arith, between (suc r) (suc v), between (suc r) (suc h), ltb-false r v p, ltb-false v h q)
farther (pos r) (negsuc v) h p q = absurd (subst T p tt)
farther r (pos v) (negsuc h) p q = absurd (subst T q tt)

-- no number of 32 bits is below the floor, and a number that it is not below is the floor
pub over-floor : (z : ℤ) → mag z < 2147483648 → lt_z z floor ≡ false
over-floor (pos n) h = refl
over-floor (negsuc n) h = le-ltb 2147483647 n (omega arith)

pub floor-spread : (r : ℤ) → mag r < 2147483648 → spread_of r floor ≡ 0
floor-spread r h = go (lt_z floor r) refl
  where
    go : (t : Bool) → lt_z floor r ≡ t → cond t 0 (nat_abs (floor -ℤ r)) ≡ 0
    go true e = refl
    go false e = ap (λ (x : ℤ). nat_abs (floor -ℤ x)) (sym (lt_z_antisym floor r e (over-floor r h)))
