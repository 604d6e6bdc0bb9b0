-- The rounding law: X × 2^E is at most half a step from r, for E = 0 and for E more than 0, by the two facts about a
-- quotient; so it is near V where r = V − R.
use Prim.Native.Nat.{ℕ, zero, suc, ◌+◌, ◌*◌, ◌/◌, ◌^◌, ◌≤◌, ◌<◌}
use mathlib.Core.Bool.{false}
use mathlib.Core.Path.{◌≡◌, sym, subst}
use native.Mathlib.Omega.{arith}
use native.Mathlib.Nat.{div-mul-le_self, lt-div-mul-add, pow-suc}
use lib.Pow.{pow_pos}
use lib.IntN.{ℤ, pos, nat_abs, ◌-ℤ◌}
use lib.Signed.{lt_z}
use Rattle.rules.specs.Packing.{stepped}
use Rattle.laws.proofs.Whole.{twice-apart, gap}

record Rounded (e r x : ℕ) : Type 0 where
  over : 2 * (x * 2 ^ e) ≤ 2 * r + 2 ^ e
  under : 2 * r ≤ 2 * (x * 2 ^ e) + 2 ^ e

rounded : (e r : ℕ) → Rounded e r (stepped e r)
unfolding stepped
rounded zero r = record { over = omega arith; under = omega arith }
rounded (suc e) r =
    let d : 2 ^ suc e ≡ 2 ^ e * 2 = pow-suc 2 e in
    let l : (r + 2 ^ e) / 2 ^ suc e * 2 ^ suc e ≤ r + 2 ^ e = div-mul-le_self (r + 2 ^ e) (2 ^ suc e) in
    let h : r + 2 ^ e < (r + 2 ^ e) / 2 ^ suc e * 2 ^ suc e + 2 ^ suc e = lt-div-mul-add (pow_pos (suc e)) in
    record { over = omega arith; under = omega arith }

-- 2 × |r − X × 2^E| ≤ 2^E
half_step : (e r : ℕ) → 2 * nat_abs (pos r -ℤ pos (stepped e r * 2 ^ e)) ≤ 2 ^ e
half_step e r = let h = rounded e r in twice-apart r (stepped e r * 2 ^ e) (2 ^ e) h.under h.over

-- so X is near enough to a number v that is not below r
pub near : (e : ℕ) (v r : ℤ) → lt_z v r ≡ false
    → 2 * nat_abs (v -ℤ r -ℤ pos (stepped e (nat_abs (v -ℤ r)) * 2 ^ e)) ≤ 2 ^ e
near e v r l =
    let d = nat_abs (v -ℤ r) in
    subst (λ (z : ℤ). 2 * nat_abs (z -ℤ pos (stepped e d * 2 ^ e)) ≤ 2 ^ e) (sym (gap v r l)) (half_step e d)
