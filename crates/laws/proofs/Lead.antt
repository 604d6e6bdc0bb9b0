-- What the count of leading zeros says of B, a number of at most 24 digits: shifted by it, the leading digit stands at
-- weight 2^52.
use mathlib.Core.Path.{◌≡◌, refl, sym, ap, ◌∙◌, subst}
use Prim.Native.Nat.{ℕ, zero, suc, ◌+◌, ◌-◌, ◌*◌, ◌%◌, ◌^◌, ◌≤◌, ◌<◌}
use native.Mathlib.Nat.{lt_of_not-le, lt_irrefl, lt_of_lt_of_le, lt_of_le_of_lt, mul-le-mul_right}
use native.Mathlib.Omega.{arith}
use lib.Pow.{pow-add, pow_mono, shl_lt, shl_exact}
use Rattle.rules.specs.Display.{the_ref_bits}
use lib.Count.{count_leading_zeros, leading_top}

-- z leading zeros of 32: the leading digit of b has the weight 2 ^ j
pub record Lead (b z : ℕ) : Type 0 where
  pub j : ℕ
  pub sum : z + suc j ≡ 32
  pub least : 8 ≤ z
  pub most : z ≤ 31
  pub low : 2 ^ 52 ≤ b * 2 ^ (21 + z)
  pub high : b * 2 ^ (21 + z) < 2 ^ 53
  pub exact : (b * 2 ^ (21 + z)) % 2 ^ 64 ≡ b * 2 ^ (21 + z)

pow_lt_back : (i p : ℕ) → 2 ^ i < 2 ^ p → i < p
pow_lt_back i p h = lt_of_not-le (λ (g : p ≤ i). lt_irrefl (2 ^ i) (lt_of_lt_of_le h (pow_mono g)))

pub lead : (b : ℕ) → (b ≡ 0 → ⊥) → b < 2 ^ 24 → Lead b (count_leading_zeros 32 b)
lead b n h =
    let z = count_leading_zeros 32 b in
    let t = leading_top 32 b (omega arith) (omega arith) in
    let j = t.0 in
    let few : j < 24 = pow_lt_back j 24 (lt_of_le_of_lt t.2 h) in
    let sum : z + suc j ≡ 32 = t.1 in
    let e52 : j + (21 + z) ≡ 52 = omega arith in
    let e53 : suc j + (21 + z) ≡ 53 = omega arith in
    record {
      j = j;
      sum = sum;
      least = omega arith;
      most = omega arith;
      low = subst (λ (x : ℕ). x ≤ b * 2 ^ (21 + z)) (sym (pow-add 2 j (21 + z)) ∙ ap (λ (x : ℕ). 2 ^ x) e52)
          (mul-le-mul_right (2 ^ (21 + z)) t.2);
      high = subst (λ (x : ℕ). b * 2 ^ (21 + z) < 2 ^ x) e53 (shl_lt (suc j) (21 + z) t.3);
      exact = shl_exact (suc j) (21 + z) 64 t.3 (omega arith);
    }

-- the bits of R with a digit
pub some : (s a b : ℕ) → (b ≡ 0 → ⊥)
    → the_ref_bits s a b ≡ s * 2 ^ 63 + ((4 * a + 773 - count_leading_zeros 32 b) * 2 ^ 52 + b * 2 ^ (21 + count_leading_zeros 32 b))
unfolding the_ref_bits
some s a zero n = absurd (n refl)
some s a (suc b) n = refl
