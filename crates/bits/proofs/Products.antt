-- A product is below a bound where its factors are within theirs and the bounds' product is, by monotony; a product
-- above a number has two factors.
use Prim.Native.Nat.{ℕ, zero, suc, ◌*◌, ◌≤◌, ◌<◌}
use native.Mathlib.Nat.{mul-le-mul, lt_of_le_of_lt, mul-zero, zero-mul}
use native.Mathlib.Omega.{arith}
use lib.Dec.{T, ltb, lit<}

pub product : (m n k : ℕ) → T (ltb (m * n) k) → (a b : ℕ) → a ≤ m → b ≤ n → a * b < k
product m n k t a b h j = lt_of_le_of_lt (mul-le-mul h j) (lit< t)

pub left-positive : (a b k : ℕ) → k < a * b → 0 < a
left-positive zero b k h = omega (arith, zero-mul b)
left-positive (suc a) b k h = omega arith

pub right_positive : (a b k : ℕ) → k < a * b → 0 < b
right_positive a zero k h = omega (arith, mul-zero a)
right_positive a (suc b) k h = omega arith
