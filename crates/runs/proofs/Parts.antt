-- Parts of a number that octets make: its first bits, and a value's.
use mathlib.Core.Path.{◌≡◌, sym, ap, ◌∙◌}
use mathlib.Core.List.{List}
use Prim.Native.Nat.{ℕ, ◌+◌, ◌*◌, ◌/◌, ◌%◌, ◌^◌, ◌≤◌}
use native.Mathlib.Nat.{add-mul, mul-le-mul_right}
use native.Mathlib.Omega.{arith}
use lib.ListN.{length}
use lib.Pow.{high}
use Rattle.bits.specs.Bits.{bits_in, run}
use Rattle.bits.proofs.Runs.{Bits, bits_in-bits, run-lt, run-split, run-field}

-- the first c of t bits
pub first-bits : {f : ℕ → ℕ} → Bits f → (at c r t : ℕ) → c + r ≡ t → run f at t / 2 ^ r ≡ run f at c
first-bits {f} b at c r t e =
    ap (λ (x : ℕ). run f at x / 2 ^ r) (sym e) ∙ ap (λ (x : ℕ). x / 2 ^ r) (run-split f at c r)
    ∙ high (run f at c) r (run-lt b (at + c) r)

-- the n bits of the first c that i bits precede and `up` follow
pub part-is : (s : List ℕ) (k c i n up w x : ℕ) → w ≡ run (bits_in 8 s) (k * 8) c → i + n + up ≡ c
    → x ≡ w / 2 ^ up % 2 ^ n → x ≡ run (bits_in 8 s) (k * 8 + i) n
part-is s k c i n up w x e h r =
    r ∙ ap (λ (y : ℕ). y / 2 ^ up % 2 ^ n) (e ∙ ap (run (bits_in 8 s) (k * 8)) (sym h))
    ∙ run-field (bits_in-bits 8 s) (k * 8) i n up

-- two such values, the second with nothing after it
pub pair_is : (s : List ℕ) (k skip n w x y : ℕ) → w ≡ run (bits_in 8 s) (k * 8) (skip + n * 2)
    → x ≡ w / 2 ^ n % 2 ^ n → y ≡ w / 2 ^ 0 % 2 ^ n
    → (x ≡ run (bits_in 8 s) (k * 8 + skip) n) × (y ≡ run (bits_in 8 s) (k * 8 + (skip + n)) n)
pair_is s k skip n w x y e g h = (
  part-is s k (skip + n * 2) skip n n w x e (omega arith) g,
  part-is s k (skip + n * 2) (skip + n) n 0 w y e (omega arith) h,
)

-- eight octets at a value's place are inside, where ten values more of an octet or more follow it and four octets these
pub pair_inside : (s : List ℕ) (at n m i j k p : ℕ) → k * 8 + p ≡ at + (i + j) * n → 8 ≤ n → j ≤ 6 → i + 16 ≤ m
    → (at + m * n) / 8 + 4 ≤ length s → k + p / 8 + 8 ≤ length s
pair_inside s at n m i j k p e w h q b =
    let a : (i + j + 10) * n ≤ m * n = mul-le-mul_right n (omega arith) in
    let c : (i + j + 10) * n ≡ (i + j) * n + 10 * n = add-mul (i + j) 10 n in
    omega arith
