-- What `unpack` answers and leaves, from the tests that the code makes.
use mathlib.Core.Path.{◌≡◌, sym, ap, ap₂}
use mathlib.Core.Bool.{Bool, true, false, cond, ◌&&◌}
use mathlib.Core.List.{List, ◌++◌}
use Prim.Native.Nat.{ℕ, ◌+◌, ◌*◌, ◌/◌, ◌%◌, ◌≤◌}
use native.Mathlib.Nat.{mul-le-mul_right}
use native.Mathlib.Omega.{arith}
use borrow.Author.Tests.{le-leb}
use lib.Dec.{leb}
use lib.ListN.{length, drop}
use Rattle.bits.specs.Bits.{bits_in, runs}
use Rattle.bits.proofs.Unpack.{eight}
use Rattle.runs.specs.Take.{unpack_fits, unpacked}

-- four octets after the n octets of a turn of eight are inside, where four after the last value's place are
pub turn_inside : (s : List ℕ) (at n m i k : ℕ) → k * 8 + at % 8 ≡ at + i * n → i + 8 ≤ m
    → (at + m * n) / 8 + 4 ≤ length s → k + n + 4 ≤ length s
turn_inside s at n m i k e h b = omega (arith, eight at n i k e, mul-le-mul_right n h)

-- what a caller knows of numbers that fit
pub unpacked-fits : (s out : List ℕ) (at n m : ℕ) → n ≤ 24 → m ≤ length out
    → unpacked s at n m out ≡ runs (bits_in 8 s) at n m ++ drop m out
unfolding unpacked unpack_fits
unpacked-fits s out at n m h k =
    ap₂ (λ (a b : Bool). cond (a && b) (runs (bits_in 8 s) at n m ++ drop m out) out) (le-leb n 24 h)
    (le-leb m (length out) k)

module _ (s out : List ℕ) (at n m : ℕ) where
  module _ (h : leb n 24 && leb m (length out) ≡ true) where
    pub unpack-answer : true ≡ unpack_fits n m (length out)
    unfolding unpack_fits
    unpack-answer = sym h

    pub unpack-left : runs (bits_in 8 s) at n m ++ drop m out ≡ unpacked s at n m out
    unfolding unpacked
    unpack-left = ap (λ (y : Bool). cond y (runs (bits_in 8 s) at n m ++ drop m out) out) unpack-answer

  module _ (h : leb n 24 && leb m (length out) ≡ false) where
    pub no-unpack-answer : false ≡ unpack_fits n m (length out)
    unfolding unpack_fits
    no-unpack-answer = sym h

    pub no-unpack-left : out ≡ unpacked s at n m out
    unfolding unpacked
    no-unpack-left = ap (λ (y : Bool). cond y (runs (bits_in 8 s) at n m ++ drop m out) out) no-unpack-answer
