-- The bits of R's double are no NaN's: the exponent's field stays below 2,047.
use mathlib.Core.Path.{sym, subst}
use mathlib.Core.Bool.{Bool, not}
use Prim.Native.Nat.{ℕ, zero, suc, ◌+◌, ◌*◌, ◌%◌, ◌^◌, ◌≤◌, ◌<◌}
use native.Mathlib.Omega.{arith}
use lib.Arith.{le→nltb}
use lib.Dec.{T}
use lib.Count.{count_leading_zeros}
use lib.Ieee.{binary64, nan_bits}
use lib.Ieee.Bits.{nan_bits_above}
use Rattle.rules.specs.Display.{the_ref_bits}
use Rattle.laws.proofs.Lead.{lead}

pub no_nan : (n : ℕ) → n % 2 ^ 63 ≤ 2047 * 2 ^ 52 → T (not (nan_bits binary64 n))
no_nan n h = subst (λ (b : Bool). T (not b)) (sym (nan_bits_above binary64 n)) (le→nltb (2047 * 2 ^ 52) (n % 2 ^ 63) h)

pub ref_small : (s a b : ℕ) → s < 2 → a < 128 → b < 2 ^ 24 → the_ref_bits s a b % 2 ^ 63 ≤ 2047 * 2 ^ 52
unfolding the_ref_bits
ref_small s a zero hs ha hb = omega arith
ref_small s a (suc b) hs ha hb =
    let l = lead (suc b) (λ e. omega arith) hb in
    let top : suc b * 2 ^ (21 + count_leading_zeros 32 (suc b)) < 2 ^ 53 = l.high in
    omega (arith, l.least)
