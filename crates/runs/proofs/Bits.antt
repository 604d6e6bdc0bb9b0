-- What `fetch` answers, from the test that the code makes.
use mathlib.Core.Path.{◌≡◌, refl, sym, subst}
use mathlib.Core.Bool.{Bool, cond}
use mathlib.Core.List.{List}
use mathlib.Core.Logic.{⊎_elim}
use Prim.Native.Nat.{ℕ, ◌^◌, ◌≤◌, ◌<◌}
use borrow.Author.Tests.{le-leb, lt-leb}
use lib.Pow.{pow_pos}
use Rattle.bits.specs.Bits.{bits_in, run}
use Rattle.bits.proofs.Runs.{bits_in-bits, run-lt, lt_or_ge}
use Rattle.runs.specs.Take.{fetched}

pub fetched-some : (s : List ℕ) (at n x : ℕ) → n ≤ 32 → x ≡ run (bits_in 8 s) at n → x ≡ fetched s at n
unfolding fetched
fetched-some s at n x h e = rw (le-leb n 32 h) e

pub fetched-none : (s : List ℕ) (at n : ℕ) → 32 < n → 0 ≡ fetched s at n
unfolding fetched
fetched-none s at n h = rw (lt-leb n 32 h) refl

-- `fetch` answers a number of n bits
pub fetched-lt : (s : List ℕ) (at n : ℕ) → fetched s at n < 2 ^ n
unfolding fetched
fetched-lt s at n = ⊎_elim
    (λ h. subst (λ (y : Bool). cond y (run (bits_in 8 s) at n) 0 < 2 ^ n) (sym (lt-leb n 32 h)) (pow_pos n))
    (λ h. subst (λ (y : Bool). cond y (run (bits_in 8 s) at n) 0 < 2 ^ n) (sym (le-leb n 32 h))
    (run-lt (bits_in-bits 8 s) at n))
    (lt_or_ge 32 n)
