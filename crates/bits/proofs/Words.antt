-- Numbers of two, four and eight whole octets, and runs of bits inside four.
use mathlib.Core.Path.{◌≡◌, sym, ap, ◌∙◌}
use mathlib.Core.List.{List}
use Prim.Native.Nat.{ℕ, ◌+◌, ◌*◌, ◌/◌, ◌%◌, ◌^◌}
use native.Mathlib.Nat.{zero-add, add-zero}
use native.Mathlib.Omega.{arith}
use lib.ListN.{get_or}
use Rattle.bits.specs.Bits.{bits_in, run, Wide}
use Rattle.bits.proofs.Runs.{bits_in-bits, run-octet, run-field, run-unit, run-split}

pub run-two : (s : List ℕ) (k : ℕ) → Wide 8 s → get_or s k 0 * 256 + get_or s (k + 1) 0 ≡ run (bits_in 8 s) (k * 8) 16
unfolding run
run-two s k w = sym
    (run-octet s k 1 (w (k + 1)) ∙ ap (λ (x : ℕ). x * 256 + get_or s (k + 1) 0)
    (run-octet s k 0 (w (k + 0)) ∙ zero-add (get_or s (k + 0) 0) ∙ ap (λ (x : ℕ). get_or s x 0) (add-zero k)))

pub run-four : (s : List ℕ) (k : ℕ) → Wide 8 s
    → ((get_or s k 0 * 256 + get_or s (k + 1) 0) * 256 + get_or s (k + 2) 0) * 256 + get_or s (k + 3) 0
    ≡ run (bits_in 8 s) (k * 8) 32
run-four s k w = sym
    (run-octet s k 3 (w (k + 3)) ∙ ap (λ (x : ℕ). x * 256 + get_or s (k + 3) 0)
    (run-octet s k 2 (w (k + 2)) ∙ ap (λ (x : ℕ). x * 256 + get_or s (k + 2) 0) (sym (run-two s k w))))

pub run-eight : (s : List ℕ) (k : ℕ)
    → run (bits_in 8 s) (k * 8) 32 * 4294967296 + run (bits_in 8 s) ((k + 4) * 8) 32 ≡ run (bits_in 8 s) (k * 8) 64
run-eight s k =
    let e : (k + 4) * 8 ≡ k * 8 + 32 = omega arith in
    ap (λ (a : ℕ). run (bits_in 8 s) (k * 8) 32 * 4294967296 + run (bits_in 8 s) a 32) e
    ∙ sym (run-split (bits_in 8 s) (k * 8) 32 32)

-- n bits, skip bits after the start of octet k, out of four octets
pub run_inside : (s : List ℕ) (k skip n r : ℕ) → skip + n + r ≡ 32
    → run (bits_in 8 s) (k * 8) 32 / 2 ^ r % 2 ^ n ≡ run (bits_in 8 s) (k * 8 + skip) n
run_inside s k skip n r e =
    ap (λ (x : ℕ). run (bits_in 8 s) (k * 8) x / 2 ^ r % 2 ^ n) (sym e) ∙ run-field (bits_in-bits 8 s) (k * 8) skip n r

-- value i of those of eight and of sixteen bits from octet k on
pub at_8 : (s : List ℕ) (k i : ℕ) → Wide 8 s → get_or s (k + i) 0 ≡ run (bits_in 8 s) (k * 8 + i * 8) 8
at_8 s k i w =
    let e : (k + i) * 8 ≡ k * 8 + i * 8 = omega arith in
    sym (run-unit 8 s (k + i) (w (k + i))) ∙ ap (λ (a : ℕ). run (bits_in 8 s) a 8) e

pub at_16 : (s : List ℕ) (k i : ℕ) → Wide 8 s
    → get_or s (k + i * 2) 0 * 256 + get_or s (k + i * 2 + 1) 0 ≡ run (bits_in 8 s) (k * 8 + i * 16) 16
at_16 s k i w =
    let e : (k + i * 2) * 8 ≡ k * 8 + i * 16 = omega arith in
    run-two s (k + i * 2) w ∙ ap (λ (a : ℕ). run (bits_in 8 s) a 16) e
