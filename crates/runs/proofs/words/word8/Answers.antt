-- Two words, one after the other.
use mathlib.Core.Path.{ap₂, ◌∙◌}
use Rattle.bits.proofs.Runs.{bits_in-bits, run-lt}
use Rattle.bits.proofs.Words.{run-eight}
use native.Mathlib.Omega.{arith}
use Prim.Native.Nat.{ℕ, ◌+◌, ◌*◌}
use Rattle.runs.proofs.words.word8.Goals as goal

pub overflow_mul-result : goal.overflow_mul-result
overflow_mul-result c =
    let a = c.args in
    omega (arith, run-lt (bits_in-bits 8 a.s.now) (a.k * 8) 32)

pub overflow_add-result : goal.overflow_add-result
overflow_add-result c =
    let a = c.args in
    omega (
      arith,
      run-lt (bits_in-bits 8 a.s.now) (a.k * 8) 32,
      run-lt (bits_in-bits 8 a.s.now) ((a.k + 4) * 8)
          32,
    )

pub returns : goal.returns
returns c =
    let a = c.args in
    ap₂ (λ (x y : ℕ). x * 4294967296 + y) c.word.ensures c.word-2.ensures ∙ run-eight a.s.now a.k
