-- Four octets and one more, inside or not.
use mathlib.Core.Path.{◌≡◌, sym, ap, ap₂, ◌∙◌}
use Prim.Native.Nat.{ℕ, ◌+◌, ◌*◌, ◌-◌}
use native.Mathlib.Omega.{arith}
use Rattle.bits.specs.Bits.{bits_in, run}
use Rattle.bits.proofs.Runs.{run-octet, run-lt, bits_in-bits}
use Rattle.runs.proofs.fields.five.Goals as goal

pub overflow_mul-result : goal.overflow_mul-result
overflow_mul-result c = let a = c.args in omega (arith, c.word.ensures, run-lt (bits_in-bits 8 a.s.now) (a.k * 8) 32)

pub overflow_add-result : goal.overflow_add-result
overflow_add-result c = let a = c.args in omega (arith, c.word.ensures, run-lt (bits_in-bits 8 a.s.now) (a.k * 8) 32)

pub returns-then-k-s : goal.returns-then-k-s
returns-then-k-s c =
    let a = c.args in
    ap₂ (λ (x y : ℕ). x * 256 + y) c.word.ensures c.wide.ensures.0 ∙ sym (run-octet a.s.now a.k 4 (omega arith))

pub returns : goal.returns
returns c =
    let a = c.args in
    let z : (a.k + (1 - 1)) * 8 ≡ a.k * 8 = omega arith in
    ap₂ (λ (x y : ℕ). x * 256 + y) (c.four.ensures ∙ ap (λ (x : ℕ). run (bits_in 8 a.s.now) x 32) z) c.at.ensures
    ∙ sym (run-octet a.s.now a.k 4 (omega arith))
