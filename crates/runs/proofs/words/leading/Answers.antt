-- The first bits of the number that eight octets make.
use mathlib.Core.Path.{ap, ◌∙◌}
use native.Mathlib.Omega.{arith}
use Prim.Native.Nat.{ℕ, ◌-◌, ◌*◌, ◌/◌, ◌^◌}
use Rattle.bits.proofs.Runs.{bits_in-bits}
use Rattle.runs.proofs.Parts.{first-bits}
use Rattle.runs.proofs.words.leading.Goals as goal

pub returns : goal.returns
returns c =
    let a = c.args in
    ap (λ (x : ℕ). x / 2 ^ (64 - a.c)) c.word8.ensures
    ∙ first-bits (bits_in-bits 8 a.s.now) (a.k * 8) a.c (64 - a.c) 64 (omega arith)
