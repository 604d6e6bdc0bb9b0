-- The first bits of the number that four octets or eight make.
use mathlib.Core.Path.{ap, ◌∙◌}
use native.Mathlib.Omega.{arith}
use Prim.Native.Nat.{ℕ, ◌+◌, ◌-◌, ◌*◌, ◌/◌, ◌^◌}
use Rattle.bits.proofs.Runs.{bits_in-bits}
use Rattle.runs.proofs.Parts.{first-bits}
use Rattle.runs.proofs.unpacking.eight_at.Goals as goal

pub returns-then-bits-le32 : goal.returns-then-bits-le32
returns-then-bits-le32 c =
    let a = c.args in
    let t = a.skip + a.n * 8 in
    ap (λ (x : ℕ). x / 2 ^ (32 - t)) c.word.ensures
    ∙ first-bits (bits_in-bits 8 a.s.now) (a.k * 8) t (32 - t) 32 (omega arith)
