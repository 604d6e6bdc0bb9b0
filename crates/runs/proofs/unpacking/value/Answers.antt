-- The n bits are a part of the number that four octets make.
use native.Mathlib.Omega.{arith}
use Prim.Native.Nat.{◌-◌}
use Rattle.runs.proofs.Parts.{part-is}
use Rattle.runs.proofs.unpacking.value.Goals as goal

pub returns : goal.returns
returns c =
    let a = c.args in
    part-is a.s.now a.k 32 a.skip a.n (32 - a.skip - a.n) _ _ c.word.ensures (omega arith)
    c.part.ensures
