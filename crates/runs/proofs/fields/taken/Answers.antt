-- The n bits are a part of the number that five octets make.
use mathlib.Core.Path.{ap, ◌∙◌}
use native.Mathlib.Nat.{div-add-mod'}
use native.Mathlib.Omega.{arith}
use Prim.Native.Nat.{ℕ, ◌-◌, ◌/◌, ◌%◌}
use Rattle.bits.specs.Bits.{bits_in, run}
use Rattle.runs.proofs.Parts.{part-is}
use Rattle.runs.proofs.fields.taken.Goals as goal

pub returns : goal.returns
returns c =
    let a = c.args in
    part-is a.s.now (a.from / 8) 40 (a.from % 8) a.n (40 - a.from % 8 - a.n) _ _ c.five-all.ensures
    (omega arith) c.part.ensures
    ∙ ap (λ (x : ℕ). run (bits_in 8 a.s.now) x a.n) (div-add-mod' a.from 8)
