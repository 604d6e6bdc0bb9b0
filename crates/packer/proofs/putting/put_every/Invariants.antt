-- X of a block made where it is held, and packed from there.
use Prim.Native.Nat.{◌*◌}
use Rattle.bits.specs.Tables.{tab}
use Rattle.steps.specs.Steps.{step_of}
use Rattle.blocks.specs.Passed.{Passed}
use Rattle.packer.proofs.putting.put_every.Given as goal

abbrev pub invariant-loop-b : goal.invariant-loop-b
invariant-loop-b l =
    Passed l.bits (tab (step_of l.numbers l.r l.e) (l.b * 256)) l.initial.out (record { place = l.place; held = 0 }) l.held l.out
