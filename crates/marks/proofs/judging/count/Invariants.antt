-- The marks that are 1 counted, many at a time (law count-more).
use mathlib.Core.Path.{◌≡◌}
use Rattle.bits.specs.Bits.{count}
use Rattle.laws.specs.Marks.{here}
use Prim.Native.Nat.{◌*◌}
use Rattle.marks.proofs.judging.count.Given as goal

abbrev pub invariant-loop-g : goal.invariant-loop-g
invariant-loop-g l = l.m ≡ count (here l.marks) 0 (l.g * 128)
