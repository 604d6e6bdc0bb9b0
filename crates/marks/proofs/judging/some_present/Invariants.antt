-- The marks that are 1 counted one by one.
use mathlib.Core.Path.{◌≡◌}
use Rattle.bits.specs.Bits.{count}
use Rattle.laws.specs.Marks.{here}
use Rattle.marks.proofs.judging.some_present.Given as goal

abbrev pub invariant-loop-i : goal.invariant-loop-i
invariant-loop-i l = l.m ≡ count (here l.marks) l.p l.i
