-- The turns of one fill `out` on, from the value that most of them reach.
use Rattle.bits.proofs.Unpack.{Read}
use Rattle.runs.proofs.unpacking.unpack_inside.Given as goal

abbrev pub invariant-loop-i : goal.invariant-loop-i
invariant-loop-i l = Read l.s l.at l.n l.m l.initial.out l.first l.out l.i
