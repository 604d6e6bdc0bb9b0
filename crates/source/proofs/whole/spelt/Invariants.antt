-- A and B of a size: the loop keeps Spells; the measure is A.
use Rattle.source.proofs.Digits.{Spells}
use Rattle.source.proofs.whole.spelt.Given as goal

abbrev pub invariant-loop-b : goal.invariant-loop-b
invariant-loop-b l = Spells l.size l.a l.b

abbrev pub decreases-loop-b : goal.decreases-loop-b
decreases-loop-b l = l.a
