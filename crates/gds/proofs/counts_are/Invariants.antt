-- Row by row: the rows before i are the same, and those from i on are left (laws of Compared).
use Rattle.rules.specs.Counts.{counts_of}
use Rattle.gds.proofs.Laws.{Compared}
use Rattle.gds.proofs.counts_are.Given as goal

abbrev pub invariant-loop-i : goal.invariant-loop-i
invariant-loop-i l = Compared (counts_of l.start) l.s l.g l.i
