-- Down the rows: what is left of k at row j is looked for in the rows from j on (laws of Left).
use Rattle.rules.specs.Counts.{counts_of}
use Rattle.laws.proofs.Counts.{Left}
use Rattle.octants.proofs.scanned.Given as goal

abbrev pub invariant-loop-j : goal.invariant-loop-j
invariant-loop-j l = Left (counts_of l.start) l.k l.j l.left
