-- The marks other than 0 among those passed.
use mathlib.Core.Path.{◌≡◌}
use mathlib.Core.Bool.{not}
use Rattle.marks.specs.Marks.{the_none_marked}
use Rattle.marks.proofs.judging.none_marked.Given as goal

abbrev pub invariant-loop-mark : goal.invariant-loop-mark
invariant-loop-mark l = l.some ≡ not (the_none_marked l.marks l.mark-index)
