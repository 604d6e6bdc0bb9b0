-- What the points passed have shown, by octets inside and past an end.
use mathlib.Core.Path.{◌≡◌}
use Rattle.marks.specs.Marks.{marks_differ}
use Rattle.marks.proofs.judging.unlike.Given as goal

abbrev pub invariant-loop-i : goal.invariant-loop-i
invariant-loop-i l = l.bad ≡ marks_differ l.map l.k l.marks l.i

abbrev pub invariant-loop-i-2 : goal.invariant-loop-i-2
invariant-loop-i-2 l = l.bad ≡ marks_differ l.map l.k l.marks l.i
