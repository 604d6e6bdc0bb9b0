-- What the points passed have shown, with a mark and past the marks.
use mathlib.Core.Path.{◌≡◌}
use Rattle.marks.specs.Marks.{strays}
use Rattle.marks.proofs.judging.stray.Given as goal

abbrev pub invariant-loop-i : goal.invariant-loop-i
invariant-loop-i l = l.bad ≡ strays l.values l.marks l.i

abbrev pub invariant-loop-i-2 : goal.invariant-loop-i-2
invariant-loop-i-2 l = l.bad ≡ strays l.values l.marks l.i
