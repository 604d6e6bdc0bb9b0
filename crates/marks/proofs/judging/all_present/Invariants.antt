-- The marks other than 1 among those passed.
use mathlib.Core.Path.{◌≡◌}
use mathlib.Core.Bool.{not}
use lib.Dec.{eqb}
use Rattle.bits.specs.Tables.{any_below}
use Rattle.rules.specs.Bitmap.{mark_of}
use Rattle.marks.proofs.judging.all_present.Given as goal

abbrev pub invariant-loop-mark : goal.invariant-loop-mark
invariant-loop-mark l = l.gap ≡ any_below (λ k. not (eqb (mark_of l.marks k) 1)) l.mark-index
