-- The first g entries are put, and the next one is counted.
use mathlib.Core.Path.{◌≡◌}
use mathlib.Core.List.{◌++◌}
use lib.ListN.{drop}
use Rattle.bits.specs.Tables.{tab}
use Rattle.rules.specs.Cursor.{ones_before}
use Rattle.bitmap.specs.Held.{bits_from}
use Rattle.cursor.proofs.fill_counted.Given as goal

abbrev pub invariant-loop-g : goal.invariant-loop-g
invariant-loop-g l =
    (l.before ≡ ones_before (bits_from l.s l.p) l.g)
    × (l.index ≡ tab (ones_before (bits_from l.s l.p)) l.g ++ drop l.g l.initial.index)
