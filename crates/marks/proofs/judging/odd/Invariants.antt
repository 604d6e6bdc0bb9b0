-- The bits of all marks passed.
use mathlib.Core.Path.{◌≡◌}
use mathlib.Core.Bool.{not}
use lib.Dec.{leb, ltb}
use Prim.Native.Nat.{◌^◌}
use Rattle.bits.specs.Tables.{any_below}
use Rattle.rules.specs.Bitmap.{mark_of}
use Rattle.marks.proofs.judging.odd.Given as goal

abbrev pub invariant-loop-mark : goal.invariant-loop-mark
invariant-loop-mark l = ltb l.all (2 ^ 1) ≡ not (any_below (λ k. leb (2 ^ 1) (mark_of l.marks k)) l.mark-index)
