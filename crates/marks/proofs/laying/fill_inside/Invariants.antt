-- Marks octet by octet of the bitmap, then the points left over: each loop fills the list further.
use mathlib.Core.Path.{◌≡◌}
use mathlib.Core.List.{◌++◌}
use Prim.Native.Nat.{◌+◌, ◌*◌}
use lib.ListN.{drop}
use Rattle.bits.specs.Tables.{tab}
use Rattle.marks.proofs.Bitmaps.{G}
use Rattle.marks.proofs.laying.fill_inside.Given as goal

abbrev pub invariant-loop-g : goal.invariant-loop-g
invariant-loop-g l = l.marks ≡ tab (G l.map l.k) (l.g * 8) ++ drop (l.g * 8) l.initial.marks

abbrev pub invariant-loop-j : goal.invariant-loop-j
invariant-loop-j l = l.marks ≡ tab (G l.map l.k) (l.g * 8 + l.j) ++ drop (l.g * 8 + l.j) l.fn.marks

abbrev pub invariant-loop-i : goal.invariant-loop-i
invariant-loop-i l = l.marks ≡ tab (G l.map l.k) l.i ++ drop l.i l.fn.marks
