-- The first g entries are put.
use mathlib.Core.Path.{◌≡◌}
use mathlib.Core.List.{◌++◌}
use lib.ListN.{drop}
use Prim.Native.Nat.{◌*◌}
use Rattle.bits.specs.Tables.{tab}
use Rattle.cursor.proofs.fill_even.Given as goal

abbrev pub invariant-loop-g : goal.invariant-loop-g
invariant-loop-g l = l.index ≡ tab (λ k. k * 256) l.g ++ drop l.g l.initial.index
