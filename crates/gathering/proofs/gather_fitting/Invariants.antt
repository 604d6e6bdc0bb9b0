-- A turn stores one value at the place reached and moves the place by its mark: the list held is that of one point
-- more.
use Prim.Native.Nat.{◌≤◌}
use mathlib.Core.Path.{◌≡◌}
use lib.ListN.{length}
use Rattle.bits.specs.Bits.{count}
use Rattle.gathering.specs.Gather.{here_from, gather_list}
use Rattle.gathering.proofs.gather_fitting.Given as goal

abbrev pub invariant-loop-j : goal.invariant-loop-j
invariant-loop-j g l =
    (length l.held ≡ length l.initial.held) × (l.d ≤ l.j) × (l.d ≡ count (here_from l.marks l.at) 0 l.j)
    × (l.held ≡ gather_list (here_from l.marks l.at) l.values l.j l.initial.held)
