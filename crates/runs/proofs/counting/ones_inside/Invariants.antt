-- The invariants: the total is the count of the octets passed, eight or one a turn.
use mathlib.Core.Path.{◌≡◌}
use Prim.Native.Nat.{◌*◌}
use Rattle.bits.specs.Bits.{bits_in, count}
use Rattle.runs.proofs.counting.ones_inside.Given as goal

abbrev pub invariant-loop-g : goal.invariant-loop-g
invariant-loop-g l = l.total ≡ count (bits_in 8 l.s) (l.p * 8) (l.g * 8 * 8)

abbrev pub invariant-loop-j : goal.invariant-loop-j
invariant-loop-j l = l.total ≡ count (bits_in 8 l.s) (l.p * 8) (l.j * 8)
