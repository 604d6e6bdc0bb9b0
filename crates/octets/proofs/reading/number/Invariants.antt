-- The invariant: the octets passed, as one number.
use mathlib.Core.Path.{◌≡◌}
use Prim.Native.Nat.{◌+◌, ◌-◌, ◌*◌}
use Rattle.bits.specs.Bits.{bits_in, run}
use Rattle.octets.proofs.reading.number.Given as goal

abbrev pub invariant-loop-j : goal.invariant-loop-j
invariant-loop-j g l = l.x ≡ run (bits_in 8 l.s) ((l.p + (l.k - 1)) * 8) (l.j * 8)
