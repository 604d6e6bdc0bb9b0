-- Octets copied one by one: what those passed leave (law copied).
use mathlib.Core.Path.{◌≡◌}
use lib.ListN.{length, take}
use Rattle.bits.specs.Bits.{placed}
use Rattle.framing.proofs.laying.copy.Given as goal

abbrev pub invariant-loop-i : goal.invariant-loop-i
invariant-loop-i l = (length l.out ≡ length l.initial.out) × (l.out ≡ placed l.initial.out l.at (take l.i l.s))
