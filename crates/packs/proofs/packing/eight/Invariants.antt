-- The invariant: the numbers passed, as one.
use mathlib.Core.Path.{◌≡◌}
use Prim.Native.Nat.{◌*◌}
use Rattle.bits.specs.Bits.{bits_in, run}
use Rattle.packs.proofs.packing.eight.Given as goal

abbrev pub invariant-loop-v : goal.invariant-loop-v
invariant-loop-v l = l.all ≡ run (bits_in l.n l.vs) (l.i * l.n) (l.v-index * l.n)
