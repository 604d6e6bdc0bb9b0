-- The invariants: the octets passed of a value, as one number; the first i values, each from octets of its own.
use mathlib.Core.Path.{◌≡◌}
use mathlib.Core.List.{◌++◌}
use Prim.Native.Nat.{◌+◌, ◌*◌}
use lib.ListN.{drop}
use Rattle.bits.specs.Bits.{bits_in, run, runs}
use Rattle.runs.proofs.unpacking.unpack_octets.Given as goal

abbrev pub invariant-loop-j : goal.invariant-loop-j
invariant-loop-j g l = l.x ≡ run (bits_in 8 l.s) ((l.k + l.i * g.row.C) * 8) (l.j * 8)

abbrev pub invariant-loop-i : goal.invariant-loop-i
invariant-loop-i g l = l.out ≡ runs (bits_in 8 l.s) (l.k * 8) (g.row.C * 8) l.i ++ drop l.i l.initial.out
