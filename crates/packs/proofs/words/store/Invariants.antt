-- The invariant: the octets passed are those of x, and the rest are as they were.
use mathlib.Core.Path.{◌≡◌}
use mathlib.Core.List.{◌++◌}
use Prim.Native.Nat.{◌+◌, ◌*◌}
use lib.ListN.{take, drop}
use Rattle.bits.specs.Bits.{bit_of, runs}
use Rattle.packs.proofs.words.store.Given as goal

abbrev pub invariant-loop-j : goal.invariant-loop-j
invariant-loop-j l =
    l.out ≡ (take l.k l.initial.out ++ runs (bit_of (l.c * 8) l.x) 0 8 l.j) ++ drop (l.k + l.j) l.initial.out
