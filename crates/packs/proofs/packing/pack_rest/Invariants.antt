-- The invariant: the first i numbers are packed; a turn by the law of one number more.
use mathlib.Core.Path.{◌≡◌}
use mathlib.Core.List.{List}
use Prim.Native.Nat.{ℕ}
use lib.ListN.{take}
use Rattle.bits.specs.Bits.{packed_into}
use Rattle.packs.proofs.packing.pack_rest.Given as goal

abbrev pub invariant-loop-i : goal.invariant-loop-i
invariant-loop-i l =
    (d : List ℕ) → l.initial.out ≡ packed_into l.n (take l.from l.vs) d → l.out ≡ packed_into l.n (take l.i l.vs) d
