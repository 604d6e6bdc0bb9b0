-- The invariants: the first g eights are packed, and what lies past the data is as it was; then, whatever they were
-- packed over, g more are.
use mathlib.Core.Path.{◌≡◌}
use mathlib.Core.List.{List}
use Prim.Native.Nat.{ℕ, ◌≤◌, ◌*◌}
use lib.ListN.{length, take, drop}
use Rattle.bits.specs.Bits.{octets_for, packed_into}
use Rattle.packs.proofs.packing.pack_small.Given as goal

abbrev pub invariant-loop-g : goal.invariant-loop-g
invariant-loop-g l = record {
  inside : l.g * 8 ≤ length l.vs;
  packed : l.out ≡ packed_into l.n (take (l.g * 8) l.vs) l.out;
  kept : drop (octets_for (length l.vs * l.n)) l.out ≡ drop (octets_for (length l.vs * l.n)) l.initial.out;
}

abbrev pub invariant-loop-g-2 : goal.invariant-loop-g-2
invariant-loop-g-2 l =
    (d : List ℕ) → l.initial.out ≡ packed_into l.n (take (l.ahead * 8) l.vs) d → l.out ≡ packed_into l.n (take (l.g * 8) l.vs) d
