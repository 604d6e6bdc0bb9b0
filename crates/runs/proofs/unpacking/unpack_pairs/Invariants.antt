-- A turn of eight starts at an octet as far into it as the first one did, and takes its values two at a time, each two
-- out of one number.
use mathlib.Core.Path.{◌≡◌}
use mathlib.Core.List.{◌++◌}
use Prim.Native.Nat.{◌≤◌, ◌+◌, ◌*◌}
use lib.ListN.{drop}
use Rattle.bits.specs.Bits.{bits_in, runs}
use Rattle.bits.proofs.Unpack.{Read}
use Rattle.runs.proofs.unpacking.unpack_pairs.Given as goal

abbrev pub invariant-loop-j : goal.invariant-loop-j
invariant-loop-j l = record {
  few : l.p ≤ 7 + l.j * 48;
  place : l.k * 8 + l.p ≡ l.at + (l.g * 8 + l.j * 2) * l.n;
  read : Read l.s l.at l.n l.m l.initial.out (l.g * 8) l.out (l.g * 8 + l.j * 2);
}

abbrev pub invariant-loop-g : goal.invariant-loop-g
invariant-loop-g l = l.out ≡ runs (bits_in 8 l.s) l.at l.n (l.g * 8) ++ drop (l.g * 8) l.initial.out
