-- The invariant `State`: the numbers put so far, and the bits held of the last ones.
use Prim.Native.Nat.{◌≤◌, ◌+◌, ◌*◌}
use Rattle.packs.proofs.Over.{State}
use Rattle.packs.proofs.packing.pack_some.Given as goal

abbrev pub invariant-loop-j : goal.invariant-loop-j
invariant-loop-j l = (l.p ≤ l.j * 24) × State l.vs l.n l.initial.out l.i l.out l.k l.p l.all (l.i + l.j)
