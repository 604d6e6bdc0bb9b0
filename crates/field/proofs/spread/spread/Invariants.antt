-- First the points past the last whole octet from the last down, then octet by octet.
use Prim.Native.Nat.{◌*◌, ◌≤◌}
use Rattle.field.proofs.Spreading.{Settled}
use Rattle.field.proofs.spread.spread.Given as goal

abbrev pub invariant-loop-i : goal.invariant-loop-i
invariant-loop-i l = (l.whole * 8 ≤ l.i) × Settled l.bitmap l.n l.n l.initial.values l.values l.i l.c

abbrev pub invariant-loop-g : goal.invariant-loop-g
invariant-loop-g l = Settled l.bitmap l.n (l.whole * 8) l.initial.values l.values (l.g * 8) l.c
