-- The eight points of an octet from the last down: whole octets of absent or of present points need no bit.
use Prim.Native.Nat.{◌+◌, ◌*◌}
use Rattle.field.proofs.Spreading.{Settled}
use Rattle.field.proofs.spread.spread_octet.Given as goal

abbrev pub invariant-loop-j : goal.invariant-loop-j
invariant-loop-j l = Settled l.bitmap l.n (l.g * 8 + 8) l.initial.values l.values (l.g * 8 + l.j) l.d

abbrev pub invariant-loop-j-then-b : goal.invariant-loop-j-then-b
invariant-loop-j-then-b l = Settled l.bitmap l.n (l.g * 8 + 8) l.initial.values l.values (l.g * 8 + l.j) l.d

abbrev pub invariant-loop-j-else-b : goal.invariant-loop-j-else-b
invariant-loop-j-else-b l = Settled l.bitmap l.n (l.g * 8 + 8) l.initial.values l.values (l.g * 8 + l.j) l.d
