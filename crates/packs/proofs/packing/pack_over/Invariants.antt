-- The invariant: the first g eights are put.
use Prim.Native.Nat.{◌*◌}
use Rattle.packs.specs.Cover.{over}
use mathlib.Core.Path.{◌≡◌}
use Rattle.packs.proofs.packing.pack_over.Given as goal

abbrev pub invariant-loop-g : goal.invariant-loop-g
invariant-loop-g l = l.out ≡ over l.n l.vs (l.g * 8) l.initial.out
