-- An octet more (law octets-more), of eight marks, and then of what is left.
use mathlib.Core.Path.{◌≡◌}
use Rattle.bits.specs.Bits.{runs, placed}
use Rattle.marks.proofs.Bitmaps.{F}
use lib.ListN.{length}
use Rattle.marks.proofs.laying.put_inside.Given as goal

abbrev pub invariant-loop-g : goal.invariant-loop-g
invariant-loop-g l = (length l.out ≡ length l.initial.out) × (l.out ≡ placed l.initial.out l.k (runs (F l.marks l.m) 0 8 l.g))

abbrev pub invariant-loop-g-2 : goal.invariant-loop-g-2
invariant-loop-g-2 l = (length l.out ≡ length l.fn.out) × (l.out ≡ placed l.fn.out l.k (runs (F l.marks l.m) 0 8 l.g))
