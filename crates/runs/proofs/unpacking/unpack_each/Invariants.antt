-- Each turn fills one element more.
use mathlib.Core.Path.{◌≡◌}
use mathlib.Core.List.{◌++◌}
use lib.ListN.{drop}
use Rattle.bits.specs.Bits.{bits_in, runs}
use Rattle.runs.proofs.unpacking.unpack_each.Given as goal

abbrev pub invariant-loop-i : goal.invariant-loop-i
invariant-loop-i l = l.out ≡ runs (bits_in 8 l.s) l.at l.n l.i ++ drop l.i l.initial.out
