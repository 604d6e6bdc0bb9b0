-- The least of the numbers passed (law fold_next).
use mathlib.Core.Path.{◌≡◌}
use lib.IntN.{pos}
use lib.ListN.{get_or}
use Rattle.scaling.specs.Spread.{lesser_of, folded}
use Rattle.scaling.proofs.least_of.Given as goal

abbrev pub invariant-loop-v : goal.invariant-loop-v
invariant-loop-v l = l.least ≡ folded lesser_of l.initial.least (λ j. get_or l.numbers j (pos 0)) l.v-index
