-- The numbers outside their bound among those passed (law large-next).
use mathlib.Core.Path.{◌≡◌}
use lib.IntN.{pos}
use lib.ListN.{get_or}
use Rattle.bits.specs.Tables.{any_below}
use Rattle.rules.specs.Bounds.{source_most}
use Rattle.rules.specs.Numbers.{beyond}
use Rattle.source.proofs.any_large.Given as goal

abbrev pub invariant-loop-v : goal.invariant-loop-v
invariant-loop-v l = l.far ≡ any_below (λ k. beyond source_most (get_or l.numbers k (pos 0))) l.v-index
