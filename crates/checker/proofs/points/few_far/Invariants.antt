-- The points out among those passed (law few-next).
use mathlib.Core.Path.{◌≡◌}
use lib.IntN.{pos}
use lib.ListN.{get_or}
use Rattle.bits.specs.Tables.{any_below}
use Rattle.rules.specs.Checking.{far_from}
use Rattle.checker.proofs.points.few_far.Given as goal

abbrev pub invariant-loop-j : goal.invariant-loop-j
invariant-loop-j l = l.out ≡ any_below (λ k. far_from (get_or l.numbers k (pos 0)) l.r (get_or l.held k 0) l.e) l.j
