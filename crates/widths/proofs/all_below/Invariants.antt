-- The invariant: the bits of all numbers passed together are below 2 ^ n exactly when each of those numbers is.
use Rattle.std.proofs.Common.{◌≡◌, ◌^◌, ltb, leb, not, get_or}
use Rattle.bits.specs.Tables.{any_below}
use Rattle.widths.proofs.all_below.Given as goal

abbrev pub invariant-loop-v : goal.invariant-loop-v
invariant-loop-v l = ltb l.all (2 ^ l.n) ≡ not (any_below (λ k. leb (2 ^ l.n) (get_or l.vs k 0)) l.v-index)
