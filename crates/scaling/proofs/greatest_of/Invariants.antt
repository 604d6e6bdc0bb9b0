-- The greatest of the numbers passed (law fold_next).
use mathlib.Core.Path.{◌≡◌}
use Prim.Native.Nat.{ℕ, ◌<◌, ◌^◌}
use lib.IntN.{pos}
use lib.ListN.{get_or}
use lib.Signed.{mag}
use Rattle.scaling.specs.Spread.{greater_of, folded}
use Rattle.scaling.proofs.greatest_of.Given as goal

abbrev pub invariant-loop-v : goal.invariant-loop-v
invariant-loop-v l = record {
  greatest : l.greatest ≡ folded greater_of l.initial.greatest (λ j. get_or l.numbers j (pos 0)) l.v-index;
  by_index : (j : ℕ) → j < l.v-index → mag (get_or l.numbers j (pos 0)) < 2 ^ 31;
}
