-- The elements so far are what they hold before a call.
use Rattle.std.proofs.Common.{◌≡◌, ℕ, ◌<◌}
use Rattle.std.specs.List.{HoldsAt}
use Rattle.vector_io.proofs.lists.fill.Given as goal

abbrev pub invariant-loop-i : goal.invariant-loop-i
invariant-loop-i g l = (k : ℕ) → k < l.i → HoldsAt (λ y. y ≡ g.L.Lent.the_before k) l.s k
