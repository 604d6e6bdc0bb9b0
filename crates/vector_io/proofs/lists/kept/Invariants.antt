-- The elements so far, from place n on, are what they hold before a call.
use Rattle.std.proofs.Common.{ℕ, ◌≤◌, ◌<◌, IsTrue}
use Rattle.std.specs.List.{HoldsAt}
use Rattle.vector_io.proofs.lists.kept.Given as goal

abbrev pub invariant-loop-i : goal.invariant-loop-i
invariant-loop-i g l = (k : ℕ) → l.n ≤ k → k < l.i
    → HoldsAt (λ y. IsTrue (g.L.Element.PartialEq.eq y (g.L.Lent.the_before k))) l.s k
