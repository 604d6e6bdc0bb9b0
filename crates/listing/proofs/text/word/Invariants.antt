-- The letters written so far are the first i of the word.
use Prim.Native.Nat.{◌≤◌, ◌+◌, ◌-◌}
use lib.ListN.{length, get_or}
use mathlib.Core.Path.{◌≡◌}
use Rattle.bits.specs.Tables.{tab}
use Rattle.listing.specs.Text.{Wrote}
use Rattle.listing.proofs.text.word.Given as goal

abbrev pub invariant-loop-i : goal.invariant-loop-i
invariant-loop-i l =
    Wrote l.initial.text l.text l.at (l.at + l.i) (tab (λ k. get_or l.w k 0) l.i)
