-- The digits written so far are the first j of the numeral, and the weight is that of the digits that are left
-- (Digits).
use Prim.Native.Nat.{◌+◌, ◌-◌, ◌^◌, ◌≤◌}
use lib.ListN.{length}
use mathlib.Core.Path.{◌≡◌}
use Rattle.bits.specs.Tables.{tab}
use Rattle.listing.specs.Text.{Wrote}
use Rattle.listing.proofs.Digits.{place}
use Rattle.listing.proofs.text.numeral.Given as goal

abbrev pub invariant-loop-j : goal.invariant-loop-j
invariant-loop-j l =
    (l.weight ≡ l.base ^ (l.c - l.j)) × Wrote l.initial.text l.text l.at (l.at + l.j) (tab (place l.base l.c l.n) l.j)
