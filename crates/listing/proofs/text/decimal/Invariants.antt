-- The loop finds the least k for which ten to the power of k + 1 is above the number: then k + 1 digits are its decimal
-- (Digits).
use Prim.Native.Nat.{suc, ◌-◌, ◌^◌, ◌≤◌}
use mathlib.Core.Path.{◌≡◌}
use Rattle.bits.specs.Tables.{least_below}
use Rattle.listing.proofs.Digits.{short}
use Rattle.listing.proofs.text.decimal.Given as goal

abbrev pub invariant-loop-k : goal.invariant-loop-k
invariant-loop-k l = (l.power ≡ 10 ^ suc l.k) × ((l.k ≤ 9) × (least_below (short l.n) l.k ≡ l.k))

abbrev pub decreases-loop-k : goal.decreases-loop-k
decreases-loop-k l = 9 - l.k
