-- X of each number of a list, for an R and an E, stored to the front of another.
use Rattle.std.specs.Prelude.{ℕ, cond, List, ◌++◌, leb, ℤ, pos, nat_abs, ◌-ℤ◌, length, get_or, drop}
use Rattle.bits.specs.Tables.{tab}
use Rattle.rules.specs.Packing.{stepped}

-- "With r = V − R", X by E
unfoldable pub step_of : List ℤ → ℤ → ℕ → ℕ → ℕ
step_of numbers r e i = stepped e (nat_abs (get_or numbers i (pos 0) -ℤ r))

-- the first i of them stored
abbrev pub steps_to : List ℤ → ℤ → ℕ → ℕ → List ℕ → List ℕ
steps_to numbers r e i xs = tab (step_of numbers r e) i ++ drop i xs

-- all of them, where they have room
unfoldable pub steps_into : List ℤ → ℤ → ℕ → List ℕ → List ℕ
steps_into numbers r e xs = cond (leb (length numbers) (length xs)) (steps_to numbers r e (length numbers) xs) xs
