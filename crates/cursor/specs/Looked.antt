-- What is said of a point by presence as code reads it.
use Rattle.rules.specs.declared.{Refusal.Refusal}
use Rattle.std.specs.Prelude.{ℕ, cond, List, eqb, Err, None, Ok, Option, Result, Some}
use Rattle.rules.specs.Table.{refusal, any_of}
use Rattle.rules.specs.Cursor.{group_of, ones_in, index_faults, cursor_number}
use Rattle.runs.specs.Take.{fetched}
use Rattle.bitreader.specs.Taken.{the_value_place}

-- of point i of n, m of which are present: 25, or its value of so many bits in the data section that starts at octet b,
-- or absence
unfoldable pub looked_at : List ℕ → (ℕ → ℕ) → ℕ → ℕ → ℕ → ℕ → List ℕ → ℕ → Result (Option ℕ) Refusal
looked_at s present b bits n m index i =
    cond (any_of (index_faults index n m (group_of i) (ones_in present n (group_of i)))) (Err (refusal 25))
    (cond (eqb (present i) 1) (Ok (Some (fetched s (the_value_place b bits (cursor_number present index i)) bits))) (Ok None))
