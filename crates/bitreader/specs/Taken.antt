-- Document 01, "Values are taken one after another from the place reached in the caller's data octets": a number and
-- the place after it, many numbers and the place after them, and where the values of a data section begin.
use Rattle.std.specs.Prelude.{ℕ, ◌+◌, ◌*◌, cond, List, leb, Option, Some, None}
use Rattle.rules.specs.Bounds.{bds_head}
use Rattle.runs.specs.Take.{fetched, unpack_fits}
use Rattle.bitreader.specs.declared.{Taken.Taken}

-- the greatest place that 32 bits hold: a message's bits end long before it
abbrev pub place_most : ℕ
place_most = 4294967295

unfoldable pub reached : ℕ → ℕ → ℕ
reached at n = cond (leb (at + n) place_most) (at + n) place_most

unfoldable pub taken_at : List ℕ → ℕ → ℕ → Taken
taken_at s at n = record { value = fetched s at n; at = reached at n }

-- m numbers of n bits each into a list of so many elements: the place after them; what does not fit reaches none
unfoldable pub taken_all : ℕ → ℕ → ℕ → ℕ → Option ℕ
taken_all at n m room = cond (unpack_fits n m room) (Some (reached at (m * n))) None

-- "data from 12": the place where the values of a data section begin that starts at octet b
unfoldable pub the_data_place : ℕ → ℕ
the_data_place b = reached 0 ((b + bds_head) * 8)

-- and, as values "are taken one after another", the place where value k of n bits each begins
unfoldable pub the_value_place : ℕ → ℕ → ℕ → ℕ
the_value_place b n k = reached (the_data_place b) (k * n)
