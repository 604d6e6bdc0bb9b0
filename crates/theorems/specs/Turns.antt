-- Document 01, "Values are taken one after another from the place reached in the caller's data octets", and document
-- 02, R-5: the values of a message are what the bit reader takes so, one by one or all at once.
use Rattle.std.specs.Prelude.{ℕ, zero, suc, ◌*◌, ◌≤◌, ◌<◌, ◌≡◌, List, ◌++◌, length, get_or, drop, Some}
use Rattle.rules.specs.Places.{after, places_of}
use Rattle.rules.specs.Bitmap.{Lent}
use Rattle.rules.specs.Reading.{present_count, packing_in, data_in}
use Rattle.runs.specs.Take.{unpacked}
use Rattle.bitreader.specs.Taken.{taken_at, taken_all, the_data_place}
use Rattle.laws.specs.Taken.{Taken}

-- the place reached after k numbers of n bits, each taken by itself
unfoldable pub place_after : List ℕ → ℕ → ℕ → ℕ → ℕ
place_after s at n zero = at
place_after s at n (suc k) = (taken_at s (place_after s at n k) n).at

-- of m values of n bits, from the place where they begin: the k-th is the number taken after k others; all of them at
-- once are the same, before what stays of a lent list, and reach the same place, which lies in the data section
pub record InTurn (s : List ℕ) (lent : Lent) (from n m : ℕ) : Type 0 where
  pub each : (k : ℕ) → k < m → get_or (data_in s lent) k 0 ≡ (taken_at s (place_after s from n k) n).value
  pub all : (out : List ℕ) → m ≤ length out → unpacked s from n m out ≡ data_in s lent ++ drop m out
  pub reached : (room : ℕ) → m ≤ room → taken_all from n m room ≡ Some (place_after s from n m)
  pub inside : place_after s from n m ≤ after (places_of s).bds * 8

abbrev pub TakenInTurn : Type 0
TakenInTurn =
    (s : List ℕ) (lent : Lent) → Taken s lent
    → InTurn s lent (the_data_place (places_of s).bds.start) (packing_in s).bits (present_count s lent)
