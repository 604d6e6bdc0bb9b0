-- What 17 asks of a present point: the distance, its X being the n bits at its data number.
use Rattle.std.specs.Prelude.{ℕ, ◌+◌, ◌*◌, Bool, ◌&&◌, List, eqb, ℤ, pos, get_or}
use Rattle.bits.specs.Bits.{bits_in, run, count}
use Rattle.rules.specs.Bitmap.{mark_of}
use Rattle.rules.specs.Checking.{far_from}
use Rattle.laws.specs.Marks.{here}
use Rattle.gathering.specs.Gather.{here_from}

-- a present point is out by more than half a step
unfoldable pub out : List ℕ → List ℤ → List ℕ → ℕ → ℕ → ℤ → ℕ → ℕ → Bool
out s numbers marks from n r e i =
    eqb (mark_of marks i) 1
    && far_from (get_or numbers i (pos 0)) r (run (bits_in 8 s) (from + count (here marks) 0 i * n) n) e

-- the same of point j of a block, whose first point is point i of all, and its first X at bit place `at`
unfoldable pub the_block_far : List ℕ → List ℤ → List ℕ → ℕ → ℕ → ℕ → ℤ → ℕ → ℕ → Bool
the_block_far s numbers marks i at n r e j =
    eqb (mark_of marks (i + j)) 1
    && far_from (get_or numbers j (pos 0)) r (run (bits_in 8 s) (at + count (here_from marks i) 0 j * n) n) e
