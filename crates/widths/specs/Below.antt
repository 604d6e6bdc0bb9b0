-- Numbers of at most n bits.
use Rattle.std.specs.Prelude.{ℕ, ◌^◌, List, Bool, not, leb, length, get_or}
use Rattle.bits.specs.Tables.{any_below}

-- each number of vs has n bits
unfoldable pub all_below : ℕ → List ℕ → Bool
all_below n vs = not (any_below (λ k. leb (2 ^ n) (get_or vs k 0)) (length vs))
