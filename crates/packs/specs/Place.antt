-- One number put into octets, at an octet or at any bit place: where it fits, and what it leaves.
use Rattle.std.specs.Prelude.{ℕ, ◌+◌, ◌-◌, ◌*◌, ◌^◌, List, Bool, cond, ◌&&◌, leb, ltb, length}
use Rattle.bits.specs.Bits.{octets_for, number_at, put_at}

-- a number of at most four octets from octet k on, counted from 1, of what starts at place p
unfoldable pub number_fits : List ℕ → ℕ → ℕ → ℕ → ℕ → Bool
number_fits out p k c x = leb c 4 && leb (p + (k - 1 + c)) (length out) && ltb x (2 ^ (c * 8))

unfoldable pub number_put : List ℕ → ℕ → ℕ → ℕ → ℕ → List ℕ
number_put out p k c x = cond (number_fits out p k c x) (number_at out (p + (k - 1)) c x) out

-- n bits at bit place at
unfoldable pub bits_fit : ℕ → ℕ → ℕ → ℕ → Bool
bits_fit room at n v = leb n 32 && ltb v (2 ^ n) && leb (octets_for (at + n)) room

unfoldable pub the_put_bits : List ℕ → ℕ → ℕ → ℕ → List ℕ
the_put_bits out at n v = cond (bits_fit (length out) at n v) (put_at out at n v) out
