-- Runs of bits taken out of octets, of at most 32 bits one by one and at most 24 bits in a list.
use Rattle.std.specs.Prelude.{ℕ, List, ◌++◌, Bool, cond, ◌&&◌, leb, length, drop}
use Rattle.bits.specs.Bits.{bits_in, run, runs}

-- the number that n bits make, and 0 where n is over 32
unfoldable pub fetched : List ℕ → ℕ → ℕ → ℕ
fetched s at n = cond (leb n 32) (run (bits_in 8 s) at n) 0

-- m numbers of n bits each, out of the octets s from bit place at on, to the front of a list
unfoldable pub unpack_fits : ℕ → ℕ → ℕ → Bool
unpack_fits n m room = leb n 24 && leb m room

unfoldable pub unpacked : List ℕ → ℕ → ℕ → ℕ → List ℕ → List ℕ
unpacked s at n m out = cond (unpack_fits n m (length out)) (runs (bits_in 8 s) at n m ++ drop m out) out
