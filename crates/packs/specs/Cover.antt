-- How far the four octets stored at each number's place reach, while numbers are packed.
use Rattle.std.specs.Prelude.{◌≡◌, ℕ, zero, suc, ◌+◌, ◌*◌, ◌/◌, List, ◌++◌, take, drop}
use Rattle.bits.specs.Bits.{bits_in, runs}

-- the octets written once i numbers of n bits each are put
unfoldable pub cover : ℕ → ℕ → ℕ
cover n zero = 0
cover n (suc i) = i * n / 8 + 4

-- the octets d with the first i numbers of vs put from the start, and zeros as far as was written
unfoldable pub over : ℕ → List ℕ → ℕ → List ℕ → List ℕ
over n vs i d = runs (bits_in n (take i vs)) 0 8 (cover n i) ++ drop (cover n i) d

-- what is left where i₀ numbers were put over some octets, and i then are
abbrev pub Put : List ℕ → ℕ → List ℕ → ℕ → List ℕ → ℕ → Type 0
Put vs n out₀ i₀ out i = (d : List ℕ) → out₀ ≡ over n vs i₀ d → out ≡ over n vs i d
