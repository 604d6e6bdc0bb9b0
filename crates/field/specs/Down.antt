-- Values on their way to their points, the last point first.
use Rattle.std.specs.Prelude.{◌≡◌, ℕ, ◌+◌, ◌*◌, ◌<◌, ◌≤◌, List, get_or, length}
use Rattle.rules.specs.Points.{value_at}

-- the points from i on have their values, out of v
pub record Down (f : ℕ → ℕ) (n : ℕ) (v out : List ℕ) (i : ℕ) : Type 0 where
  pub len : length out ≡ length v
  pub under : (j : ℕ) → j < i → get_or out j 0 ≡ get_or v j 0
  pub done : (j : ℕ) → i ≤ j → j < n → get_or out j 0 ≡ value_at f v j
  pub past : (j : ℕ) → n ≤ j → get_or out j 0 ≡ get_or v j 0

-- the eight points of octet g settled: where the points after them have their values, these have theirs too
abbrev pub Settles : (ℕ → ℕ) → ℕ → List ℕ → List ℕ → ℕ → Type 0
Settles f n out₀ out g = (v : List ℕ) → Down f n v out₀ (g * 8 + 8) → Down f n v out (g * 8)
