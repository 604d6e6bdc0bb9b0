-- Tables of numbers, and tests over the numbers below a bound.
use Rattle.std.specs.Prelude.{ℕ, zero, suc, List, [], ◌∷◌, ◌++◌, Bool, false, ◌||◌, cond, ltb}

-- the m numbers g 0, g 1, .., g (m - 1)
unfoldable pub tab : (ℕ → ℕ) → ℕ → List ℕ
tab g zero = []
tab g (suc m) = tab g m ++ (g m ∷ [])

-- whether one of 0, 1, .., n - 1 passes a test
unfoldable pub any_below : (ℕ → Bool) → ℕ → Bool
any_below f zero = false
any_below f (suc n) = any_below f n || f n

-- the least of 0, 1, .., n - 1 that passes a test, and n where none does
unfoldable pub least_below : (ℕ → Bool) → ℕ → ℕ
least_below f zero = 0
least_below f (suc n) =
    let before = least_below f n in
    cond (ltb before n) before (cond (f n) n (suc n))
