-- Document 01, "Points": grid points are numbered in message order, data points number only the present ones.
use Rattle.std.specs.Prelude.{ℕ, zero, suc, cond, List, [], ◌∷◌, ◌++◌, ltb, eqb, get_or}
use Rattle.bits.specs.Bits.{count}
use Rattle.bits.specs.Tables.{tab}

-- what is said of a grid point: its data number, that it is absent, or (a case of its own) that the grid has no such
-- point
pub data Numbering : Type 0 where
  numbered : ℕ → Numbering
  absent : Numbering
  outside : Numbering

-- "A present grid point's data number is the count of ones before it in the bitmap .. An absent point has none", of n
-- points
unfoldable pub the_data_number : (ℕ → ℕ) → ℕ → ℕ → Numbering
the_data_number present n i = cond (ltb i n) (cond (eqb (present i) 1) (numbered (count present 0 i)) absent) outside

-- "n values .., 0 .. at absent points": the value at grid point i of the data points' values xs, and the list of all
unfoldable pub value_at : (ℕ → ℕ) → List ℕ → ℕ → ℕ
value_at present xs i = cond (eqb (present i) 1) (get_or xs (count present 0 i) 0) 0

unfoldable pub scattered : (ℕ → ℕ) → List ℕ → ℕ → List ℕ
scattered present xs n = tab (value_at present xs) n

-- and back: the values at the present ones of the first n points
unfoldable pub gathered : (ℕ → ℕ) → (ℕ → ℕ) → ℕ → List ℕ
gathered present value zero = []
gathered present value (suc n) =
    let before = gathered present value n in
    cond (eqb (present n) 1) (before ++ (value n ∷ [])) before
