-- The cases that document 01 marks P, proved together as one table under one statement.
use mathlib.Core.Path.{◌≡◌, refl}
use mathlib.Core.List.{List, [], ◌∷◌}
use Prim.Native.Nat.{ℕ, ◌*◌}
use lib.IntN.{ℤ, pos, negsuc, nat_abs}
use Rattle.rules.specs.Numbers.{signed}
use Rattle.rules.specs.Values.{unit, size_of, whole_of}
use Rattle.rules.specs.Packing.{stepped}
use Rattle.rules.proofs.Computes.{computes}

-- a case: D's octets and D, R's octets and R, or r, E and X
data Case : Type 0 where
  decimal : ℕ → ℤ → Case
  reference : ℕ → ℤ → Case
  value : ℕ → ℕ → ℕ → Case

-- what the definitions say of it. R is that number and no fraction more: its size, counted in parts of 1 / 16^70, is as
-- many wholes
abbrev Holds : Case → Type 0
Holds (decimal v d) = (signed 2 v).value ≡ d
Holds (reference v r) = (whole_of v ≡ r) × (size_of v ≡ nat_abs r * unit)
Holds (value r e x) = stepped e r ≡ x

abbrev Each : List Case → Type 0
Each [] = Unit {0}
Each (c ∷ cases) = Holds c × Each cases

marked : Each
    (decimal 0x8002 (negsuc 1)
    ∷ decimal 0xfffe (negsuc 32765)
    ∷ decimal 0x8000 (pos 0)
    ∷ reference 0x41100000 (pos 1)
    ∷ reference 0xc1100000 (negsuc 0)
    ∷ reference 0x42640000 (pos 100)
    ∷ reference 0x4518bcd0 (pos 101325)
    ∷ reference 0x439c4000 (pos 2500)
    ∷ value 7 3 1
    ∷ value 3 3 0
    ∷ value 4 3 1
    ∷ [])
unfolding computes
marked = (
  refl,
  (
    refl,
    (
      refl,
      (
        (refl, refl),
        ((refl, refl), ((refl, refl), ((refl, refl), ((refl, refl), (refl, (refl, (refl, tt))))))),
      ),
    ),
  ),
)
