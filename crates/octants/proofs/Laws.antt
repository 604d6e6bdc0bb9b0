-- The counts of an octant: the same from the other end, none past the last row, and how many they are; all computed.
use Prim.Native.Nat.{ℕ, ◌+◌, ◌-◌, ◌<◌, ◌≤◌}
use mathlib.Core.Bool.{Bool, not}
use mathlib.Core.List.{List, [], ◌∷◌}
use mathlib.Core.Path.{◌≡◌, refl, sym, ◌∙◌}
use native.Mathlib.Omega.{arith}
use lib.Dec.{eqb}
use lib.ListN.{length, get_or, get_or-eq_default}
use Rattle.bits.specs.Tables.{any_below}
use Rattle.bits.proofs.Below.{none_below}
use Rattle.rules.specs.declared.{Start.Start, Start.TheVariants.Equator, Start.TheVariants.Pole}
use Rattle.rules.specs.declared.{Start.TheVariants.Neither, Spot.Spot}
use Rattle.rules.specs.Bounds.{octant_rows, octant_points}
use Rattle.rules.specs.Counts.{total, row_of, in_row, the_before_row, the_from_equator, counts_of}
use Rattle.laws.proofs.Rows.{is_eq}
use Rattle.laws.proofs.Counts.{before-past, before-most, before-all}
use Rattle.laws.proofs.Grids.{octant-few}

unlike : ℕ → Bool
unlike i = not (eqb (get_or the_from_equator (octant_rows - 1 - i) 0) (get_or (counts_of Pole) i 0))

pub from-pole : (i : ℕ) → i < octant_rows → get_or the_from_equator (octant_rows - 1 - i) 0 ≡ get_or (counts_of Pole) i 0
unfolding unlike any_below counts_of the_from_equator
from-pole i h = is_eq _ _ (none_below unlike octant_rows refl i h)

pub from-equator : (i : ℕ) → get_or the_from_equator i 0 ≡ get_or (counts_of Equator) i 0
unfolding counts_of
from-equator i = refl

pub rows_few : (f : Start) → length (counts_of f) ≤ octant_rows
unfolding counts_of the_from_equator
rows_few Equator = omega arith
rows_few Pole = omega arith
rows_few Neither = omega arith

pub past : (f : Start) (j : ℕ) → octant_rows ≤ j → 0 ≡ get_or (counts_of f) j 0
past f j h =
    let l : length (counts_of f) ≤ j = omega (arith, rows_few f, h) in
    sym (get_or-eq_default (counts_of f) 0 l)

pub spot_is : (counts : List ℕ) (k j left : ℕ) → (row_of counts k ≡ j) × (in_row counts k ≡ left)
    → ◌≡◌ {A = Spot} (record { row = j; column = left }) (record { row = row_of counts k; column = in_row counts k })
spot_is counts k j left p = λ i. record { row = sym p.0 i; column = sym p.1 i }

-- the sums of the counts before each row: one by one, and from the other end
abbrev pub sums : List ℕ
sums =
    0 ∷ 73 ∷ 146 ∷ 219 ∷ 292 ∷ 365 ∷ 438 ∷ 511 ∷ 584 ∷ 656 ∷ 728 ∷ 800 ∷ 871 ∷ 942 ∷ 1013 ∷ 1083
    ∷ 1153 ∷ 1222 ∷ 1291 ∷ 1359 ∷ 1426 ∷ 1493 ∷ 1559 ∷ 1624 ∷ 1689 ∷ 1753 ∷ 1816 ∷ 1878 ∷ 1939 ∷ 1999 ∷ 2059 ∷ 2118
    ∷ 2176 ∷ 2233 ∷ 2289 ∷ 2344 ∷ 2398 ∷ 2450 ∷ 2501 ∷ 2551 ∷ 2600 ∷ 2648 ∷ 2695 ∷ 2740 ∷ 2784 ∷ 2827 ∷ 2869 ∷ 2909
    ∷ 2948 ∷ 2986 ∷ 3022 ∷ 3057 ∷ 3090 ∷ 3122 ∷ 3152 ∷ 3181 ∷ 3209 ∷ 3235 ∷ 3260 ∷ 3283 ∷ 3305 ∷ 3325 ∷ 3344 ∷ 3361
    ∷ 3377 ∷ 3391 ∷ 3403 ∷ 3414 ∷ 3423 ∷ 3431 ∷ 3437 ∷ 3442 ∷ 3445 ∷ 3447 ∷ []

unsummed : ℕ → Bool
unsummed i = not (eqb (get_or sums i 0) (the_before_row the_from_equator i))

pub sum_is : (i : ℕ) → i ≤ octant_rows → get_or sums i 0 ≡ the_before_row the_from_equator i
unfolding unsummed any_below the_from_equator the_before_row
sum_is i h = is_eq _ _ (none_below unsummed (octant_rows + 1) refl i (omega arith))

unturned : ℕ → Bool
unturned i = not (eqb (octant_points - the_before_row the_from_equator (octant_rows - i)) (the_before_row (counts_of Pole) i))

pub before-pole : (i : ℕ) → i ≤ octant_rows
    → octant_points - the_before_row the_from_equator (octant_rows - i) ≡ the_before_row (counts_of Pole) i
unfolding unturned any_below counts_of the_from_equator the_before_row
before-pole i h = is_eq _ _ (none_below unturned (octant_rows + 1) refl i (omega arith))

pub before-few : (i : ℕ) → the_before_row the_from_equator i ≤ octant_points
unfolding counts_of
before-few i = omega (arith, before-most the_from_equator i, octant-few Equator)

-- past the last row
pub before_last : (f : Start) (j : ℕ) → octant_rows ≤ j → total (counts_of f) ≡ the_before_row (counts_of f) j
before_last f j h = sym (before-past (counts_of f) j (omega (arith, rows_few f, h)) ∙ before-all (counts_of f))
