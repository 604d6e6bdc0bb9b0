-- What one walk over the points finds for R and E: whether one is marked, the least present number, and the greatest.
use Rattle.std.specs.Prelude.{ℕ, zero, suc, ◌^◌, ◌<◌, Bool, false, not, cond, ◌≡◌, ◌⊎◌, List, leb, eqb, ℤ, pos, negsuc, nat_abs, ◌-ℤ◌, get_or}
use Rattle.std.specs.Int.Signed.{lt_z}
use Rattle.bits.specs.Bits.{count}
use Rattle.bits.specs.Tables.{least_below}
use Rattle.rules.specs.Bounds.{step_most}
use Rattle.rules.specs.Bitmap.{mark_of}
use Rattle.rules.specs.Packing.{lowest, stepped}

-- the lesser of two numbers, and the greater
abbrev pub lesser_of : ℤ → ℤ → ℤ
lesser_of a b = cond (lt_z a b) a b

abbrev pub greater_of : ℤ → ℤ → ℤ
greater_of a b = cond (lt_z b a) a b

-- of z and the first n numbers, one after another, what f takes
unfoldable pub folded : (ℤ → ℤ → ℤ) → ℤ → (ℕ → ℤ) → ℕ → ℤ
folded f z v zero = z
folded f z v (suc n) = f (v n) (folded f z v n)

-- of the first n points, whether one is marked
abbrev pub some_in : List ℕ → ℕ → Bool
some_in marks n = not (eqb (count (mark_of marks) 0 n) 0)

-- their least present number
abbrev pub lowest_in : List ℤ → List ℕ → ℕ → ℤ
lowest_in numbers marks n = lowest (mark_of marks) (λ i. get_or numbers i (pos 0)) n

-- one of them is present and has this number
pub record Has (numbers : List ℤ) (marks : List ℕ) (n : ℕ) (z : ℤ) : Type 0 where
  pub at : ℕ
  pub below : at < n
  pub here : mark_of marks at ≡ 1
  pub is : get_or numbers at (pos 0) ≡ z

-- none of them is present
abbrev pub None : List ℕ → ℕ → Type 0
None marks n = (i : ℕ) → i < n → mark_of marks i ≡ 1 → ⊥

-- no number of 32 bits is below it
abbrev pub floor : ℤ
floor = negsuc 2147483647

-- z is their greatest present number, and the floor where none is present
pub record Highest (numbers : List ℤ) (marks : List ℕ) (n : ℕ) (z : ℤ) : Type 0 where
  pub over : (i : ℕ) → i < n → mark_of marks i ≡ 1 → lt_z z (get_or numbers i (pos 0)) ≡ false
  pub from : (None marks n × (z ≡ floor)) ⊎ Has numbers marks n z

-- how far the greatest is above R, and 0 where it is below, as the floor is
abbrev pub spread_of : ℤ → ℤ → ℕ
spread_of r high = cond (lt_z high r) 0 (nat_abs (high -ℤ r))

-- the least of 0 to 24 for which a spread fits in N bits, and 25 where none is
abbrev pub least_for : ℕ → ℕ → ℕ
least_for bits r = least_below (λ e. not (leb (2 ^ bits) (stepped e r))) (suc step_most)
