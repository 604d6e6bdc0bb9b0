-- Of a source field: that it is well formed, that it agrees with a message, and which steps fit it; and that R and E
-- lie in their ranges.
use Rattle.std.specs.Prelude.{ℕ, ◌*◌, ◌^◌, ◌<◌, ◌≤◌, ◌≡◌, List, pos, nat_abs, length}
use Rattle.rules.specs.declared.{Scale.Scale}
use Rattle.rules.specs.Bounds.{points_most, source_most, step_most}
use Rattle.rules.specs.Bitmap.{Lent}
use Rattle.rules.specs.Values.{size_of, unit}
use Rattle.rules.specs.Reading.{points_in, present_in, decimal_in}
use Rattle.rules.specs.Checking.{Source, number_of, present_of}
use Rattle.rules.specs.Packing.{above, stepped}

-- what holds at every present point of a source, and that it holds at one
abbrev pub AtPresent : Source → (ℕ → Type 0) → Type 0
AtPresent f P = (i : ℕ) → i < length f.numbers → present_of f i ≡ 1 → P i

pub record SomePresent (f : Source) (P : ℕ → Type 0) : Type 0 where
  pub at : ℕ
  pub below : at < length f.numbers
  pub here : present_of f at ≡ 1
  pub holds : P at

-- "the source is well formed": not what 18 refuses
pub record WellFormed (f : Source) : Type 0 where
  pub lists : length f.numbers ≡ length f.marks
  pub some : 1 ≤ length f.numbers
  pub most : length f.numbers ≤ points_most
  pub marks : (i : ℕ) → i < length f.numbers → present_of f i ≤ 1
  pub bound : AtPresent f (λ i. nat_abs (number_of f i) ≤ source_most)

-- "decimal scale, point count and present points agree"
pub record Agrees (s : List ℕ) (lent : Lent) (f : Source) : Type 0 where
  pub points : length f.numbers ≡ points_in s
  pub marks : (i : ℕ) → i < points_in s → present_in s lent i ≡ present_of f i
  pub d : (decimal_in s).value ≡ f.d

-- "the reference value and binary scale lie in our stated ranges": E is e, from 0 to 24, and R is whole, in size m of
-- at most 8,388,607
pub record InRange (c : Scale) : Type 0 where
  pub e : ℕ
  pub is : c.e.value ≡ pos e
  pub small : e ≤ step_most
  pub m : ℕ
  pub whole : size_of c.r ≡ m * unit
  pub bound : m ≤ source_most

-- with the step 2^e "all X are below 2^N"
abbrev pub Fits : Source → ℕ → ℕ → Type 0
Fits f bits e = AtPresent f (λ i. stepped e (above f i) < 2 ^ bits)
