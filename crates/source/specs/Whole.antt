-- R as a whole number within the bound of source numbers: what is answered where R is none, or where a number has no
-- such R.
use Rattle.std.specs.Prelude.{ℕ, ◌+◌, ◌-◌, ◌*◌, ◌/◌, ◌%◌, ◌^◌, Bool, false, not, ◌||◌, cond, ◌≡◌, ltb, eqb, ℤ, pos}
use Rattle.rules.specs.Bounds.{source_most}
use Rattle.rules.specs.Numbers.{beyond}
use Rattle.rules.specs.Values.{unit, size_of, whole, whole_of}
use Rattle.rules.specs.Packing.{spelling_of}
use Rattle.bits.specs.Tables.{least_below}

-- 16: "R not whole or over 8,388,607 in magnitude"
unfoldable pub the_whole_bad : ℕ → Bool
the_whole_bad r = not (whole r) || ltb (source_most * unit) (size_of r)

-- the whole number, and 0 where there is none
unfoldable pub whole_from : ℕ → ℤ
whole_from r = cond (the_whole_bad r) (pos 0) (whole_of r)

-- R's octets, and 0 for a number over the bound
unfoldable pub spelling_from : ℤ → ℕ
spelling_from z = cond (beyond source_most z) 0 (spelling_of z)

-- A and B of a size
unfoldable pub spelt : ℕ → ℕ
spelt n = let h = least_below (λ k. ltb n (16 ^ k)) 6 in (64 + h) * 2 ^ 24 + n * 16 ^ (6 - h)

-- p parts of 16^5 say of a word whether it is a whole number, and which
pub record SaysWhole (r p : ℕ) : Type 0 where
  pub bad : not (eqb (p % 1048576) 0) || ltb (source_most * 1048576) p ≡ the_whole_bad r
  pub size : the_whole_bad r ≡ false → p / 1048576 ≡ size_of r / unit
