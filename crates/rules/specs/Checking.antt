-- Document 01, "Packing and checking": the source field, and the checker's table.
use Rattle.std.specs.Prelude.{ℕ, ◌*◌, ◌^◌, Bool, not, ◌&&◌, ◌||◌, List, [], ◌∷◌, ◌++◌, ltb, eqb, ℤ, pos, nat_abs, ◌-ℤ◌}
use Rattle.std.specs.Prelude.{length, get_or}
use Rattle.std.specs.Int.Signed.{lt_z}
use Rattle.rules.specs.declared.{Refusal.Refusal, Scale.Scale}
use Rattle.rules.specs.Bounds.{points_most, source_most, step_most}
use Rattle.bits.specs.Tables.{any_below}
use Rattle.rules.specs.Numbers.{not_within, beyond}
use Rattle.rules.specs.Table.{Row, row, any_of, first}
use Rattle.rules.specs.Bitmap.{Lent, mark_of, marks_long, mark_odd, value_of}
use Rattle.rules.specs.Values.{unit, size_of, whole, whole_of}
use Rattle.rules.specs.Reading.{message_table, points_in, present_in, values_in, the_scale_in, decimal_in}

-- "V is the source number, standing for Y × 10^D": V, marks and D, which document 00 calls "the source field, whole
-- numbers at a stated decimal scale"
pub record Source : Type 0 where
  pub numbers : List ℤ
  pub marks : List ℕ
  pub d : ℤ

-- the source lent with a call: numbers, marks and D
abbrev pub source_as : List ℤ → List ℕ → ℤ → Source
source_as numbers marks d = record { numbers = numbers; marks = marks; d = d }

abbrev pub number_of : Source → ℕ → ℤ
number_of f i = get_or f.numbers i (pos 0)

abbrev pub present_of : Source → ℕ → ℕ
present_of f = mark_of f.marks

-- a test at the present points only: "absent source numbers are ignored"
unfoldable pub any_present : Source → (ℕ → Bool) → Bool
any_present f test = any_below (λ i. eqb (present_of f i) 1 && test i) (length f.numbers)

-- 18: "source lists unequal, 0 or over 65,536 long, a mark not 0 or 1, a present number outside its bound"
unfoldable pub source_faults : Source → List Bool
source_faults f =
    not (eqb (marks_long (length f.numbers)) (length f.marks))
    ∷ not_within 1 points_most (length f.numbers)
    ∷ mark_odd f.marks (length f.numbers)
    ∷ any_present f (λ i. beyond source_most (number_of f i))
    ∷ []

-- 15: D of message or PDS and source differ
abbrev pub the_decimal_differs : ℤ → ℤ → Bool
the_decimal_differs a b = lt_z a b || lt_z b a

-- 15: "point count, marks or D of message and source differ"
unfoldable pub source_differs : List ℕ → Lent → Source → List Bool
source_differs s lent f =
    not (eqb (length f.numbers) (points_in s))
    ∷ any_below (λ i. not (eqb (present_in s lent i) (present_of f i))) (points_in s)
    ∷ the_decimal_differs (decimal_in s).value f.d
    ∷ []

-- 16: "E outside 0 to 24, or R not whole or over 8,388,607 in magnitude"
unfoldable pub scale_faults : Scale → List Bool
scale_faults c =
    lt_z c.e.value (pos 0) ∷ lt_z (pos step_most) c.e.value ∷ not (whole c.r)
    ∷ ltb (source_most * unit) (size_of c.r) ∷ []

-- not "2 × |V − R − X × 2^E| ≤ 2^E", for an E of 0 or more
unfoldable pub far_from : ℤ → ℤ → ℕ → ℕ → Bool
far_from v r x e = ltb (2 ^ e) (2 * nat_abs (v -ℤ r -ℤ pos (x * 2 ^ e)))

-- 17: "a present point is out by more than half a step"
unfoldable pub point_out : List ℕ → Lent → Source → Bool
point_out s lent f =
    any_present f
    (λ i. far_from (number_of f i) (whole_of (the_scale_in s).r) (value_of (values_in s lent) i)
    (nat_abs (the_scale_in s).e.value))

-- "Checker: 1 to 12, then 18, 15, 16, 17"; it says yes where this gives 0
unfoldable pub check_table : List ℕ → Lent → Source → List Row
check_table s lent f =
    message_table s lent
    ++ (row 18 (any_of (source_faults f)) ∷ row 15 (any_of (source_differs s lent f))
    ∷ row 16 (any_of (scale_faults (the_scale_in s))) ∷ row 17 (point_out s lent f) ∷ [])

unfoldable pub check_of : List ℕ → Lent → Source → Refusal
check_of s lent f = first (check_table s lent f)
