-- Document 01, "For display, one record holds R and 2^E as IEEE doubles of exactly those values".
use Rattle.std.specs.Prelude.{ℕ, zero, suc, ◌+◌, ◌-◌, ◌*◌, ◌^◌, ◌||◌, List, [], ◌∷◌, ◌++◌, ℤ, pos, negsuc, Float}
use Rattle.std.specs.Int.Signed.{lt_z}
use Rattle.std.specs.Int.Count.{count_leading_zeros}
use Rattle.std.specs.Float.{binary64}
use Rattle.std.specs.Float.Ieee.{of_bits}
use Rattle.rules.specs.Answers.{Display}
use Rattle.rules.specs.Bounds.{shown_least, shown_most}
use Rattle.rules.specs.Table.{Row, row, first, answered}
use Rattle.rules.specs.Bitmap.{Lent}
use Rattle.rules.specs.Values.{s_of, a_of, b_of}
use Rattle.rules.specs.Reading.{message_table, the_scale_in}

-- R's double: sign, exponent, and the digits of B under its leading one, whose weight in B is 2^(31 − z) with z =
-- count_leading_zeros 32 B. By "B × 16^(A − 64) / 2^24" that one stands for 2^(31 − z + 4 × (A − 64) − 24), so the
-- exponent's field is 1,023 more than this. It is made in two parts: B is moved up by 21 + z bits, so that its leading
-- one comes to 2^52, where it adds 1 to the field, and the rest of the field is 4 × A − z and this number, which is 773
abbrev pub ref_exponent : ℕ
ref_exponent = 1023 + 31 - 4 * 64 - 24 - 1

-- "R with B = 0 gives all bits zero"
unfoldable pub the_ref_bits : ℕ → ℕ → ℕ → ℕ
the_ref_bits s a zero = 0
the_ref_bits s a (suc b) =
    s * 2 ^ 63
    + ((4 * a + ref_exponent - count_leading_zeros 32 (suc b)) * 2 ^ 52
    + suc b * 2 ^ (21 + count_leading_zeros 32 (suc b)))

-- 2^E's double, E from −1,022 to 1,023: E + 1,023 in the exponent's field
unfoldable pub the_step_bits : ℤ → ℕ
the_step_bits (pos n) = (1023 + n) * 2 ^ 52
the_step_bits (negsuc n) = (1022 - n) * 2 ^ 52

unfoldable pub shown_reference : ℕ → Float
shown_reference r = of_bits binary64 (the_ref_bits (s_of r) (a_of r) (b_of r))

unfoldable pub shown_step : ℤ → Float
shown_step e = of_bits binary64 (the_step_bits e)

-- "E outside −1,022 to 1,023 is refusal 16, after 1 to 12"
unfoldable pub display_table : List ℕ → Lent → List Row
display_table s lent =
    message_table s lent
    ++ (row 16 (lt_z (the_scale_in s).e.value shown_least || lt_z shown_most (the_scale_in s).e.value) ∷ [])

unfoldable pub display_of : List ℕ → Lent → Display
display_of s lent =
    let r = first (display_table s lent) in
    answered r
    (record { refusal = r; reference = shown_reference (the_scale_in s).r; step = shown_step (the_scale_in s).e.value })
    (record { refusal = r; reference = of_bits binary64 0; step = of_bits binary64 0 })
