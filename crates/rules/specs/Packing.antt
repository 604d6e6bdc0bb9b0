-- Document 01, "Packing and checking": the packer's choice of R, X and E, its table and its message.
use Rattle.std.specs.Prelude.{ℕ, zero, suc, ◌+◌, ◌-◌, ◌*◌, ◌/◌, ◌^◌, Bool, not, ◌&&◌, cond, List, ◌∷◌, ltb, leb, eqb, ℤ}
use Rattle.std.specs.Prelude.{pos, negsuc, nat_abs, ◌-ℤ◌, length}
use Rattle.std.specs.Int.Signed.{lt_z}
use Rattle.rules.specs.declared.{Refusal.Refusal, Form.Form}
use Rattle.rules.specs.Answers.{Written}
use Rattle.rules.specs.Bounds.{source_most, step_most}
use Rattle.bits.specs.Bits.{count}
use Rattle.bits.specs.Tables.{tab, least_below}
use Rattle.rules.specs.Numbers.{plain, decimal_at}
use Rattle.rules.specs.Table.{Row, row, any_of, first, filled}
use Rattle.rules.specs.Bitmap.{Lent}
use Rattle.rules.specs.Values.{packing_faults}
use Rattle.rules.specs.Writing.{Parts, pds_faults, message, write_table, length_of}
use Rattle.rules.specs.Checking.{Source, number_of, present_of, any_present, source_faults, the_decimal_differs}

-- "R is the least present V" (none is above its bound, by 18); "No present point: R = 0"
unfoldable pub lowest : (ℕ → ℕ) → (ℕ → ℤ) → ℕ → ℤ
lowest present v zero = pos source_most
lowest present v (suc n) =
    let before = lowest present v n in
    cond (eqb (present n) 1 && lt_z (v n) before) (v n) before

unfoldable pub reference : Source → ℤ
reference f =
    cond (eqb (count (present_of f) 0 (length f.numbers)) 0) (pos 0)
    (lowest (present_of f) (number_of f) (length f.numbers))

-- "with leading hex digit not zero, and zero as 32 zero bits": h hex digits, at most 6, make A = 64 + h
abbrev pub negative : ℤ → ℕ
negative (pos n) = 0
negative (negsuc n) = 1

unfoldable pub spelling_of : ℤ → ℕ
spelling_of z =
    let h = least_below (λ k. ltb (nat_abs z) (16 ^ k)) 6 in
    cond (eqb (nat_abs z) 0) 0 (negative z * 2 ^ 31 + (64 + h) * 2 ^ 24 + nat_abs z * 16 ^ (6 - h))

-- "X = r for E = 0, else X is the whole part of (r + 2^(E − 1)) / 2^E"
unfoldable pub stepped : ℕ → ℕ → ℕ
stepped zero r = r
stepped (suc e) r = (r + 2 ^ e) / 2 ^ suc e

-- "With r = V − R", which is 0 or more at a present point
unfoldable pub above : Source → ℕ → ℕ
above f i = nat_abs (number_of f i -ℤ reference f)

-- with the step 2^e, a present point's X is 2^N or more
unfoldable pub too_wide : Source → ℕ → ℕ → Bool
too_wide f bits e = any_present f (λ i. leb (2 ^ bits) (stepped e (above f i)))

-- "E is the least of 0 to 24 for which all X are below 2^N"; 25 where none is
unfoldable pub exponent : Source → ℕ → ℕ
exponent f bits = least_below (λ e. not (too_wide f bits e)) (suc step_most)

-- X at a point: "absent source numbers are ignored, .. by the packer, whose X there is 0"
unfoldable pub packed_at : Source → ℕ → ℕ → ℕ
packed_at f e i = cond (eqb (present_of f i) 1) (stepped e (above f i)) 0

-- the parts that the packer writes
unfoldable pub packed_parts : List ℕ → Form → Lent → Source → Parts
packed_parts pds form lent f =
    let e = exponent f form.packing.bits in
    record {
      pds = pds;
      form = form;
      scale = record { e = plain (pos e); r = spelling_of (reference f) };
      lent = lent;
      values = tab (packed_at f e) (length f.numbers);
      marks = f.marks;
    }

-- "Packer: 5, 18, 15 (D of PDS and source only), 11, 19, then the rest of the writer's" (whose 5 and 11 have passed by
-- then)
unfoldable pub pack_table : List ℕ → Form → Lent → Source → List ℕ → List Row
pack_table pds form lent f out =
    row 5 (any_of (pds_faults pds))
    ∷ row 18 (any_of (source_faults f))
    ∷ row 15 (the_decimal_differs (decimal_at pds 0).value f.d)
    ∷ row 11 (any_of (packing_faults form.packing))
    ∷ row 19 (ltb step_most (exponent f form.packing.bits))
    ∷ write_table (packed_parts pds form lent f) out

unfoldable pub pack_refusal : List ℕ → Form → Lent → Source → List ℕ → Refusal
pack_refusal pds form lent f out = first (pack_table pds form lent f out)

unfoldable pub pack_of : List ℕ → Form → Lent → Source → List ℕ → Written
pack_of pds form lent f out = length_of (pack_refusal pds form lent f out) (message (packed_parts pds form lent f))

unfoldable pub packed_after : List ℕ → Form → Lent → Source → List ℕ → List ℕ
packed_after pds form lent f out =
    filled (pack_refusal pds form lent f out) (message (packed_parts pds form lent f)) out
