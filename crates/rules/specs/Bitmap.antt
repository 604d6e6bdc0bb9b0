-- Document 01, "BMS": which points are present, the bitmap in force, and refusal 10.
use Rattle.std.specs.Prelude.{ℕ, ◌+◌, ◌-◌, ◌*◌, Bool, true, false, not, cond, List, [], ◌∷◌, ltb, eqb, length, get_or}
use Rattle.std.specs.Borrow.{Bor}
use Rattle.rules.specs.declared.{Part.Part, Bitmap.Bitmap, Bitmap.TheVariants.Without}
use Rattle.rules.specs.declared.{Bitmap.TheVariants.Carried, Bitmap.TheVariants.Stored}
use Rattle.bits.specs.Bits.{bits_in, runs, octets_for}
use Rattle.bits.specs.Tables.{tab, any_below}
use Rattle.rules.specs.Bounds.{bms_head}
use Rattle.rules.specs.Numbers.{Field, field, laid, even_from, octet, number}
use Rattle.rules.specs.Places.{octets_of, no_part, IsPart}

-- "the one the caller lends with each message, one number and whole octets"; none is lent as number 0 and no octets
pub record Lent : Type 0 where
  pub number : ℕ
  pub octets : List ℕ

-- the stored bitmap lent with a call: its number and its octets
abbrev pub lent_as : ℕ → List ℕ → Lent
lent_as number octets = record { number = number; octets = octets }

-- "bitmap number 5-6. Number 0: bits follow .. Another number": what a bitmap section says, where there is one
unfoldable pub the_bitmap_at : List ℕ → Bool → ℕ → Bitmap
the_bitmap_at s there b = cond there (cond (eqb (number s b 5 6) 0) Carried (Stored (number s b 5 6))) Without

-- 10, of the lent bitmap: "its number must be this one and its octets hold at least n bits" (and number 0 is no stored
-- bitmap's)
unfoldable pub lent_faults : Lent → ℕ → ℕ → List Bool
lent_faults lent number n =
    eqb number 0 ∷ not (eqb lent.number number) ∷ ltb (length lent.octets) (octets_for n) ∷ []

-- 10: carried, "8 × (L − 6) − unused = n and unused 0 to 15"; stored, "L is 6, octet 4 is 0", and the lent bitmap
unfoldable pub bitmap_faults : List ℕ → Lent → Part → Bitmap → ℕ → List Bool
bitmap_faults s lent p Without n = []
bitmap_faults s lent p Carried n =
    let unused = octet s p.start 4 in
    ltb 15 unused ∷ not (eqb (8 * (p.len - bms_head)) (n + unused)) ∷ []
bitmap_faults s lent p (Stored number) n =
    not (eqb p.len bms_head) ∷ not (eqb (octet s p.start 4) 0) ∷ lent_faults lent number n

-- "The bitmap in force is part of the message or part of the lent store ..: just the octets that hold its n bits. With
-- no bitmap .. it is the empty part at the message's start": whether it is the store's, and which part of that slice
pub record InForce : Type 0 where
  pub stored : Bool
  pub part : Part

unfoldable pub no_bitmap : InForce
no_bitmap = record { stored = false; part = no_part }

unfoldable pub in_force : Bitmap → Part → ℕ → InForce
in_force Without p n = no_bitmap
in_force Carried p n = record { stored = false; part = record { start = p.start + bms_head; len = octets_for n } }
in_force (Stored number) p n = record { stored = true; part = record { start = 0; len = octets_for n } }

unfoldable pub bitmap_octets : List ℕ → List ℕ → InForce → List ℕ
bitmap_octets s store f = octets_of (cond f.stored store s) f.part

-- "handed back without copying": r is that part of the message or of the store
abbrev pub IsInForce : Bor (List ℕ) → Bor (List ℕ) → Bor (List ℕ) → InForce → Type 0
IsInForce r message store f = cond f.stored (IsPart r store f.part) (IsPart r message f.part)

abbrev pub the_bitmap_given : Bitmap → Bool
the_bitmap_given Without = false
the_bitmap_given Carried = true
the_bitmap_given (Stored number) = true

-- "1 = present": 0 or 1 for each grid point. With no bitmap all are present
unfoldable pub present_by : Bitmap → List ℕ → ℕ → ℕ
present_by bitmap bits i = cond (the_bitmap_given bitmap) (bits_in 8 bits i) 1

-- the mark of a point, the list of n marks, how long it is, and "a mark not 0 or 1" among them (the one place that
-- knows how a list of marks says presence)
abbrev pub mark_of : List ℕ → ℕ → ℕ
mark_of marks i = get_or marks i 0

abbrev pub marks_of : (ℕ → ℕ) → ℕ → List ℕ
marks_of present n = tab present n

abbrev pub marks_long : ℕ → ℕ
marks_long n = n

abbrev pub mark_odd : List ℕ → ℕ → Bool
mark_odd marks n = any_below (λ i. ltb 1 (mark_of marks i)) n

-- the value of a point
abbrev pub value_of : List ℕ → ℕ → ℕ
value_of values i = get_or values i 0

-- "length L 1-3; unused bits 4; bitmap number 5-6"
abbrev pub bms_fields : ℕ → ℕ → ℕ → List Field
bms_fields len unused number = field 3 len ∷ field 1 unused ∷ field 2 number ∷ []

-- a bitmap section of n points: these fields, bits, "Padding bits are .. written zero"
unfoldable pub bms_of : Bitmap → (ℕ → ℕ) → ℕ → List ℕ
bms_of Without present n = []
bms_of Carried present n =
    let len = even_from (bms_head + octets_for n) in
    laid (bms_fields len (8 * (len - bms_head) - n) 0) (runs (bits_in 1 (tab present n)) 0 8 (len - bms_head))
bms_of (Stored number) present n = laid (bms_fields bms_head 0 number) []
