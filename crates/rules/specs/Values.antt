-- Document 01, "BDS" and refusals 11 and 12; "Numbers": what R stands for.
use Rattle.std.specs.Prelude.{ℕ, ◌+◌, ◌-◌, ◌*◌, ◌/◌, ◌%◌, ◌^◌, Bool, not, ◌||◌, cond, List, [], ◌∷◌, ltb, leb, eqb, ℤ}
use Rattle.std.specs.Prelude.{pos, neg_ℤ, length}
use Rattle.rules.specs.declared.{Signed.Signed, Part.Part, Packing.Packing, Scale.Scale}
use Rattle.rules.specs.Bounds.{the_bits_most, bds_head}
use Rattle.bits.specs.Bits.{bits_in, runs, octets_for}
use Rattle.rules.specs.Numbers.{Field, field, laid, even_from, octet, bit, number, signed_at, signed_field}

-- "octet 4 high half flags, low half unused bits; .. N in 11"
unfoldable pub the_packing_at : List ℕ → ℕ → Packing
the_packing_at s b = record { flags = octet s b 4 / 16; bits = octet s b 11 }

-- "E 5-6; reference R 7-10"
unfoldable pub scale_at : List ℕ → ℕ → Scale
scale_at s b = record { e = signed_at s b 5 6; r = number s b 7 10 }

-- "Flag bits 1, 2 and 4 are 0; bit 3 is carried": of the octet whose "high half" the flags are; a number above 15 is no
-- half of an octet
unfoldable pub flags_bad : ℕ → Bool
flags_bad flags =
    let x = flags * 16 in
    leb 16 flags || bit 1 x || bit 2 x || bit 4 x

-- 11: "BDS flag bit 1, 2 or 4 set, N over 24"
unfoldable pub packing_faults : Packing → List Bool
packing_faults p = flags_bad p.flags ∷ ltb the_bits_most p.bits ∷ []

-- 12: "With m present points, 8 × (L − 11) − unused = m × N"
unfoldable pub the_length_bad : List ℕ → Part → ℕ → Packing → Bool
the_length_bad s b m p = not (eqb (8 * (b.len - bds_head)) (m * p.bits + octet s b.start 4 % 16))

-- "data from 12 .. Values are taken one after another": the m values
unfoldable pub values_at : List ℕ → ℕ → ℕ → ℕ → List ℕ
values_at s b bits m = runs (bits_in 8 s) ((b + bds_head) * 8) bits m

-- "length L 1-3; octet 4 high half flags, low half unused bits; E 5-6; reference R 7-10; N in 11"
abbrev pub scale_fields : ℕ → ℕ → Signed → ℕ → ℕ → List Field
scale_fields len flags e r bits = field 3 len ∷ field 1 flags ∷ signed_field 2 e ∷ field 4 r ∷ field 1 bits ∷ []

abbrev pub bds_fields : ℕ → ℕ → Packing → Scale → List Field
bds_fields len unused p c = scale_fields len (p.flags * 16 + unused) c.e c.r p.bits

-- a data section of values, "m × N = 0: L = 12, unused 8", "Padding bits are .. written zero"
unfoldable pub bds_of : Packing → Scale → List ℕ → List ℕ
bds_of p c xs =
    let t = length xs * p.bits in
    let len = even_from (bds_head + octets_for t) in
    laid (bds_fields len (8 * (len - bds_head) - t) p c) (runs (bits_in p.bits xs) 0 8 (len - bds_head))

-- "s 1 bit, A 7 bits, B 24 bits"
abbrev pub s_of : ℕ → ℕ
s_of r = r / 2 ^ 31

abbrev pub a_of : ℕ → ℕ
a_of r = r / 2 ^ 24 % 2 ^ 7

abbrev pub b_of : ℕ → ℕ
b_of r = r % 2 ^ 24

-- "R = (−1)^s × B × 16^(A − 64) / 2^24": in size B × 16^A of these parts, since 16^64 × 2^24 = 16^70
abbrev pub unit : ℕ
unit = 16 ^ 70

unfoldable pub size_of : ℕ → ℕ
size_of r = b_of r * 16 ^ a_of r

-- whether R is whole, and the whole number that it is
unfoldable pub whole : ℕ → Bool
whole r = eqb (size_of r % unit) 0

unfoldable pub whole_of : ℕ → ℤ
whole_of r = cond (eqb (s_of r) 0) (pos (size_of r / unit)) (neg_ℤ (pos (size_of r / unit)))
