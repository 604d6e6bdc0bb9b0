-- Each reply number, computed: from the specimen by one change for each, and the cases at each edge.
use Rattle.std.specs.Prelude.{None, Some}
use mathlib.Core.Path.{◌≡◌, refl}
use mathlib.Core.List.{List, [], ◌∷◌, ◌++◌, map}
use mathlib.Core.Bool.{true, false}
use Prim.Native.Nat.{ℕ, ◌+◌, ◌/◌, ◌%◌}
use lib.IntN.{ℤ, pos, negsuc}
use lib.ListN.{set, take, drop, length}
use Rattle.rules.specs.declared.{Geometry.TheVariants.LatLon, Grid.Grid, Form.Form}
use Rattle.rules.specs.declared.{Bitmap.TheVariants.Without}
use Rattle.rules.specs.declared.{Bitmap.TheVariants.Carried, Bitmap.TheVariants.Stored}
use Rattle.rules.specs.Numbers.{plain}
use Rattle.rules.specs.Table.{refusal, any_of}
use Rattle.rules.specs.Time.{moment_faults}
use Rattle.rules.specs.Bitmap.{Lent}
use Rattle.rules.specs.Values.{whole}
use Rattle.rules.specs.Reading.{header_of, refused_by, read_of, the_values_after, the_marks_after}
use Rattle.rules.specs.Display.{display_of}
use Rattle.rules.specs.Writing.{Parts, write_of, output_after}
use Rattle.rules.specs.Checking.{Source, far_from, check_of}
use Rattle.rules.specs.Packing.{spelling_of, exponent, pack_of, packed_after}
use Rattle.rules.proofs.Computes.{computes, specimen, nothing}
use Rattle.rules.proofs.Specimen.{grid, form, parts, source}

-- "Every other reply returns its number with all counts and fields zero"
empty : header_of [] nothing ≡ refused_by (refusal 1)
unfolding computes
empty = refl

-- reading: 1 to 12, in the place of 5 one of 20 to 23 (7 by taking GDS and BMS out)
abbrev reply_to : List ℕ → ℕ
reply_to s = (header_of s nothing).refusal.number

abbrev bare : List ℕ
bare = set (set (take 36 specimen ++ drop 76 specimen) 6 54) 15 0

reading : map reply_to
    ([]
    ∷ set specimen 0 0
    ∷ set specimen 7 2
    ∷ set specimen 6 95
    ∷ set specimen 10 29
    ∷ set specimen 21 13
    ∷ bare
    ∷ set specimen 40 0
    ∷ set specimen 43 0
    ∷ set specimen 71 11
    ∷ set specimen 86 25
    ∷ set specimen 79 13
    ∷ [])
    ≡ 1 ∷ 2 ∷ 3 ∷ 4 ∷ 20 ∷ 6 ∷ 7 ∷ 8 ∷ 9 ∷ 10 ∷ 11 ∷ 12 ∷ []
unfolding computes
reading = refl

-- two faults at once: the lower number
paired : map reply_to (set (set specimen 7 2) 0 0 ∷ set (set specimen 86 25) 79 13 ∷ set (set specimen 43 0) 21 13 ∷ []) ≡ 2 ∷ 11 ∷ 6 ∷ []
unfolding computes
paired = refl

-- 14: a list too short, and nothing changes
abbrev four : List ℕ
four = 8 ∷ 8 ∷ 8 ∷ 8 ∷ []

short : read_of specimen nothing (9 ∷ []) four ≡ refused_by (refusal 14)
unfolding computes
short = refl

short-lists : the_values_after specimen nothing (9 ∷ []) four ++ the_marks_after specimen nothing (9 ∷ []) four ≡ 9 ∷ four
unfolding computes
short-lists = refl

-- a stored bitmap: its number, its octets and no padding rule; another number, or too few octets, is 10
abbrev pub stored : List ℕ
stored = set (set (set (set (take 72 specimen ++ (0 ∷ 7 ∷ drop 76 specimen)) 6 92) 70 6) 71 0) 4 0

abbrev pub lends : ℕ → List ℕ → Lent
lends n octets = record { number = n; octets = octets }

stores : map (λ l. (header_of stored l).refusal.number) (lends 7 (0xd0 ∷ []) ∷ lends 7 (0xdf ∷ 5 ∷ []) ∷ lends 8 (0xd0 ∷ []) ∷ lends 7 [] ∷ nothing ∷ []) ≡ 0 ∷ 0 ∷ 10 ∷ 10 ∷ 10 ∷ []
unfolding computes
stores = refl

-- display: 16 after 1 to 12, at E = 1,023 and 1,024, −1,022 and −1,023
displaying : map (λ s. (display_of s nothing).refusal.number)
    (set (set specimen 80 0x03) 81 0xff
    ∷ set specimen 80 0x04
    ∷ set (set specimen 80 0x83) 81 0xfe
    ∷ set (set specimen 80 0x83) 81 0xff
    ∷ set (set specimen 80 0x04) 86 25
    ∷ [])
    ≡ 0 ∷ 16 ∷ 0 ∷ 16 ∷ 11 ∷ []
unfolding computes
displaying = refl

-- writing: 5, 6, 7, 9, 10, 11, 13, 14
abbrev with-form : Form → Parts
with-form f = record { pds = parts.pds; form = f; scale = parts.scale; lent = nothing; values = parts.values; marks = parts.marks }

abbrev pub with-pds : List ℕ → Parts
with-pds p = record { pds = p; form = form; scale = parts.scale; lent = nothing; values = parts.values; marks = parts.marks }

-- rows that run north, from a higher latitude to a lower
abbrev upside_down : Grid
upside_down = record {
  ni = 2;
  nj = 2;
  la1 = plain (pos 51000);
  lo1 = plain (pos 0);
  flags = 0;
  scan = 64;
  geometry = LatLon (record { la2 = plain (pos 50000); lo2 = plain (pos 0); di = 0; dj = 0 });
}

writing : map (λ w. (write_of w specimen).refusal.number)
    (with-pds (set parts.pds 2 30)
    ∷ with-pds (set parts.pds 13 0)
    ∷ with-form (record { grid = None; bitmap = Carried; packing = form.packing })
    ∷ with-form (record { grid = Some upside_down; bitmap = Carried; packing = form.packing })
    ∷ with-form (record { grid = Some grid; bitmap = Stored 7; packing = form.packing })
    ∷ with-form (record { grid = Some grid; bitmap = Carried; packing = record { flags = 4; bits = 3 } })
    ∷ record { pds = parts.pds; form = form; scale = record { e = plain (negsuc 32767); r = 0 }; lent = nothing; values = parts.values; marks = parts.marks }
    ∷ with-form (record { grid = Some grid; bitmap = Without; packing = form.packing })
    ∷ with-form (record { grid = Some grid; bitmap = Carried; packing = record { flags = 2; bits = 2 } })
    ∷ [])
    ++ ((write_of parts (drop 1 specimen)).refusal.number ∷ [])
    ≡ 5 ∷ 6 ∷ 7 ∷ 9 ∷ 10 ∷ 11 ∷ 11 ∷ 13 ∷ 13 ∷ 14 ∷ []
unfolding computes
writing = refl

-- a refusal changes nothing
unwritten : output_after parts (drop 1 specimen) ≡ drop 1 specimen
unfolding computes
unwritten = refl

-- checking: 18, 15, 16, 17 in that order, after the message's own
abbrev with-numbers : List ℤ → List ℕ → ℤ → Source
with-numbers v m d = record { numbers = v; marks = m; d = d }

checking : map (λ f. (check_of specimen nothing f).number)
    (with-numbers source.numbers (1 ∷ 1 ∷ 2 ∷ 1 ∷ []) (pos 1)
    ∷ with-numbers source.numbers source.marks (pos 2)
    ∷ with-numbers source.numbers (1 ∷ 1 ∷ 1 ∷ 0 ∷ []) (pos 1)
    ∷ with-numbers (pos 2500 ∷ pos 2501 ∷ pos 77 ∷ pos 2507 ∷ []) source.marks (pos 1)
    ∷ [])
    ++ ((check_of (set specimen 81 25) nothing source).number ∷ (check_of (set specimen 82 0x40) nothing source).number
    ∷ (check_of [] nothing source).number ∷ [])
    ≡ 18 ∷ 15 ∷ 15 ∷ 17 ∷ 16 ∷ 16 ∷ 1 ∷ []
unfolding computes
checking = refl

-- half a step of 8, on either side: V − R = 4 is near X = 0 and X = 1, 5 is far from 0 and 3 from 1
halves : far_from (pos 14) (pos 10) 0 3 ∷ far_from (pos 14) (pos 10) 1 3 ∷ far_from (pos 15) (pos 10) 0 3 ∷ far_from (pos 13) (pos 10) 1 3 ∷ [] ≡ false ∷ false ∷ true ∷ true ∷ []
unfolding computes
halves = refl

-- packing: "Spread 8,388,607 with N = 0: E = 24; one more: 19"; a list that is not n long is 13, and 15 comes before it
abbrev no_bits : Form
no_bits = record { grid = Some grid; bitmap = Carried; packing = record { flags = 0; bits = 0 } }

abbrev spread : ℤ → Source
spread v = with-numbers (v ∷ pos 0 ∷ pos 77 ∷ pos 4194303 ∷ []) source.marks (pos 1)

packing : exponent (spread (negsuc 4194303)) 0 ∷ map (λ f. (pack_of parts.pds no_bits nothing f specimen).refusal.number) (spread (negsuc 4194303) ∷ spread (negsuc 4194304) ∷ with-numbers (pos 1 ∷ []) (1 ∷ []) (pos 1) ∷ with-numbers (pos 1 ∷ []) (1 ∷ []) (pos 2) ∷ [])
    ≡ 24 ∷ 0 ∷ 19 ∷ 13 ∷ 15 ∷ []
unfolding computes
packing = refl

unpacked : packed_after parts.pds no_bits nothing (spread (negsuc 4194304)) (7 ∷ 7 ∷ []) ≡ 7 ∷ 7 ∷ []
unfolding computes
unpacked = refl

-- R's one spelling; and which spellings are whole numbers
spelt : map spelling_of (pos 1 ∷ negsuc 0 ∷ pos 100 ∷ pos 101325 ∷ pos 2500 ∷ pos 0 ∷ pos 8388607 ∷ [])
    ≡ 0x41100000 ∷ 0xc1100000 ∷ 0x42640000 ∷ 0x4518bcd0 ∷ 0x439c4000 ∷ 0 ∷ 0x467fffff ∷ []
unfolding computes
spelt = refl

wholes : map whole (0x40800000 ∷ 0x41100000 ∷ 0x41180000 ∷ 0x7fffffff ∷ 0 ∷ 0x81000000 ∷ []) ≡ false ∷ true ∷ false ∷ true ∷ true ∷ true ∷ []
unfolding computes
wholes = refl

-- "256 × 256 points taken; 257 × 256 refused (9)", with N = 0 and no bitmap: "L = 12, unused 8"; and grid 29 of the
-- catalogue
abbrev flat : ℕ → List ℕ → List ℕ
flat octet8 gds =
    let rest = set (take 28 (drop 8 specimen)) 7 octet8 ++ (gds ++ (0 ∷ 0 ∷ 12 ∷ 8 ∷ 0 ∷ 0 ∷ 0 ∷ 0 ∷ 0 ∷ 0 ∷ 0 ∷ 0 ∷ drop 90 specimen)) in
    take 4 specimen ++ (0 ∷ 0 ∷ (8 + length rest) ∷ 1 ∷ rest)

abbrev wide : ℕ → ℕ → List ℕ
wide i j = set (set (set (set (take 32 (drop 36 specimen)) 6 (i / 256)) 7 (i % 256)) 8 (j / 256)) 9 (j % 256)

abbrev counts : List ℕ → List ℕ
counts s = let h = header_of s nothing in h.refusal.number ∷ h.points ∷ h.present ∷ []

large : map counts (flat 128 (wide 256 256) ∷ flat 128 (wide 257 256) ∷ flat 128 (wide 65535 1) ∷ flat 128 (wide 65534 65534) ∷ set (flat 0 []) 14 29 ∷ [])
    ≡ (0 ∷ 65536 ∷ 65536 ∷ []) ∷ (9 ∷ 0 ∷ 0 ∷ []) ∷ (9 ∷ 0 ∷ 0 ∷ []) ∷ (9 ∷ 0 ∷ 0 ∷ []) ∷ (0 ∷ 5365 ∷ 5365 ∷ []) ∷ []
unfolding computes
large = refl

-- 29 February: century 19 year 100 is 1900, century 20 year 100 is 2000, century 20 year 96 is 1996; 31 April; century
-- 17
days : map any_of
    (moment_faults 19 100 2 29 0 0
    ∷ moment_faults 20 100 2 29 0 0
    ∷ moment_faults 20 96 2 29 0 0
    ∷ moment_faults 20 98 4 31 0 0
    ∷ moment_faults 17 98 1 1 0 0
    ∷ [])
    ≡ true ∷ false ∷ false ∷ true ∷ true ∷ []
unfolding computes
days = refl
