-- Document 01, "Layout": where the sections lie, read off the octets whatever they are, and refusals 1 to 4.
use Rattle.std.specs.Prelude.{ℕ, ◌+◌, ◌-◌, Bool, true, not, cond, List, [], ◌∷◌, length, take, drop, ◌≡◌, eqb}
use Rattle.std.specs.Borrow.{Bor}
use Rattle.rules.specs.declared.{Part.Part, Places.Places}
use Rattle.rules.specs.Bounds.{message_least, message_most}
use Rattle.rules.specs.Numbers.{octet, bit, number, not_within}

-- the octets of a part
abbrev pub octets_of : List ℕ → Part → List ℕ
octets_of s p = take p.len (drop p.start s)

-- "hands back that part of the caller's message", no copy: r is the part p of what whole refers to, in the same memory
pub record IsPart (r whole : Bor (List ℕ)) (p : Part) : Type 0 where
  pub held : r.now ≡ octets_of whole.now p
  pub block : r.ref_ptr.0 ≡ whole.ref_ptr.0
  pub place : r.ref_ptr.1 ≡ whole.ref_ptr.1 + p.start

-- the empty part at a slice's start
abbrev pub no_part : Part
no_part = record { start = 0; len = 0 }

abbrev pub after : Part → ℕ
after p = p.start + p.len

-- 'GRIB' and '7777' as numbers of four octets
abbrev pub grib : ℕ
grib = 0x47524942

abbrev pub sevens : ℕ
sevens = 0x37373737

-- where the PDS starts, after the "Indicator, 8 octets", and the end section
abbrev pub pds_start : ℕ
pds_start = 8

abbrev pub the_end_start : List ℕ → ℕ
the_end_start s = length s - 4

-- "octet 8 bit 1 = grid section present, bit 2 = bitmap section present", of a PDS at place p
unfoldable pub the_has_grid : List ℕ → ℕ → Bool
the_has_grid s p = bit 1 (octet s p 8)

unfoldable pub the_has_bitmap : List ℕ → ℕ → Bool
the_has_bitmap s p = bit 2 (octet s p 8)

-- a section at a place, "length 1-3"; an absent one has length 0
unfoldable pub the_section_at : List ℕ → Bool → ℕ → Part
the_section_at s there start = record { start = start; len = cond there (number s start 1 3) 0 }

-- one after another: PDS, GDS, BMS, BDS
unfoldable pub places_of : List ℕ → Places
places_of s =
    let pds = the_section_at s true pds_start in
    let gds = the_section_at s (the_has_grid s pds_start) (after pds) in
    let bms = the_section_at s (the_has_bitmap s pds_start) (after gds) in
    let bds = the_section_at s true (after bms) in
    record { pds = pds; gds = gds; bms = bms; bds = bds }

-- sections 0 to 5 of a message
unfoldable pub sections_of : List ℕ → List Part
sections_of s =
    let p = places_of s in
    record { start = 0; len = pds_start }
    ∷ p.pds ∷ p.gds ∷ p.bms ∷ p.bds
    ∷ record { start = the_end_start s; len = 4 }
    ∷ []

-- 1: "slice below 8 or above 262,144 octets"
unfoldable pub the_size_bad : List ℕ → Bool
the_size_bad s = not_within message_least message_most (length s)

-- 2: "first four octets not 'GRIB'"
unfoldable pub the_grib_bad : List ℕ → Bool
the_grib_bad s = not (eqb (number s 0 1 4) grib)

-- 3: "edition not 1"
unfoldable pub the_edition_bad : List ℕ → Bool
the_edition_bad s = not (eqb (octet s 0 8) 1)

-- 4: "total length is not the slice's, or last four octets not '7777'"
unfoldable pub total_faults : List ℕ → List Bool
total_faults s = not (eqb (number s 0 5 7) (length s)) ∷ not (eqb (number s (the_end_start s) 1 4) sevens) ∷ []
