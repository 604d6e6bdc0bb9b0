-- Document 02, R-2: the walk over the section lengths, and where it stops. Refusals 20 to 23, which reading gives
-- "where 5 stood": document 01's "a section length is odd or under its least (PDS 28, GDS 32, BMS 6, BDS 12), PDS over
-- 1,024, a length's octets or its section passes the end section's start, or the sections don't reach it exactly", in
-- parts.
use Rattle.std.specs.Prelude.{ℕ, ◌+◌, ◌%◌, Bool, true, ◌&&◌, List, [], ◌∷◌, ◌++◌, ltb, eqb}
use Rattle.rules.specs.declared.{Part.Part, Places.Places}
use Rattle.rules.specs.Bounds.{pds_least, pds_most, gds_least, bms_least, bds_least}
use Rattle.rules.specs.Numbers.{not_within}
use Rattle.rules.specs.Table.{Row, row_at}
use Rattle.rules.specs.Places.{after, pds_start, the_end_start, the_has_grid, the_has_bitmap, places_of}

-- the place of the octet that stands i octets after the message's first, which document 01 counts as 1
abbrev pub place_of : ℕ → ℕ
place_of i = i + 1

-- at the section of number k: "odd length, under or over its bounds, running past the end section", 20 to 22 "in that
-- order"; "a length whose own octets don't fit is 22", before anything is asked of that length. `out` says that it is
-- out of its bounds. A section that PDS octet 8 does not announce stops nothing
unfoldable pub section_rows : ℕ → ℕ → Bool → Bool → Part → List Row
section_rows end k there out p =
    row_at 22 k (place_of p.start) (there && ltb end (p.start + 3))
    ∷ row_at 20 k (place_of p.start) (there && eqb (p.len % 2) 1)
    ∷ row_at 21 k (place_of p.start) (there && out)
    ∷ row_at 22 k (place_of p.start) (there && ltb end (after p))
    ∷ []

-- "(PDS 28, GDS 32, BMS 6, BDS 12), PDS over 1,024": those of each section, where the four lie at p
abbrev pub pds_rows : ℕ → Places → List Row
pds_rows end p = section_rows end 1 true (not_within pds_least pds_most p.pds.len) p.pds

abbrev pub gds_rows : ℕ → Bool → Places → List Row
gds_rows end grid p = section_rows end 2 grid (ltb p.gds.len gds_least) p.gds

abbrev pub bms_rows : ℕ → Bool → Places → List Row
bms_rows end bitmap p = section_rows end 3 bitmap (ltb p.bms.len bms_least) p.bms

abbrev pub bds_rows : ℕ → Places → List Row
bds_rows end p = section_rows end 4 true (ltb p.bds.len bds_least) p.bds

-- "octets left over": 23 "names section 5 and the first octet left over"
abbrev pub left_rows : ℕ → Places → List Row
left_rows end p = row_at 23 5 (place_of (after p.bds)) (ltb (after p.bds) end) ∷ []

-- "section by section from the front"
unfoldable pub walk_rows : ℕ → Bool → Bool → Places → List Row
walk_rows end grid bitmap p =
    pds_rows end p ++ (gds_rows end grid p ++ (bms_rows end bitmap p ++ (bds_rows end p ++ left_rows end p)))

-- the walk of a message
unfoldable pub walk_of : List ℕ → List Row
walk_of s = walk_rows (the_end_start s) (the_has_grid s pds_start) (the_has_bitmap s pds_start) (places_of s)
