-- Document 01's row 5, one test for all section lengths, as it stood before R-2 of document 02 had reading tell where
-- they went wrong. The walk stops exactly where it applies (WalkAsRow), so that what a message's sections are once
-- they pass is still said by it.
use Rattle.std.specs.Prelude.{ℕ, ◌+◌, ◌%◌, ◌≡◌, ◌↔◌, Bool, false, not, ◌&&◌, List, [], ◌∷◌, ltb, eqb}
use Rattle.rules.specs.declared.{Part.Part, Places.Places}
use Rattle.rules.specs.Bounds.{pds_least, pds_most, gds_least, bms_least, bds_least}
use Rattle.rules.specs.Table.{any_of}
use Rattle.rules.specs.Places.{after, pds_start, the_end_start, the_has_grid, the_has_bitmap, places_of}
use Rattle.rules.specs.Walk.{walk_rows}
use Rattle.laws.specs.Tables.{Clear}

-- "a section length is odd or under its least .., a length's octets or its section passes the end section's start"
unfoldable pub section_faults : ℕ → ℕ → Part → List Bool
section_faults end least p = ltb end (p.start + 3) ∷ eqb (p.len % 2) 1 ∷ ltb p.len least ∷ ltb end (after p) ∷ []

-- "PDS over 1,024, .. or the sections don't reach it exactly"
unfoldable pub places_faults : ℕ → Bool → Bool → Places → List Bool
places_faults end grid bitmap p =
    any_of (section_faults end pds_least p.pds)
    ∷ ltb pds_most p.pds.len
    ∷ (grid && any_of (section_faults end gds_least p.gds))
    ∷ (bitmap && any_of (section_faults end bms_least p.bms))
    ∷ any_of (section_faults end bds_least p.bds)
    ∷ not (eqb (after p.bds) end)
    ∷ []

unfoldable pub lengths_bad : List ℕ → Bool
lengths_bad s = any_of (places_faults (the_end_start s) (the_has_grid s pds_start) (the_has_bitmap s pds_start) (places_of s))

-- the walk stops nowhere exactly where none of these tests applies, wherever sections may lie
abbrev pub WalkAsRow : Type 0
WalkAsRow =
    (end : ℕ) (grid bitmap : Bool) (p : Places)
    → Clear (walk_rows end grid bitmap p) ↔ (any_of (places_faults end grid bitmap p) ≡ false)
