-- Sections 0 to 5 by where the four between the indicator and the end lie.
use Rattle.std.specs.Prelude.{List, [], ◌∷◌}
use Rattle.rules.specs.declared.{Part.Part, Places.Places}
use Rattle.rules.specs.Places.{after, pds_start}

unfoldable pub all_sections : Places → List Part
all_sections p = record { start = 0; len = pds_start } ∷ p.pds ∷ p.gds ∷ p.bms ∷ p.bds ∷ record { start = after p.bds; len = 4 } ∷ []
