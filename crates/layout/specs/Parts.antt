-- What a section read off the octets is, and how large it can be; and that sections lie where their places can be told.
use Rattle.std.specs.Prelude.{ℕ, ◌<◌, ◌≡◌, Bool, List}
use Rattle.rules.specs.declared.{Part.Part, Places.Places}
use Rattle.rules.specs.Places.{after, the_section_at}

pub record SectionRead (s : List ℕ) (there : Bool) (start : ℕ) (r : Part) : Type 0 where
  pub is : r ≡ the_section_at s there start
  pub begins : r.start ≡ start
  pub small : r.len < 16777216

-- the places of the sections' first octets, and of the octet after the last, fit 32 bits
pub record PlacesFit (p : Places) : Type 0 where
  pub pds : p.pds.start < 4294967295
  pub gds : p.gds.start < 4294967295
  pub bms : p.bms.start < 4294967295
  pub bds : after p.bds < 4294967295
