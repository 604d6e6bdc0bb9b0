-- Each section starts where the one before ends, call by call.
use Rattle.rules.specs.Places.{places_of}
use Rattle.layout.proofs.places.Goals as goal

pub returns : goal.returns
unfolding places_of
returns c =
    rw (
      c.section_at-bds.ensures.is,
      c.section_at-bms.ensures.is,
      c.has_bitmap.ensures,
      c.section_at-gds.ensures.is,
      c.has_grid.ensures,
      c.section_at-pds.ensures.is,
    )
