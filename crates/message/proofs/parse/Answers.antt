-- What is read before it is judged, call by call.
use Rattle.rules.specs.Reading.{parsed_of, grid_of, grid_in, points_in, bitmap_in, packing_in}
use Rattle.message.proofs.parse.Goals as goal

pub returns : goal.returns
unfolding parsed_of grid_of grid_in points_in bitmap_in packing_in
returns c =
    rw (
      c.packing_at.ensures,
      c.bitmap_at.ensures,
      c.has_bitmap.ensures,
      c.points.ensures,
      c.the_grid-grid.ensures,
      c.grid_from-found.ensures,
      c.grid_in-given.ensures,
      c.has_grid.ensures,
      c.places-places.ensures,
    )
