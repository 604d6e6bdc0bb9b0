-- The definition opened, call by call.
use Rattle.rules.specs.Time.{no_moment}
use Rattle.rules.specs.Reading.{refused_by}
use Rattle.records.proofs.nothing.Goals as goal

pub returns : goal.returns
unfolding refused_by no_moment
returns c = rw (c.the_grid.ensures, c.plain-zero.ensures)
