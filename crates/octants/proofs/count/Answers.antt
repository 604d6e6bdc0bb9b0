-- Past the last row none; from the pole the table's row from the other end.
use mathlib.Core.Path.{◌∙◌}
use Rattle.octants.proofs.Laws.{from-pole, past}
use borrow.Author.Rules.{rules}
use Rattle.octants.proofs.count.Goals as goal

pub returns-then-j-ge-OCTANT_ROWS : goal.returns-then-j-ge-OCTANT_ROWS
returns-then-j-ge-OCTANT_ROWS c = past _ _ c.if-j-ge-OCTANT_ROWS.true

pub returns-in-Pole : goal.returns-in-Pole
returns-in-Pole c = rw c.in-Pole.is (c.from_equator-in-Pole.ensures ∙ from-pole _ (search rules))
