-- The list of tests opened.
use Rattle.std.proofs.Common.{rules}
use Rattle.rules.specs.Table.{any_of, or_all}
use Rattle.rules.specs.Grid.{cells_by}
use Rattle.gds_put.specs.Section.{cells_unheld}
use Rattle.gds_put.proofs.lambert_unheld.Goals as goal

pub returns : goal.returns
unfolding any_of or_all cells_unheld cells_by
returns c = search rules
