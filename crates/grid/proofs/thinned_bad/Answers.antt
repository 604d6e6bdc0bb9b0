-- The list of tests opened.
use Rattle.std.proofs.Common.{rules}
use Rattle.rules.specs.Table.{any_of, or_all}
use Rattle.rules.specs.Columns.{cells_faults}
use Rattle.rules.specs.Grid.{cells_by}
use Rattle.grid.proofs.thinned_bad.Goals as goal

pub returns : goal.returns
unfolding any_of or_all cells_faults cells_by
returns c = search rules
