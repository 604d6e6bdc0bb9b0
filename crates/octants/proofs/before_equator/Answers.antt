-- The table in the code is the sums of document 003's: they compute to the same.
use Rattle.octants.proofs.Laws.{sum_is}
use Rattle.octants.proofs.before_equator.Goals as goal

pub returns : goal.returns
returns c = sum_is _ c.requires
