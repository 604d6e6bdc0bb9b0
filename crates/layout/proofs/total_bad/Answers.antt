-- Refusal 4: the list of tests opened, call by call.
use Rattle.rules.specs.Table.{any_of, or_all}
use Rattle.rules.specs.Places.{total_faults}
use Rattle.layout.proofs.total_bad.Goals as goal

pub returns : goal.returns
unfolding any_of or_all total_faults
returns c = rw (c.four.ensures, c.end_start.ensures, c.three.ensures)
