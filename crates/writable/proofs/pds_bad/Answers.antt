-- Refusal 5: the list of tests opened, call by call.
use Rattle.rules.specs.Table.{any_of, or_all}
use Rattle.rules.specs.Writing.{pds_faults}
use Rattle.writable.proofs.pds_bad.Goals as goal

pub returns : goal.returns
unfolding any_of or_all pds_faults
returns c = rw c.three.ensures
