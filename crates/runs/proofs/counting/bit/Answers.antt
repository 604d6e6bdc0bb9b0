-- A bit taken out of its octet, by the law bit_at.
use Rattle.runs.proofs.Tallies.{bit_at}
use Rattle.runs.proofs.counting.bit.Goals as goal

pub returns : goal.returns
returns c = bit_at _ _ _ _ c.at.ensures
