-- Two fields read, call by call.
use Rattle.rules.specs.Values.{scale_at}
use Rattle.data_section.proofs.scale_at.Goals as goal

pub returns : goal.returns
unfolding scale_at
returns c = rw (c.four.ensures, c.signed_two.ensures)
