-- The answer to a taken message, call by call.
use Rattle.rules.specs.Reading.{found_by, decimal_in}
use Rattle.message.proofs.taken.Goals as goal

pub returns : goal.returns
unfolding found_by decimal_in
returns c = rw (c.scale_at.ensures, c.signed_two.ensures, c.moment_at.ensures)
