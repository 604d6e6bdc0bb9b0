-- Refusal 3: one octet, call by call.
use Rattle.rules.specs.Places.{the_edition_bad}
use Rattle.layout.proofs.edition_bad.Goals as goal

pub returns : goal.returns
unfolding the_edition_bad
returns c = rw c.octet.ensures
