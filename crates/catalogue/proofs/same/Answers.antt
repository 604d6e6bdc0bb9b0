-- The derived equality answers by value.
use Rattle.std.proofs.Common.{◌∙◌}
use Rattle.catalogue.proofs.Equal.{equal_is}
use Rattle.catalogue.proofs.same.Goals as goal

pub returns : goal.returns
returns c = c.eq.ensures ∙ equal_is _ _
