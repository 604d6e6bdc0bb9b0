-- The rows after document 01's are the octants.
use Rattle.std.proofs.Common.{◌∙◌, List, ap, drop}
use Rattle.rules.specs.declared.Entry.{Entry}
use Rattle.rules.specs.Grid.{like_one}
use Rattle.catalogue.specs.declared.TheConstants.{CATALOGUE}
use Rattle.catalogue.proofs.Laws.{the_octants, liked}
use Rattle.catalogue.proofs.is_octant.Goals as goal

pub returns : goal.returns
returns c =
    c.like_any.ensures ∙ liked (drop 7 CATALOGUE) c.args.g
    ∙ ap (λ (es : List Entry). like_one es c.args.g) the_octants
