-- The table in the code is the catalogue of the rules.
use Rattle.std.proofs.Common.{◌∙◌, List, ap}
use Rattle.rules.specs.declared.Entry.{Entry}
use Rattle.rules.specs.Grid.{lookup}
use Rattle.catalogue.specs.declared.TheConstants.{CATALOGUE}
use Rattle.catalogue.proofs.Laws.{the_catalogue, looked_up}
use Rattle.catalogue.proofs.catalogued.Goals as goal

pub returns : goal.returns
returns c =
    c.found.ensures ∙ looked_up CATALOGUE c.args.n ∙ ap (λ (es : List Entry). lookup es c.args.n) the_catalogue
