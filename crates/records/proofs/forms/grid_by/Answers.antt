-- By the number of the kind.
use Rattle.records.proofs.Named as N
use Rattle.records.proofs.forms.grid_by.Goals as goal

pub returns-then-kind-eq0 : goal.returns-then-kind-eq0
returns-then-kind-eq0 c = N.grid-none _ _ c.if-kind-eq0.true

pub returns-then-kind-eq1 : goal.returns-then-kind-eq1
returns-then-kind-eq1 c = N.grid-given _ _ c.if-kind-eq1.true _ c.grid_back.ensures

pub returns : goal.returns
returns c = N.grid-other _ _ c.if-kind-eq0.false c.if-kind-eq1.false _ c.the_grid.ensures
