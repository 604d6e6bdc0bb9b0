-- By the number of the kind.
use Rattle.records.proofs.Named as N
use Rattle.records.proofs.forms.bitmap_by.Goals as goal

pub returns-then-kind-eq0 : goal.returns-then-kind-eq0
returns-then-kind-eq0 c = N.bitmap-none _ _ c.if-kind-eq0.true

pub returns-then-kind-eq1 : goal.returns-then-kind-eq1
returns-then-kind-eq1 c = N.bitmap-carried _ _ c.if-kind-eq1.true

pub returns-then-kind-eq2 : goal.returns-then-kind-eq2
returns-then-kind-eq2 c = N.bitmap-stored _ _ c.if-kind-eq2.true

pub returns : goal.returns
returns c = N.bitmap-other _ _ c.if-kind-eq0.false c.if-kind-eq1.false c.if-kind-eq2.false
