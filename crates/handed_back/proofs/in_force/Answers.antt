-- The bitmap in force as a part of the store or of the message, in which it lies.
use Rattle.handed_back.proofs.Laws as L
use Rattle.handed_back.proofs.in_force.Goals as goal

pub cut-requires : goal.cut-requires
cut-requires c =
    L.store_fits _ _ _ c.force_part-f.ensures c.if-f.true

pub returns-then-f : goal.returns-then-f
returns-then-f c =
    L.of_store _ _ _ c.force_part-f.ensures _ _ _
    c.if-f.true c.cut.ensures

pub cut-requires-2 : goal.cut-requires-2
cut-requires-2 c =
    L.message-fits _ _ _ c.force_part-f.ensures c.if-f.false

pub returns : goal.returns
returns c =
    L.of-message _ _ _ c.force_part-f.ensures _ _ _
    c.if-f.false c.cut-2.ensures
