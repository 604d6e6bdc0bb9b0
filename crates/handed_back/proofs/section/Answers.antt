-- A section as a part of its message, in which it lies.
use Rattle.handed_back.proofs.Laws as L
use Rattle.handed_back.proofs.section.Goals as goal

pub cut-requires : goal.cut-requires
cut-requires c = L.section-fits _ _ _ _ c.section_part-p.ensures

pub returns : goal.returns
returns c = L.moved _ _ _ _ c.cut.ensures c.section_part-p.ensures
