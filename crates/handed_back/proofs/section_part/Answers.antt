-- Which part a section is: none, an empty one or the section, each by a law of Laws.
use Rattle.handed_back.proofs.Laws as L
use Rattle.handed_back.proofs.section_part.Goals as goal

pub returns-in-Err : goal.returns-in-Err
returns-in-Err c = L.no _ _ _ c.in-Err.ensures _

pub nth-p-requires : goal.nth-p-requires
nth-p-requires c = L.room _ _ _ c.in-Ok.ensures

pub returns-then-p-eq0 : goal.returns-then-p-eq0
returns-then-p-eq0 c = L.empty _ _ _ c.in-Ok.ensures _ _ c.nth-p.ensures c.if-p-eq0.true

pub returns-else-p-eq0 : goal.returns-else-p-eq0
returns-else-p-eq0 c = L.given _ _ _ c.in-Ok.ensures _ _ c.nth-p.ensures c.if-p-eq0.false
