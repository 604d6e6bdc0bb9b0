-- Which part the bitmap in force is, by the bitmap's three kinds, each by a law of Laws.
use Rattle.handed_back.proofs.Laws as L
use native.Mathlib.Omega.{arith}
use Rattle.handed_back.proofs.force_part.Goals as goal

pub returns-in-Err : goal.returns-in-Err
returns-in-Err c = L.no-force _ _ _ c.in-Err.ensures

pub overflow_add-result : goal.overflow_add-result
overflow_add-result c = omega (arith, L.start-room _ _ _ c.in-Ok.ensures)

pub returns-in-Without : goal.returns-in-Without
returns-in-Without c = L.by-none _ _ _ c.in-Ok.ensures c.in-Without.is

pub returns-in-Carried : goal.returns-in-Carried
returns-in-Carried c = L.by-carried _ _ _ c.in-Ok.ensures c.in-Carried.is

pub returns-in-Stored : goal.returns-in-Stored
returns-in-Stored c = L.by-stored _ _ _ c.in-Ok.ensures _ c.in-Stored.is
