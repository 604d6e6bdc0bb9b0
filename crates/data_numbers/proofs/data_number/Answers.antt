-- A refused message has no points; else by its bitmap's three kinds, each one law of Laws.
use Rattle.data_numbers.proofs.Laws as L
use Rattle.data_numbers.proofs.data_number.Goals as goal

pub returns-in-Err : goal.returns-in-Err
returns-in-Err c = L.refused _ _ _ c.in-Err.ensures _

pub returns-in-Without : goal.returns-in-Without
returns-in-Without c = L.none _ _ _ c.in-Ok.ensures _ _ c.in-Without.is c.itself.ensures

pub returns-in-Carried : goal.returns-in-Carried
returns-in-Carried c = L.carried _ _ _ c.in-Ok.ensures _ _ c.in-Carried.is c.counted.ensures

pub returns-in-Stored : goal.returns-in-Stored
returns-in-Stored c = L.stored _ _ _ c.in-Ok.ensures _ _ _ c.in-Stored.is c.counted-in-Stored.ensures
