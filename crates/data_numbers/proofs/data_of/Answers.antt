-- By the bitmap's three kinds, each one law of Laws.
use Rattle.data_numbers.proofs.Laws as L
use Rattle.data_numbers.proofs.data_of.Goals as goal

pub returns-in-Without : goal.returns-in-Without
returns-in-Without c = rw c.in-Without.is (L.by-none _ _ _ _ c.itself.ensures)

pub returns-in-Carried : goal.returns-in-Carried
returns-in-Carried c = rw c.in-Carried.is (L.by-carried _ _ _ _ c.counted.ensures)

pub returns-in-Stored : goal.returns-in-Stored
returns-in-Stored c = rw c.in-Stored.is (L.by-stored _ _ _ _ _ c.counted-in-Stored.ensures)
