-- How many points are present: the enum's three cases, each by a law of Laws.
use Rattle.bitmap.proofs.Laws.{without, carried, stored}
use Rattle.bitmap.proofs.present.Goals as goal

pub returns-in-Without : goal.returns-in-Without
returns-in-Without c = rw c.in-Without.is (without _ _ _ _)

pub returns-in-Carried : goal.returns-in-Carried
returns-in-Carried c = rw c.in-Carried.is (carried _ _ _ _ _ c.ones.ensures)

pub returns-in-Stored : goal.returns-in-Stored
returns-in-Stored c = rw c.in-Stored.is (stored _ _ _ _ _ _ c.ones-in-Stored.ensures)
