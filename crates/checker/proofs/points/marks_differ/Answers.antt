-- The marks by the kind of the bitmap: the enum's three cases, each a law of Agreement.
use Rattle.checker.proofs.Agreement.{without, carried, stored}
use Rattle.checker.proofs.points.marks_differ.Goals as goal

pub returns-in-Without : goal.returns-in-Without
returns-in-Without c = without _ _ _ _ _ _ c.in-Without.is _ c.all_present.ensures

pub returns-in-Carried : goal.returns-in-Carried
returns-in-Carried c = carried _ _ _ _ _ _ c.in-Carried.is _ c.unlike.ensures

pub returns-in-Stored : goal.returns-in-Stored
returns-in-Stored c = stored _ _ _ _ _ _ _ c.in-Stored.is _ c.unlike-in-Stored.ensures
