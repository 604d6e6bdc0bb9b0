-- Refusal 10: the enum's three cases.
use Rattle.rules.specs.Table.{any_of}
use Rattle.rules.specs.Bitmap.{bitmap_faults}
use Rattle.bitmap.proofs.bitmap_bad.Goals as goal

pub returns-in-Without : goal.returns-in-Without
unfolding any_of bitmap_faults
returns-in-Without c = rw c.in-Without.is

pub returns-in-Carried : goal.returns-in-Carried
unfolding bitmap_faults
returns-in-Carried c = rw c.in-Carried.is c.carried_bad.ensures

pub returns-in-Stored : goal.returns-in-Stored
unfolding bitmap_faults
returns-in-Stored c = rw c.in-Stored.is c.stored_bad.ensures
