-- Whether it is stored, as a number.
use Rattle.point_records.proofs.force_record.Goals as goal

pub returns-then-f : goal.returns-then-f
returns-then-f c = rw c.if-f.true

pub returns-else-f : goal.returns-else-f
returns-else-f c = rw c.if-f.false
