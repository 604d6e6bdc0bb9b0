-- Where points may be absent, what `stray` found.
use Rattle.writable.proofs.lost.Goals as goal

pub returns-then-bitmap : goal.returns-then-bitmap
returns-then-bitmap c = rw c.if-bitmap.true c.stray.ensures
