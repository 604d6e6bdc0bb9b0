-- By the points that are left from the group on.
use Rattle.laws.proofs.Cursors.{full, rest}
use Rattle.cursor.proofs.group_size.Goals as goal

pub returns-then-left-gt256 : goal.returns-then-left-gt256
returns-then-left-gt256 c = full _ _ c.if-left-gt256.true

pub returns : goal.returns
returns c = rest _ _ c.if-left-gt256.false
