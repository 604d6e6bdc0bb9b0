-- Both counts begin with the octet that the group begins with.
use Rattle.cursor.proofs.Groups.{all_from, before-from}
use Rattle.cursor.proofs.group_at.Goals as goal

pub returns : goal.returns
returns c = (
  all_from _ _ _ _ _ _ c.group_ones.ensures c.group_size.ensures,
  before-from _ _ _ _ c.ones_few.ensures,
  c.bit.ensures,
)
