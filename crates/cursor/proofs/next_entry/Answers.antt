-- By the test whether a group follows.
use Rattle.cursor.proofs.Groups.{next-inside, next_last}
use Rattle.cursor.proofs.next_entry.Goals as goal

pub returns-then-next-groups_for : goal.returns-then-next-groups_for
returns-then-next-groups_for c =
    next-inside _ _ _ _ _ c.groups_for.ensures c.if-next-groups_for.true _ c.entry.ensures

pub returns : goal.returns
returns c = next_last _ _ _ _ _ c.groups_for.ensures c.if-next-groups_for.false
