-- The three tests, of the entry, of the next one and of the groups.
use Rattle.cursor.proofs.Groups.{faults_are}
use Rattle.cursor.proofs.index_bad.Goals as goal

pub returns : goal.returns
returns c =
    faults_are _ _ _ _ _ _ _ _ c.groups_for.ensures c.entry.ensures c.next_entry.ensures
