-- By the definition.
use Rattle.rules.specs.Cursor.{the_groups_for}
use borrow.Author.Rules.{rules}
use Rattle.cursor.proofs.groups_for.Goals as goal

pub returns : goal.returns
unfolding the_groups_for
returns c = search rules
