-- Refusal 1: the definition opened is the code's own line.
use Rattle.rules.specs.Places.{the_size_bad}
use borrow.Author.Rules.{rules}
use Rattle.layout.proofs.size_bad.Goals as goal

pub returns : goal.returns
unfolding the_size_bad
returns c = search rules
