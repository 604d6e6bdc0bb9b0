-- The two cases of the test.
use borrow.Author.Tests.{eq-eqb, ne_eqb}
use Rattle.listing.proofs.rows.stop.Goals as goal

pub returns-then-j-n : goal.returns-then-j-n
returns-then-j-n c = rw (eq-eqb _ _ c.if-j-n.true)

pub returns-else-j-n : goal.returns-else-j-n
returns-else-j-n c = rw (ne_eqb _ _ c.if-j-n.false)
