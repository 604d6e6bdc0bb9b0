-- The place n bits on, within 32 bits and past them: the test's two cases.
use borrow.Author.Tests.{le-leb, lt-leb}
use Rattle.bitreader.specs.Taken.{reached}
use Rattle.bitreader.proofs.reached.Goals as goal

pub returns-then-far-le4294967295 : goal.returns-then-far-le4294967295
unfolding reached
returns-then-far-le4294967295 c = simp (le-leb _ _ c.if-far-le4294967295.true)

pub returns : goal.returns
unfolding reached
returns c = simp (lt-leb _ _ c.if-far-le4294967295.false)
