use native.Mathlib.Omega.{arith}
use Rattle.gds.proofs.Laws.{compared_next, compared_apart, compared_all}
use Rattle.gds.proofs.counts_are.Goals as goal

pub returns-then-two-count : goal.returns-then-two-count
returns-then-two-count c =
    compared_apart _ _ _ _ c.requires c.loop-i.invariant _ _ c.loop-i-test.true c.two.ensures c.count.ensures
    c.if-two-count.true

pub loop-i-preserved : goal.loop-i-preserved
loop-i-preserved c =
    compared_next _ _ _ _ c.requires c.loop-i.invariant _ _ c.loop-i-test.true c.two.ensures c.count.ensures
    c.if-two-count.false

pub returns : goal.returns
returns c = compared_all _ _ _ _ c.requires c.loop-i.invariant (omega arith)
