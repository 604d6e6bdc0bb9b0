-- R is read back.
use borrow.Author.Rules.{rules}
use Rattle.bits.proofs.Below.{any_none}
use Rattle.checker.proofs.Far.{few-next}
use Rattle.checker.proofs.points.few_far.Goals as goal

pub loop-j-init : goal.loop-j-init
loop-j-init c = any_none _

pub loop-j-preserved : goal.loop-j-preserved
loop-j-preserved c =
    let l = c.loop-j in
    let a = c.args in
    few-next a.numbers.now a.held.now _ a.e l.j (search rules) _ _ l.invariant c.far-out.ensures
