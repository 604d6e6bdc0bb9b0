use Rattle.std.proofs.Common.{◌≡◌, ◌∙◌, arith, get_or, length}
use Rattle.widths.specs.Below.{all_below}
use Rattle.widths.proofs.Lists.{below_none, below_turn}
use Rattle.widths.proofs.all_below.Goals as goal

pub loop-v-init : goal.loop-v-init
loop-v-init c = below_none c.args.n _

pub loop-v-preserved : goal.loop-v-preserved
loop-v-preserved c =
    let l = c.loop-v in
    let a = c.args in
    below_turn a.n (λ k. get_or a.vs.now k 0) l.v-index l.all l.invariant

pub returns : goal.returns
unfolding all_below
returns c =
    let e : c.loop-v.v-index ≡ length c.args.vs.now = omega arith in
    rw (← e) (c.below.ensures ∙ c.loop-v.invariant)
