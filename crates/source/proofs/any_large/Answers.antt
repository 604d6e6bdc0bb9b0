use Rattle.bits.proofs.Below.{any_none}
use Rattle.std.proofs.Common.{rules}
use Rattle.source.proofs.Field.{large-next}
use Rattle.source.proofs.any_large.Goals as goal

pub loop-v-init : goal.loop-v-init
loop-v-init c = any_none _

pub loop-v-preserved : goal.loop-v-preserved
loop-v-preserved c =
    let l = c.loop-v in
    large-next c.args.numbers.now l.v-index (search rules) _ _ l.invariant c.large-far.ensures
