-- The check: the message's own refusal, or the source judged.
use Rattle.checker.proofs.Stages.{source-judged}
use mir.Facts.{to_z-of_z}
use Rattle.checker.proofs.check.Goals as goal

pub judge-requires : goal.judge-requires
judge-requires c = c.in_ok-h.ensures

pub returns : goal.returns
returns c = source-judged _ _ _ _ _ _ (to_z-of_z c.ranges.d) _ c.in_ok-h.ensures _ c.judge.ensures
