-- The header: three returns, each one law of Laws over what the calls promise.
use Rattle.std.proofs.Common.{◌∙◌}
use Rattle.reply.proofs.Judged.{left_by}
use Rattle.message.proofs.Laws as L
use Rattle.message.proofs.header.Goals as goal

pub returns-in_err-judge : goal.returns-in_err-judge
returns-in_err-judge c =
    left_by _ _ c.from_residual.ensures.1
    ∙ L.early _ _ _ c.parse-q.ensures _ c.in_err-judge.ensures

pub returns-in_err-refuse : goal.returns-in_err-refuse
returns-in_err-refuse c =
    left_by _ _ c.from_residual-in_err-refuse.ensures.1
    ∙ L.length _ _ _ c.parse-q.ensures _ c.in_ok-judge.ensures _ c.present-m.ensures _ c.length_bad.ensures _ c.in_err-refuse.ensures

pub returns : goal.returns
returns c =
    L.found _ _ _ c.parse-q.ensures _ c.in_ok-judge.ensures _ c.present-m.ensures _ c.length_bad.ensures _ c.in_ok-refuse.ensures _
    c.taken.ensures
