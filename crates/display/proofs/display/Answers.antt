-- Refused by the message's own rows, by 16, or shown: three returns, each one law of Laws.
use Rattle.std.proofs.Common.{◌∙◌}
use Rattle.reply.proofs.Judged.{left_by, passed_as}
use Rattle.display.proofs.Laws as L
use Rattle.display.proofs.display.Goals as goal

pub returns-in_err-h : goal.returns-in_err-h
returns-in_err-h c = left_by _ _ c.from_residual.ensures.1 ∙ L.early _ _ _ c.in_err-h.ensures

pub returns-in_err-refuse : goal.returns-in_err-refuse
returns-in_err-refuse c =
    left_by _ _ c.from_residual-in_err-refuse.ensures.1
    ∙ L.late _ _ _ c.in_ok-h.ensures _ c.beyond.ensures _ c.in_err-refuse.ensures

pub shown-requires : goal.shown-requires
shown-requires c =
    L.in_range c.in_ok-h.h.scale _ c.beyond.ensures (passed_as _ _ _ c.in_ok-refuse.ensures)

pub returns : goal.returns
returns c = L.found _ _ _ c.in_ok-h.ensures _ c.beyond.ensures _ c.in_ok-refuse.ensures _ c.shown.ensures
