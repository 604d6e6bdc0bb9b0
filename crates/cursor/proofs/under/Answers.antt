-- Refused by the message's own rows or by 24, or what is looked up at the place's point.
use Rattle.std.proofs.Common.{◌∙◌}
use native.Mathlib.Omega.{arith}
use Rattle.reply.proofs.Judged.{left_by}
use Rattle.cursor.proofs.Answers as A
use Rattle.cursor.proofs.under.Goals as goal

pub returns-in_err-h : goal.returns-in_err-h
returns-in_err-h c = left_by _ _ c.from_residual.ensures.1 ∙ A.own _ _ _ _ _ c.in_err-h.ensures

pub look-requires : goal.look-requires
look-requires c =
    let a = c.args in (
      A.at-point _ _ a.index.now _ _ c.in_ok-h.ensures _ c.shape_of.ensures _
          c.point_at-at.ensures _ c.in-Some.is,
      omega (arith, A.early _ _ _ c.in_ok-h.ensures),
    )

pub returns-in-None : goal.returns-in-None
returns-in-None c =
    A.outside _ _ _ _ _ c.in_ok-h.ensures _ c.shape_of.ensures _
    c.point_at-at.ensures c.in-None.is _ c.refusal.ensures

pub returns-in-Some : goal.returns-in-Some
returns-in-Some c =
    A.looked _ _ _ _ _ c.in_ok-h.ensures _ c.shape_of.ensures _
    c.point_at-at.ensures _ c.in-Some.is _ c.look.ensures
