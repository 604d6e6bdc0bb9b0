-- Refused by the message's own rows or by 14, or the entries put; each from the header and one more row.
use Rattle.std.proofs.Common.{◌∙◌}
use native.Mathlib.Omega.{arith}
use Rattle.reply.proofs.Judged.{left_by}
use Rattle.cursor.proofs.Answers as A
use Rattle.cursor.proofs.fill.Goals as goal

pub returns-in_err-h : goal.returns-in_err-h
returns-in_err-h c =
    let t = A.own_unfilled _ _ c.args.index.now _ c.in_err-h.ensures in
    record { value = left_by _ _ c.from_residual.ensures.1 ∙ t.0; index_after = t.1 }

pub returns-in_err-refuse : goal.returns-in_err-refuse
returns-in_err-refuse c =
    let t = A.too_short _ _ c.args.index.now _ c.in_ok-h.ensures _ c.groups_for-groups.ensures _ c.in_err-refuse.ensures in
    record { value = left_by _ _ c.from_residual-in_err-refuse.ensures.1 ∙ t.0; index_after = t.1 }

pub fill_by-requires : goal.fill_by-requires
fill_by-requires c =
    let a = c.args in (
      omega (arith, A.early _ _ _ c.in_ok-h.ensures),
      A.fits _ _ a.index.now _ c.in_ok-h.ensures _ c.groups_for-groups.ensures _ c.in_ok-refuse.ensures,
      A.few _ _ a.index.now _ c.in_ok-h.ensures _ c.groups_for-groups.ensures,
    )

pub overflow_cast-result : goal.overflow_cast-result
overflow_cast-result c =
    let a = c.args in
    omega (arith, A.few _ _ a.index.now _ c.in_ok-h.ensures _ c.groups_for-groups.ensures)

pub returns : goal.returns
returns c =
    let a = c.args in
    let e = c.in_ok-h.ensures in
    let g = c.groups_for-groups.ensures in
    let t = A.all-filled _ _ a.index.now _ e _ g (A.fits _ _ a.index.now _ e _ g _ c.in_ok-refuse.ensures) _ c.fill_by.ensures in
    record { value = t.0; index_after = t.1 }
