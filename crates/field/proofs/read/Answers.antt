-- Reading a field: refused by the message's own rows, by 14, or both lists filled; each from the header and one more
-- row.
use Rattle.std.proofs.Common.{◌∙◌}
use Rattle.reply.proofs.Judged.{left_by, passed_as}
use Rattle.field.proofs.Answers as A
use Rattle.field.proofs.read.Goals as goal

pub returns-in_err-h : goal.returns-in_err-h
returns-in_err-h c =
    let a = c.args in
    let t = A.refused _ _ a.values.now a.marks.now _ c.in_err-h.ensures in
    record { value = left_by _ _ c.from_residual.ensures.1 ∙ t.0; values_after = t.1.0; marks_after = t.1.1 }

pub returns-in_err-refuse : goal.returns-in_err-refuse
returns-in_err-refuse c =
    let a = c.args in
    let t = A.too_short _ _ a.values.now a.marks.now _ c.in_ok-h.ensures _ c.long.ensures _ c.in_err-refuse.ensures in
    record { value = left_by _ _ c.from_residual-in_err-refuse.ensures.1 ∙ t.0; values_after = t.1.0; marks_after = t.1.1 }

pub fill_lists-requires : goal.fill_lists-requires
fill_lists-requires c =
    let a = c.args in
    let e = c.in_ok-h.ensures in
    let r = A.room _ _ a.values.now a.marks.now _ e _ c.long.ensures (passed_as _ _ _ c.in_ok-refuse.ensures) in record {
      bits_bound = A.narrow _ _ a.values.now a.marks.now _ e;
      m_value = A.counted _ _ a.values.now a.marks.now _ e;
      n_in_bounds = A.lies _ _ a.values.now a.marks.now _ e;
      n_in_bounds_2 = r.0;
    }

pub returns : goal.returns
returns c =
    let a = c.args in
    let t =
    A.done _ _ a.values.now a.marks.now _ c.in_ok-h.ensures _ c.long.ensures
    (passed_as _ _ _ c.in_ok-refuse.ensures) _ c.data_place-at.ensures _ _ c.fill_lists.ensures.values_after
    c.fill_lists.ensures.marks_after in record { value = t.0; values_after = t.1.0; marks_after = t.1.1 }
