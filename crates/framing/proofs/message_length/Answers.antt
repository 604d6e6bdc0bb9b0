-- Two returns, each one law of Foretold over what the calls promise; what the rows but 14 leave (law length-sound)
-- keeps the rooms within their bounds.
use Rattle.std.proofs.Common.{◌∙◌}
use native.Mathlib.Omega.{arith}
use Rattle.reply.proofs.Judged.{left_by}
use Rattle.framing.specs.Layout.{marked_count}
use Rattle.framing.proofs.Framed as F
use Rattle.framing.proofs.Foretold as L
use Rattle.framing.proofs.message_length.Goals as goal

pub returns-in_err-judge_marks : goal.returns-in_err-judge_marks
returns-in_err-judge_marks c =
    let a = c.args in
    left_by _ _ c.from_residual.ensures.1
    ∙ L.length-refused a.pds.now a.form _ (L.unscaled _ c.plain.ensures) a.number a.store.now a.marks.now _ c.grid_from-found.ensures _ c.the_grid.ensures _ c.points-n.ensures _ c.in_err-judge_marks.ensures

pub message_room-requires : goal.message_room-requires
unfolding marked_count
message_room-requires c =
    let a = c.args in
    let k = L.length-sound a.pds.now a.form _ (L.unscaled _ c.plain.ensures) a.number a.store.now a.marks.now _ c.grid_from-found.ensures _ c.the_grid.ensures _ c.points-n.ensures _ c.in_ok-judge_marks.ensures in
    record {
      pds_le_pds_most = k.pds-most;
      n_le_points_most = k.few;
      m_le_points_most = F.few-present _ _ _ _ _ k _ c.count-m.ensures;
      bits_le_bits_most = k.bits;
    }

pub overflow_cast-result : goal.overflow_cast-result
unfolding marked_count
overflow_cast-result c =
    let a = c.args in
    let k = L.length-sound a.pds.now a.form _ (L.unscaled _ c.plain.ensures) a.number a.store.now a.marks.now _ c.grid_from-found.ensures _ c.the_grid.ensures _ c.points-n.ensures _ c.in_ok-judge_marks.ensures in
    omega (arith, F.small a.pds.now a.form _ a.marks.now _ k _ c.count-m.ensures _ c.message_room.ensures)

pub returns : goal.returns
unfolding marked_count
returns c =
    let a = c.args in
    L.length_taken a.pds.now a.form _ (L.unscaled _ c.plain.ensures) a.number a.store.now a.marks.now _ c.grid_from-found.ensures _ c.the_grid.ensures _ c.points-n.ensures _ c.in_ok-judge_marks.ensures _ c.count-m.ensures _ c.message_room.ensures
