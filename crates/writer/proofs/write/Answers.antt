-- The writer meets its table: three returns, each one law of Message over what the calls promise, and the room that
-- what is laid down leaves for the values (law room_of).
use Rattle.std.proofs.Common.{◌∙◌}
use Rattle.std.specs.Prelude.{Err}
use native.Mathlib.Omega.{arith}
use mathlib.Core.Path.{ap}
use Rattle.reply.proofs.Judged.{left_by}
use Rattle.framing.proofs.Placing.{part_length}
use Rattle.framing.proofs.Message as M
use Rattle.writer.proofs.write.Goals as goal

pub returns-in_err-judge : goal.returns-in_err-judge
returns-in_err-judge c =
    let a = c.args in
    let r = M.refused-early a.pds.now a.form a.scale a.number a.store.now a.values.now a.marks.now a.out.now _ c.grid_from-found.ensures _ c.the_grid.ensures _ c.points-n.ensures _ c.in_err-judge.ensures in
    record { value = left_by _ _ c.from_residual.ensures.1 ∙ r.0; out_after = r.1 }

pub returns-in_default : goal.returns-in_default
returns-in_default c =
    let a = c.args in
    let r = M.refused-late a.pds.now a.form a.scale a.number a.store.now a.values.now a.marks.now a.out.now _ c.grid_from-found.ensures _ c.the_grid.ensures _ c.points-n.ensures _ c.in_ok-judge.ensures c.in_default.ensures.value _ c.in_default.ensures.out_after in
    record { value = ap Err c.refusal.ensures ∙ r.0; out_after = r.1 }

pub overflow_sub-end : goal.overflow_sub-end
overflow_sub-end c =
    let a = c.args in
    let q = M.room_of a.pds.now a.form a.scale a.number a.store.now a.values.now a.marks.now a.out.now _ c.grid_from-found.ensures _ c.the_grid.ensures _ c.points-n.ensures _ c.in_ok-judge.ensures _ c.in-Some.ensures.value in
    omega (arith, q.end)

pub slice_bounds-put_values-count : goal.slice_bounds-put_values-count
slice_bounds-put_values-count c =
    let a = c.args in
    let q = M.room_of a.pds.now a.form a.scale a.number a.store.now a.values.now a.marks.now a.out.now _ c.grid_from-found.ensures _ c.the_grid.ensures _ c.points-n.ensures _ c.in_ok-judge.ensures _ c.in-Some.ensures.value in
    omega (arith, q.start, c.lay.auto.out)

pub slice_bounds-put_values-start : goal.slice_bounds-put_values-start
slice_bounds-put_values-start c =
    let a = c.args in
    let q = M.room_of a.pds.now a.form a.scale a.number a.store.now a.values.now a.marks.now a.out.now _ c.grid_from-found.ensures _ c.the_grid.ensures _ c.points-n.ensures _ c.in_ok-judge.ensures _ c.in-Some.ensures.value in
    omega (arith, q.start, c.lay.auto.out)

pub put_values-requires : goal.put_values-requires
put_values-requires c =
    let a = c.args in
    let q = M.room_of a.pds.now a.form a.scale a.number a.store.now a.values.now a.marks.now a.out.now _ c.grid_from-found.ensures _ c.the_grid.ensures _ c.points-n.ensures _ c.in_ok-judge.ensures _ c.in-Some.ensures.value in
    record {
      bits_le_bits_most = q.bits;
      listed = q.listed;
      m_value = q.present;
      bits_in_bounds = omega (arith, q.data_room, c.lay.auto.out, part_length c.lay.new.out c.in-Some.frame.at);
    }

pub returns : goal.returns
returns c =
    let a = c.args in
    let r = M.written a.pds.now a.form a.scale a.number a.store.now a.values.now a.marks.now a.out.now _ c.grid_from-found.ensures _ c.the_grid.ensures _ c.points-n.ensures _ c.in_ok-judge.ensures _ c.in-Some.ensures.value _ c.in-Some.ensures.out_after _ c.put_values.ensures _ c.put_four.ensures.out_after in
    record { value = r.0; out_after = r.1 }
