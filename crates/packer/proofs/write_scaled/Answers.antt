-- The writer's table over the list of X: three returns, each one law of Message over what the calls promise, the rows
-- by the marks alone being those of the list (law as-listed), and the room that what is laid down leaves for the
-- values (law room_of).
use Rattle.std.proofs.Common.{ℕ, ◌-◌, ◌∙◌, sym, ap, length}
use Rattle.std.specs.Prelude.{Err}
use native.Mathlib.Omega.{arith}
use lib.ListN.{take, drop}
use Rattle.bits.specs.Bits.{count, packed_into}
use Rattle.rules.specs.Bitmap.{mark_of, value_of}
use Rattle.rules.specs.Points.{gathered}
use Rattle.reply.proofs.Judged.{left_by}
use Rattle.framing.proofs.Placing.{part_length}
use Rattle.framing.proofs.Message as M
use Rattle.packer.specs.Scaled.{scaled_from}
use Rattle.packer.proofs.Stepped.{length-scaled, as-listed}
use Rattle.packer.proofs.write_scaled.Goals as goal

pub returns-in_err-judge_marks : goal.returns-in_err-judge_marks
returns-in_err-judge_marks c =
    let a = c.args in
    let xs = scaled_from a.numbers.now a.marks.now a.choice.reference a.choice.exponent in
    let j = as-listed a.pds.now a.form a.scale _ a.numbers.now a.marks.now a.choice.reference a.choice.exponent c.requires _ _ _ c.in_err-judge_marks.ensures in
    let r = M.refused-early a.pds.now a.form a.scale a.number a.store.now xs a.marks.now a.out.now _ c.grid_from-found.ensures _ c.the_grid.ensures _ c.points-n.ensures _ j in
    record { value = left_by _ _ c.from_residual.ensures.1 ∙ r.0; out_after = r.1 }

pub returns-in_default : goal.returns-in_default
returns-in_default c =
    let a = c.args in
    let xs = scaled_from a.numbers.now a.marks.now a.choice.reference a.choice.exponent in
    let j = as-listed a.pds.now a.form a.scale _ a.numbers.now a.marks.now a.choice.reference a.choice.exponent c.requires _ _ _ c.in_ok-judge_marks.ensures in
    let r = M.refused-late a.pds.now a.form a.scale a.number a.store.now xs a.marks.now a.out.now _ c.grid_from-found.ensures _ c.the_grid.ensures _ c.points-n.ensures _ j c.in_default.ensures.value _ c.in_default.ensures.out_after in
    record { value = ap Err c.refusal.ensures ∙ r.0; out_after = r.1 }

pub overflow_sub-end : goal.overflow_sub-end
overflow_sub-end c =
    let a = c.args in
    let xs = scaled_from a.numbers.now a.marks.now a.choice.reference a.choice.exponent in
    let j = as-listed a.pds.now a.form a.scale _ a.numbers.now a.marks.now a.choice.reference a.choice.exponent c.requires _ _ _ c.in_ok-judge_marks.ensures in
    let q = M.room_of a.pds.now a.form a.scale a.number a.store.now xs a.marks.now a.out.now _ c.grid_from-found.ensures _ c.the_grid.ensures _ c.points-n.ensures _ j _ c.in-Some.ensures.value in
    omega (arith, q.end)

pub slice_bounds-put_scaled-count : goal.slice_bounds-put_scaled-count
slice_bounds-put_scaled-count c =
    let a = c.args in
    let xs = scaled_from a.numbers.now a.marks.now a.choice.reference a.choice.exponent in
    let j = as-listed a.pds.now a.form a.scale _ a.numbers.now a.marks.now a.choice.reference a.choice.exponent c.requires _ _ _ c.in_ok-judge_marks.ensures in
    let q = M.room_of a.pds.now a.form a.scale a.number a.store.now xs a.marks.now a.out.now _ c.grid_from-found.ensures _ c.the_grid.ensures _ c.points-n.ensures _ j _ c.in-Some.ensures.value in
    omega (arith, q.start, c.lay.auto.out)

pub slice_bounds-put_scaled-start : goal.slice_bounds-put_scaled-start
slice_bounds-put_scaled-start c =
    let a = c.args in
    let xs = scaled_from a.numbers.now a.marks.now a.choice.reference a.choice.exponent in
    let j = as-listed a.pds.now a.form a.scale _ a.numbers.now a.marks.now a.choice.reference a.choice.exponent c.requires _ _ _ c.in_ok-judge_marks.ensures in
    let q = M.room_of a.pds.now a.form a.scale a.number a.store.now xs a.marks.now a.out.now _ c.grid_from-found.ensures _ c.the_grid.ensures _ c.points-n.ensures _ j _ c.in-Some.ensures.value in
    omega (arith, q.start, c.lay.auto.out)

pub put_scaled-requires : goal.put_scaled-requires
put_scaled-requires c =
    let a = c.args in
    let xs = scaled_from a.numbers.now a.marks.now a.choice.reference a.choice.exponent in
    let j = as-listed a.pds.now a.form a.scale _ a.numbers.now a.marks.now a.choice.reference a.choice.exponent c.requires _ _ _ c.in_ok-judge_marks.ensures in
    let q = M.room_of a.pds.now a.form a.scale a.number a.store.now xs a.marks.now a.out.now _ c.grid_from-found.ensures _ c.the_grid.ensures _ c.points-n.ensures _ j _ c.in-Some.ensures.value in
    record {
      bits_le_bits_most = q.bits;
      listed = c.requires;
      m_value = q.present ∙ ap (count (mark_of a.marks.now) 0) (length-scaled a.numbers.now a.marks.now a.choice.reference a.choice.exponent);
      bits_in_bounds = omega (arith, q.data_room, c.lay.auto.out, part_length c.lay.new.out c.in-Some.frame.at);
    }

pub returns : goal.returns
returns c =
    let a = c.args in
    let xs = scaled_from a.numbers.now a.marks.now a.choice.reference a.choice.exponent in
    let j = as-listed a.pds.now a.form a.scale _ a.numbers.now a.marks.now a.choice.reference a.choice.exponent c.requires _ _ _ c.in_ok-judge_marks.ensures in
    let o = c.lay.new.out in
    let at = c.in-Some.frame.at in
    let put = c.put_scaled.ensures ∙ ap (λ (x : ℕ). packed_into a.form.packing.bits (gathered (mark_of a.marks.now) (value_of xs) x) (take (length o - at) (drop at o))) (sym (length-scaled a.numbers.now a.marks.now a.choice.reference a.choice.exponent)) in
    let r = M.written a.pds.now a.form a.scale a.number a.store.now xs a.marks.now a.out.now _ c.grid_from-found.ensures _ c.the_grid.ensures _ c.points-n.ensures _ j _ c.in-Some.ensures.value _ c.in-Some.ensures.out_after _ put _ c.put_four.ensures.out_after in
    record { value = r.0; out_after = r.1 }
