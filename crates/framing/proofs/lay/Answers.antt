-- Three returns, each one law of Framed; what the parts' bounds leave (law sound-read) for the calls that lay down.
use Rattle.std.proofs.Common.{◌∙◌, ap, length}
use native.Mathlib.Omega.{arith}
use Rattle.framing.specs.Layout.{marked_count, the_message_room}
use Rattle.framing.proofs.Framed as F
use Rattle.framing.proofs.lay.Goals as goal

pub returns-then-pds-n : goal.returns-then-pds-n
returns-then-pds-n c =
    let a = c.args in
    let r = F.refused-parts a.pds.now a.form a.scale a.marks.now a.n a.out.now _ _ c.given_bad.ensures c.scale_bad.ensures c.if-pds-n.true in
    record { value = r.0; out_after = r.1 }

pub message_room-len-requires : goal.message_room-len-requires
unfolding marked_count
message_room-len-requires c =
    let a = c.args in
    let k = F.sound-read a.pds.now a.form a.scale a.marks.now a.n _ _ c.given_bad.ensures c.scale_bad.ensures c.if-pds-n.false in
    record {
      pds_le_pds_most = k.pds-most;
      n_le_points_most = k.few;
      m_le_points_most = F.few-present a.pds.now a.form a.scale a.marks.now a.n k _ c.count-m.ensures;
      bits_le_bits_most = k.bits;
    }

pub returns-then-out-len : goal.returns-then-out-len
unfolding marked_count
returns-then-out-len c =
    let a = c.args in
    let u = F.parts-sound a.pds.now a.form a.scale a.marks.now a.n _ _ c.given_bad.ensures c.scale_bad.ensures c.if-pds-n.false in
    let r = F.refused-room a.pds.now a.form a.scale a.marks.now a.n a.out.now u _ (c.message_room-len.ensures ∙ ap (the_message_room (length a.pds.now) a.form a.n) c.count-m.ensures) c.if-out-len.true in
    record { value = r.0; out_after = r.1 }

pub overflow_cast-len : goal.overflow_cast-len
unfolding marked_count
overflow_cast-len c =
    let a = c.args in
    let k = F.sound-read a.pds.now a.form a.scale a.marks.now a.n _ _ c.given_bad.ensures c.scale_bad.ensures c.if-pds-n.false in
    omega (arith, F.small a.pds.now a.form a.scale a.marks.now a.n k _ c.count-m.ensures _ c.message_room-len.ensures)

pub lay_front-d-requires : goal.lay_front-d-requires
unfolding marked_count the_message_room
lay_front-d-requires c =
    let a = c.args in
    let k = F.sound-read a.pds.now a.form a.scale a.marks.now a.n _ _ c.given_bad.ensures c.scale_bad.ensures c.if-pds-n.false in
    record {
      n_le_points_most = k.few;
      len_bound = omega (arith, F.small a.pds.now a.form a.scale a.marks.now a.n k _ c.count-m.ensures _ c.message_room-len.ensures);
      n_in_bounds = omega (arith, c.message_room-len.ensures, c.if-out-len.false);
      grid_value = k.given;
    }

pub put_head-requires : goal.put_head-requires
unfolding marked_count the_message_room
put_head-requires c =
    let a = c.args in
    let k = F.sound-read a.pds.now a.form a.scale a.marks.now a.n _ _ c.given_bad.ensures c.scale_bad.ensures c.if-pds-n.false in
    record {
      bits_le_bits_most = k.bits;
      flags_bound = k.flags;
      sign_free = k.e;
      m_le_points_most = F.few-present a.pds.now a.form a.scale a.marks.now a.n k _ c.count-m.ensures;
      m_in_bounds = omega
          (arith, c.message_room-len.ensures, c.if-out-len.false, c.lay_front-d.ensures.value, c.lay_front-d.auto);
    }

pub overflow_add-result : goal.overflow_add-result
unfolding marked_count the_message_room
overflow_add-result c =
    let a = c.args in
    let k = F.sound-read a.pds.now a.form a.scale a.marks.now a.n _ _ c.given_bad.ensures c.scale_bad.ensures c.if-pds-n.false in
    omega (
      arith,
      F.small a.pds.now a.form a.scale a.marks.now a.n k _ c.count-m.ensures _ c.message_room-len.ensures,
      c.message_room-len.ensures,
      c.lay_front-d.ensures.value,
    )

pub overflow_cast-result : goal.overflow_cast-result
unfolding marked_count
overflow_cast-result c =
    let a = c.args in
    let k = F.sound-read a.pds.now a.form a.scale a.marks.now a.n _ _ c.given_bad.ensures c.scale_bad.ensures c.if-pds-n.false in
    omega (arith, F.small a.pds.now a.form a.scale a.marks.now a.n k _ c.count-m.ensures _ c.message_room-len.ensures)

pub returns : goal.returns
unfolding marked_count
returns c =
    let a = c.args in
    let u = F.parts-sound a.pds.now a.form a.scale a.marks.now a.n _ _ c.given_bad.ensures c.scale_bad.ensures c.if-pds-n.false in
    let r = F.laid-down a.pds.now a.form a.scale a.marks.now a.n a.out.now u _ c.count-m.ensures _ c.message_room-len.ensures c.if-out-len.false _ c.lay_front-d.ensures.value _ c.lay_front-d.ensures.out_after _ c.put_head.ensures in
    record { value = r.0; out_after = r.1 }
