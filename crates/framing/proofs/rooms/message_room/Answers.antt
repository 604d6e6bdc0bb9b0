-- A message's length: its parts' rooms added, each within its bound.
use native.Mathlib.Omega.{arith}
use Rattle.framing.specs.Layout.{front_room, the_message_room}
use Rattle.framing.proofs.Lengths.{gds-few, gds-room, bms-few, bds-few}
use Rattle.framing.proofs.rooms.message_room.Goals as goal

pub overflow_add-result : goal.overflow_add-result
overflow_add-result c =
    let a = c.args in
    let g = gds-few a.form.grid in
    let e = gds-room a.form.grid in
    let b = bms-few a.form.bitmap a.n (omega arith) in
    let d = bds-few a.form.packing.bits a.m (omega arith) (omega arith) in
    omega arith

pub overflow_add-result-2 : goal.overflow_add-result-2
overflow_add-result-2 c =
    let a = c.args in
    let g = gds-few a.form.grid in
    let e = gds-room a.form.grid in
    let b = bms-few a.form.bitmap a.n (omega arith) in
    let d = bds-few a.form.packing.bits a.m (omega arith) (omega arith) in
    omega arith

pub overflow_add-result-3 : goal.overflow_add-result-3
overflow_add-result-3 c =
    let a = c.args in
    let g = gds-few a.form.grid in
    let e = gds-room a.form.grid in
    let b = bms-few a.form.bitmap a.n (omega arith) in
    let d = bds-few a.form.packing.bits a.m (omega arith) (omega arith) in
    omega arith

pub overflow_add-result-4 : goal.overflow_add-result-4
overflow_add-result-4 c =
    let a = c.args in
    let g = gds-few a.form.grid in
    let e = gds-room a.form.grid in
    let b = bms-few a.form.bitmap a.n (omega arith) in
    let d = bds-few a.form.packing.bits a.m (omega arith) (omega arith) in
    omega arith

pub overflow_add-result-5 : goal.overflow_add-result-5
overflow_add-result-5 c =
    let a = c.args in
    let g = gds-few a.form.grid in
    let e = gds-room a.form.grid in
    let b = bms-few a.form.bitmap a.n (omega arith) in
    let d = bds-few a.form.packing.bits a.m (omega arith) (omega arith) in
    omega arith

pub returns : goal.returns
unfolding the_message_room front_room
returns c =
    let e = gds-room c.args.form.grid in
    omega arith
