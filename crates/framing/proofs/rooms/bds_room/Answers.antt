-- A BDS's length: the definition opened, the product within its bound.
use Rattle.framing.specs.Layout.{the_bds_room}
use Rattle.framing.proofs.Lengths.{bits-few}
use native.Mathlib.Omega.{arith}
use Rattle.framing.proofs.rooms.bds_room.Goals as goal

pub overflow_mul-m : goal.overflow_mul-m
overflow_mul-m c = let p = bits-few c.args.bits c.args.m (omega arith) (omega arith) in omega arith

pub overflow_add-m : goal.overflow_add-m
overflow_add-m c = let p = bits-few c.args.bits c.args.m (omega arith) (omega arith) in omega arith

pub overflow_add-m-2 : goal.overflow_add-m-2
overflow_add-m-2 c = let p = bits-few c.args.bits c.args.m (omega arith) (omega arith) in omega arith

pub even-requires : goal.even-requires
even-requires c = let p = bits-few c.args.bits c.args.m (omega arith) (omega arith) in omega arith

pub returns : goal.returns
unfolding the_bds_room
returns c = c.even.ensures
