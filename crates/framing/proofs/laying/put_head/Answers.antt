-- What stands before the data, and the last octet cleared (law head_placed), the section's length holding its bits (law
-- bds-held).
use mathlib.Core.Path.{refl}
use native.Mathlib.Omega.{arith}
use Prim.Native.Nat.{◌+◌, ◌-◌, ◌*◌}
use Rattle.rules.specs.Bounds.{bds_head}
use Rattle.framing.proofs.Lengths.{bds-held}
use Rattle.framing.proofs.Sections.{head_placed}
use Rattle.framing.proofs.laying.put_head.Goals as goal

pub overflow_sub-unused : goal.overflow_sub-unused
overflow_sub-unused c = let h = bds-held c.args.packing.bits c.args.m c.requires.bits_le_bits_most c.requires.m_le_points_most in omega arith

pub overflow_mul-unused : goal.overflow_mul-unused
overflow_mul-unused c = let h = bds-held c.args.packing.bits c.args.m c.requires.bits_le_bits_most c.requires.m_le_points_most in omega arith

pub overflow_mul-unused-2 : goal.overflow_mul-unused-2
overflow_mul-unused-2 c = let h = bds-held c.args.packing.bits c.args.m c.requires.bits_le_bits_most c.requires.m_le_points_most in omega arith

pub overflow_sub-unused-2 : goal.overflow_sub-unused-2
overflow_sub-unused-2 c = let h = bds-held c.args.packing.bits c.args.m c.requires.bits_le_bits_most c.requires.m_le_points_most in omega arith

pub overflow_cast-flags : goal.overflow_cast-flags
overflow_cast-flags c = let h = bds-held c.args.packing.bits c.args.m c.requires.bits_le_bits_most c.requires.m_le_points_most in omega arith

pub overflow_add-flags : goal.overflow_add-flags
overflow_add-flags c = let h = bds-held c.args.packing.bits c.args.m c.requires.bits_le_bits_most c.requires.m_le_points_most in omega arith

pub overflow_cast-len : goal.overflow_cast-len
overflow_cast-len c = let h = bds-held c.args.packing.bits c.args.m c.requires.bits_le_bits_most c.requires.m_le_points_most in omega arith

pub put_bds-requires : goal.put_bds-requires
put_bds-requires c = let h = bds-held c.args.packing.bits c.args.m c.requires.bits_le_bits_most c.requires.m_le_points_most in record {
  bds_head_in_bounds = omega arith;
  len_bound = omega arith;
  sign_free = omega arith;
}

pub overflow_sub-len : goal.overflow_sub-len
overflow_sub-len c = let h = bds-held c.args.packing.bits c.args.m c.requires.bits_le_bits_most c.requires.m_le_points_most in omega arith

pub overflow_add-d : goal.overflow_add-d
overflow_add-d c = let h = bds-held c.args.packing.bits c.args.m c.requires.bits_le_bits_most c.requires.m_le_points_most in omega arith

pub returns : goal.returns
returns c =
    let a = c.args in
    let h = bds-held c.args.packing.bits c.args.m c.requires.bits_le_bits_most c.requires.m_le_points_most in
    head_placed a.out.now a.packing a.scale a.d a.m c.bds_room-len.result
    (a.packing.flags * 16 + (8 * (c.bds_room-len.result - bds_head) - a.m * a.packing.bits))
    c.bds_room-len.ensures (omega arith) refl _ _ c.put_bds.auto.out (omega arith) c.put_bds.ensures
    c.put_octet.ensures.out_after
