-- The enum's three cases: no BMS, one whose bits follow, one of a number.
use native.Mathlib.Omega.{arith}
use lib.ListN.{length}
use Rattle.rules.specs.Bitmap.{mark_of}
use Rattle.framing.proofs.Sections.{map-none, carried-fits, map-carried, stored-fits, map-stored}
use Rattle.framing.proofs.laying.put_bitmap.Goals as goal

pub put_carried-requires : goal.put_carried-requires
put_carried-requires c = record {
  n_le_points_most = omega arith;
  n_in_bounds = (carried-fits c.args.bitmap c.in-Carried.is c.args.b c.args.n
      (length c.args.out.now) c.requires.n_in_bounds);
}

pub put_bms-requires : goal.put_bms-requires
put_bms-requires c = record {
  bms_head_in_bounds = stored-fits c.args.bitmap _ c.in-Stored.is c.args.b c.args.n
      (length c.args.out.now) c.requires.n_in_bounds;
  len_bound = omega arith;
}

pub returns-in-Without : goal.returns-in-Without
returns-in-Without c =
    let a = c.args in
    let r = map-none a.bitmap (mark_of a.marks.now) a.n a.out.now a.b c.in-Without.is in record {
      value = r.0;
      out_after = r.1;
    }

pub returns-in-Carried : goal.returns-in-Carried
returns-in-Carried c =
    let a = c.args in
    let r = map-carried a.bitmap c.in-Carried.is (mark_of a.marks.now) a.n a.out.now _ a.b _ c.carried_room.ensures c.put_carried.ensures in record {
      value = r.0;
      out_after = r.1;
    }

pub returns-in-Stored : goal.returns-in-Stored
returns-in-Stored c =
    let a = c.args in
    let r = map-stored a.bitmap _ c.in-Stored.is (mark_of a.marks.now) a.n a.out.now _ a.b c.put_bms.ensures in record {
      value = r.0;
      out_after = r.1;
    }
