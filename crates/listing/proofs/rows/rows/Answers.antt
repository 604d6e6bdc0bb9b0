use native.Mathlib.Omega.{arith}
use Prim.Native.Nat.{◌-◌}
use mathlib.Core.Path.{◌≡◌, refl}
use Rattle.rules.specs.Chart.{the_rows_on}
use Rattle.rules.specs.Listing.{joined_to}
use Rattle.listing.proofs.Writes.{wrote_none, wrote_part}
use Rattle.listing.proofs.Cells.{row-most, rows-most, row_room, rows-room, rows-done}
use Rattle.listing.proofs.rows.rows.Goals as goal

pub loop-r-init : goal.loop-r-init
unfolding joined_to
loop-r-init c = wrote_none _ _

pub row-next-requires : goal.row-next-requires
row-next-requires c =
    let l = c.loop-r in
    let a = c.args in
    let m = rows-most a.values.now a.marks.now a.g l.r in
    let h = row_room a.g l.r (omega arith) in record {
      r_in_bounds = omega arith;
      r_bound = omega arith;
      g_in_bounds = omega arith;
    }

pub loop-r-preserved : goal.loop-r-preserved
loop-r-preserved c =
    let l = c.loop-r in
    let a = c.args in
    let m = rows-most a.values.now a.marks.now a.g l.r in
    let n = row-most a.values.now a.marks.now a.g l.r in
    let h = row_room a.g l.r (omega arith) in
    wrote_part _ l.r l.invariant c.row-next.ensures (omega arith)

pub returns : goal.returns
returns c =
    let a = c.args in
    let e : c.loop-r.r ≡ the_rows_on a.g = omega arith in
    let m = rows-most a.values.now a.marks.now a.g c.loop-r.r in
    let h = rows-room a.g c.loop-r.r e in
    (rows-done _ _ _ _ a.values.now a.marks.now a.g _ e c.loop-r.invariant, omega arith)
