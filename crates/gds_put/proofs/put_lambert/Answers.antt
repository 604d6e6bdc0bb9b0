-- The section out of its groups (law section).
use native.Mathlib.Omega.{arith}
use Prim.Native.Nat.{◌+◌}
use mathlib.Core.List.{◌++◌}
use Rattle.rules.specs.declared.Geometry.TheVariants.{Lambert}
use Rattle.rules.specs.Bounds.{long_length}
use Rattle.rules.specs.Columns.{cells_fields}
use Rattle.rules.specs.Grid.{cells_by}
use Rattle.gds_put.specs.Section.{top_fields, plane_fields, cone_fields}
use Rattle.gds_put.proofs.Laws.{after, front_of, section, corner_free, lambert_free}
use Rattle.gds_put.proofs.put_lambert.Goals as goal

pub put_front-requires : goal.put_front-requires
put_front-requires c = record {
  g_in_bounds = omega arith;
  sign_free = corner_free c.args.grid (Lambert c.args.x) c.requires.x_value;
}

pub put_plane-requires : goal.put_plane-requires
put_plane-requires c = record {
  g_in_bounds = omega arith;
  sign_free = (lambert_free c.args.grid _ c.requires.x_value).0;
}

pub put_cone-requires : goal.put_cone-requires
put_cone-requires c = record {
  long_length_in_bounds = omega arith;
  sign_free = (lambert_free c.args.grid _ c.requires.x_value).1;
}

pub returns : goal.returns
unfolding cells_fields cells_by
returns c =
    let a = c.args in
    let g = a.grid in
    let x = a.x in
    let q = x.plane in
    let own = plane_fields q.lov q.dx q.dy q.centre g.scan in
    let begun =
    section a.out.now a.g g long_length 255 3 own _ _ _ (omega (arith, c.requires.long_length_in_bounds)) c.put_top.ensures
    c.put_front.ensures c.put_plane.ensures in
    after a.out.now a.g (a.g + 28) (top_fields long_length 255 3 ++ (front_of g ++ own)) (cone_fields x.latin1 x.latin2 x.pole_la x.pole_lo) _ _ begun
    (omega arith) (omega (arith, c.requires.long_length_in_bounds)) c.put_cone.ensures
