-- The section out of its groups (law section).
use native.Mathlib.Omega.{arith}
use Prim.Native.Nat.{◌+◌}
use mathlib.Core.List.{[], ◌∷◌, ◌++◌}
use Rattle.rules.specs.declared.Geometry.TheVariants.{Polar}
use Rattle.rules.specs.Bounds.{gds_length}
use Rattle.rules.specs.Numbers.{field}
use Rattle.rules.specs.Columns.{cells_fields}
use Rattle.rules.specs.Grid.{cells_by}
use Rattle.gds_put.specs.Section.{top_fields, plane_fields}
use Rattle.gds_put.proofs.Laws.{after, front_of, section, corner_free, polar_free}
use Rattle.gds_put.proofs.put_polar.Goals as goal

pub put_front-requires : goal.put_front-requires
put_front-requires c = record {
  g_in_bounds = omega arith;
  sign_free = corner_free c.args.grid (Polar c.args.x) c.requires.x_value;
}

pub put_plane-requires : goal.put_plane-requires
put_plane-requires c = record {
  g_in_bounds = omega arith;
  sign_free = polar_free c.args.grid _ c.requires.x_value;
}

pub returns : goal.returns
unfolding cells_fields cells_by
returns c =
    let a = c.args in
    let g = a.grid in
    let x = a.x in
    let own = plane_fields x.lov x.dx x.dy x.centre g.scan in
    let begun =
    section a.out.now a.g g gds_length 255 5 own _ _ _ (omega (arith, c.requires.gds_length_in_bounds)) c.put_top.ensures
    c.put_front.ensures c.put_plane.ensures in
    after a.out.now a.g (a.g + 28) (top_fields gds_length 255 5 ++ (front_of g ++ own)) (field 4 0 ∷ []) _ _ begun
    (omega arith) (omega (arith, c.requires.gds_length_in_bounds)) c.put_reserved.ensures
