-- The section out of its groups (law section).
use native.Mathlib.Omega.{arith}
use Prim.Native.Nat.{◌+◌}
use mathlib.Core.List.{[], ◌∷◌, ◌++◌}
use Rattle.rules.specs.declared.Geometry.TheVariants.{Mercator}
use Rattle.rules.specs.Bounds.{long_length}
use Rattle.rules.specs.Numbers.{field}
use Rattle.rules.specs.Columns.{cells_fields}
use Rattle.rules.specs.Grid.{cells_by}
use Rattle.gds_put.specs.Section.{top_fields, cylinder_fields}
use Rattle.gds_put.proofs.Laws.{after, front_of, section, corner_free, mercator_free}
use Rattle.gds_put.proofs.put_mercator.Goals as goal

pub put_front-requires : goal.put_front-requires
put_front-requires c = record {
  g_in_bounds = omega arith;
  sign_free = corner_free c.args.grid (Mercator c.args.x) c.requires.x_value;
}

pub put_cylinder-requires : goal.put_cylinder-requires
put_cylinder-requires c =
    let t = mercator_free c.args.grid _ c.requires.x_value in
    record { g_in_bounds = omega arith; sign_free = t.0; di_bound = t.1 }

pub returns : goal.returns
unfolding cells_fields cells_by
returns c =
    let a = c.args in
    let g = a.grid in
    let x = a.x in
    let own = cylinder_fields x.la2 x.lo2 x.latin g.scan x.di x.dj in
    let begun =
    section a.out.now a.g g long_length 255 1 own _ _ _ (omega (arith, c.requires.long_length_in_bounds)) c.put_top.ensures
    c.put_front.ensures c.put_cylinder.ensures in
    after a.out.now a.g (a.g + 34) (top_fields long_length 255 1 ++ (front_of g ++ own)) (field 8 0 ∷ []) _ _ begun
    (omega arith) (omega (arith, c.requires.long_length_in_bounds)) c.put_eight.ensures
