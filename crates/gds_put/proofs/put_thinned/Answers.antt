-- The section out of its groups (law section).
use native.Mathlib.Omega.{arith}
use Prim.Native.Nat.{◌+◌}
use mathlib.Core.List.{◌++◌}
use mathlib.Core.Path.{ap, ◌∙◌}
use Rattle.bits.specs.Bits.{placed}
use Rattle.rules.specs.declared.Geometry.TheVariants.{Thinned}
use Rattle.rules.specs.Bounds.{thinned_length, octant_rows}
use Rattle.rules.specs.Columns.{cells_fields}
use Rattle.rules.specs.Grid.{cells_by}
use Rattle.gds_put.specs.Section.{top_fields, edges_fields, count_fields}
use Rattle.gds_put.proofs.Laws.{after, front_of, section, corner_free, thinned_free, counts-wide, thinned_laid}
use Rattle.gds_put.proofs.put_thinned.Goals as goal

pub put_front-requires : goal.put_front-requires
put_front-requires c = record {
  g_in_bounds = omega arith;
  sign_free = corner_free c.args.grid (Thinned c.args.o) c.requires.o_value;
}

pub put_edges-requires : goal.put_edges-requires
put_edges-requires c = record {
  g_in_bounds = omega arith;
  sign_free = thinned_free c.args.grid _ c.requires.o_value;
}

pub returns : goal.returns
unfolding cells_fields cells_by
returns c =
    let a = c.args in
    let g = a.grid in
    let o = a.o in
    let x = o.edges in
    let own = edges_fields x.la2 x.lo2 x.di x.dj g.scan in
    let begun =
    section a.out.now a.g g thinned_length 33 0 own _ _ _ (omega (arith, c.requires.thinned_length_in_bounds)) c.put_top.ensures
    c.put_front.ensures c.put_edges.ensures in
    after a.out.now a.g (a.g + 32) (top_fields thinned_length 33 0 ++ (front_of g ++ own)) (count_fields o.start octant_rows) _ _ begun
    (omega arith) (omega (arith, c.requires.thinned_length_in_bounds, counts-wide o.start octant_rows 0)) c.put_counts.ensures ∙ ap (placed a.out.now a.g) (thinned_laid g o)
