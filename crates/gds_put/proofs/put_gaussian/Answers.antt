-- The section out of its groups (law section).
use native.Mathlib.Omega.{arith}
use Rattle.rules.specs.declared.Geometry.TheVariants.{Gaussian}
use Rattle.rules.specs.Bounds.{gds_length}
use Rattle.rules.specs.Columns.{cells_fields}
use Rattle.rules.specs.Grid.{cells_by}
use Rattle.gds_put.specs.Section.{edges_fields}
use Rattle.gds_put.proofs.Laws.{section, corner_free, gaussian_free}
use Rattle.gds_put.proofs.put_gaussian.Goals as goal

pub put_front-requires : goal.put_front-requires
put_front-requires c = record {
  g_in_bounds = omega arith;
  sign_free = corner_free c.args.grid (Gaussian c.args.x) c.requires.x_value;
}

pub put_edges-requires : goal.put_edges-requires
put_edges-requires c = record {
  g_in_bounds = omega arith;
  sign_free = gaussian_free c.args.grid _ c.requires.x_value;
}

pub returns : goal.returns
unfolding cells_fields cells_by
returns c =
    let a = c.args in
    let g = a.grid in
    let x = a.x in
    let own = edges_fields x.la2 x.lo2 x.di x.circles g.scan in
    section a.out.now a.g g gds_length 255 4 own _ _ _ (omega (arith, c.requires.gds_length_in_bounds)) c.put_top.ensures
    c.put_front.ensures c.put_edges.ensures
