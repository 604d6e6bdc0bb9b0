-- A grid that is given fits; where none is given nothing is put.
use Rattle.std.proofs.Common.{arith}
use Rattle.std.proofs.lemmas.Grind.{common_steps}
use Rattle.bits.proofs.Placing.{placed-none}
use Rattle.laws.proofs.Lengths.{gds-length}
use Rattle.gds_put.specs.Section.{the_found_holds, gds_fits, the_gds_put}
use Rattle.gds_put.proofs.put_gds.Goals as goal

pub put_kind-requires-clause-grid_in_bounds : goal.put_kind-requires-clause-grid_in_bounds
put_kind-requires-clause-grid_in_bounds c = grind (arith, common_steps, gds-length c.in-Some.g)

pub put_kind-requires-clause-grid_value : goal.put_kind-requires-clause-grid_value
unfolding the_found_holds
put_kind-requires-clause-grid_value c = grind (arith, common_steps)

pub returns-in-None-clause-out_after : goal.returns-in-None-clause-out_after
unfolding gds_fits the_gds_put
returns-in-None-clause-out_after c = grind (arith, common_steps, placed-none c.args.out.now c.args.at)
