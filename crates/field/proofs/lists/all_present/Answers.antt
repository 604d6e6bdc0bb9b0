-- Every value taken, and every mark 1.
use Prim.Native.Nat.{◌-◌}
use Rattle.field.proofs.Loops.{unpack-done}
use Rattle.field.proofs.lists.all_present.Goals as goal

pub returns : goal.returns
returns c = record {
  values_after = unpack-done _ _ _ _ _ _ c.requires.bits_bound c.requires.n_in_bounds c.take_all.ensures.out_after;
  marks_after = c.fill_all.ensures.marks_after;
}
