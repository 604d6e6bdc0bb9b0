-- A product by 0 or 1 fits.
use Rattle.field.proofs.Spreading.{times_fits}
use native.Mathlib.Omega.{arith}
use Prim.Native.Nat.{◌-◌}
use Rattle.field.proofs.spread.times.Goals as goal

pub overflow_mul-result : goal.overflow_mul-result
overflow_mul-result c = record { fits = times_fits c.args.v c.args.k c.ranges.v.fits (omega arith) }
