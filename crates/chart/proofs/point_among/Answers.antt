-- The points before its row, and its position there: a point of all, so the sum fits.
use Rattle.rules.specs.Counts.{counts_of}
use Rattle.rules.specs.Chart.{the_point_among}
use Rattle.laws.proofs.Flags.{bit_1, bit_2}
use Rattle.laws.proofs.Grids.{octant-few}
use native.Mathlib.Omega.{arith}
use mathlib.Core.Path.{◌≡◌}
use Prim.Native.Nat.{◌+◌}
use Rattle.laws.proofs.Charts.{among-lt}
use Rattle.chart.proofs.point_among.Goals as goal

pub overflow_add-result : goal.overflow_add-result
unfolding the_point_among
overflow_add-result c =
    let a = c.args in
    let l = among-lt _ a.scan a.c c.requires.row_in_bounds c.requires.column_bound in
    let e : c.before_row.result + c.turned-i.result ≡ the_point_among (counts_of a.start) a.scan a.c = rw (
      c.before_row.ensures,
      c.turned-i.ensures,
      c.turned-j.ensures,
      c.rows.ensures,
      c.across-long.ensures,
      bit_1 a.scan (omega arith),
      bit_2 a.scan,
    ) in
    record { fits = omega (arith, l, e, octant-few a.start) }
