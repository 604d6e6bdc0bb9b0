-- The first line is its two halves.
use native.Mathlib.Omega.{arith}
use Rattle.listing.proofs.Writes.{wrote_next}
use Rattle.listing.proofs.Listed.{first_done}
use Rattle.listing.proofs.first_line.Goals as goal

pub returns : goal.returns
returns c =
    let p = c.counts-half.ensures in
    let q = c.scales.ensures in (
      first_done _ _ _ c.args.h _ _ _
          c.shape_of-shape.ensures c.columns_on.ensures c.rows_on.ensures
          (wrote_next p.0 q.0 (omega (arith, p.1, q.1))),
      omega (arith, p.1, q.1),
    )
