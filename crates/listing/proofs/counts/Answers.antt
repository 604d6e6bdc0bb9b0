-- The four counts one after another: the law of a word after another, four times.
use native.Mathlib.Omega.{arith}
use Rattle.listing.proofs.Writes.{wrote_next}
use Rattle.listing.proofs.counts.Goals as goal

pub returns : goal.returns
returns c = (
  wrote_next (wrote_next (wrote_next
      c.number-a.ensures.0
      c.number-b.ensures.0
      (omega arith))
      c.number-c.ensures.0 (omega arith))
      c.number.ensures.0 (omega arith),
  omega arith,
)
