-- The word, a space and the number are the line of two words.
use native.Mathlib.Omega.{arith}
use Rattle.rules.specs.Listing.{joined_to, line, refused_line}
use Rattle.listing.proofs.Writes.{wrote_next}
use Rattle.listing.proofs.refused.Goals as goal

pub returns : goal.returns
unfolding refused_line line joined_to
returns c = (
  wrote_next
      (wrote_next c.word-a.ensures
      c.letter-b.ensures (omega arith))
      c.number.ensures.0 (omega arith),
  omega arith,
)
