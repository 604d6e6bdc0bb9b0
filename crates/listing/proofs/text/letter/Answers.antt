-- A letter put at a place: the law of one element.
use native.Mathlib.Omega.{arith}
use Rattle.listing.proofs.Writes.{wrote_one}
use Rattle.listing.proofs.text.letter.Goals as goal

pub returns : goal.returns
returns c = wrote_one _ _ _ (omega arith)
