-- D, E, R and N one after another: the law of a word after another; a signed number handed on is itself.
use native.Mathlib.Omega.{arith}
use borrow.Author.Rules.{rules}
use mir.Syntax.{w32}
use mir.Val.{SFits}
use Rattle.listing.proofs.Writes.{wrote_next}
use Rattle.listing.proofs.Signs.{signed_arg}
use Rattle.listing.proofs.scales.Goals as goal

fits-d : (c : goal.After-slice_known-5-1)
    → SFits w32
    c.args.d.value
fits-d c = search rules

fits-e : (c : goal.After-slice_known-5-1)
    → SFits w32
    c.args.e.value
fits-e c = search rules

pub returns : goal.returns
returns c = (
  wrote_next (wrote_next (wrote_next
      (signed_arg _ _ _ _ _ _ (fits-d c)
      c.signed-f.ensures.0)
      (signed_arg _ _ _ _ _ _ (fits-e c)
      c.signed-g.ensures.0)
      (omega arith))
      c.hex-h.ensures.0 (omega arith))
      c.number.ensures.0 (omega arith),
  omega arith,
)
