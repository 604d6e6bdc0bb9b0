-- A sign and a magnitude, or a number as it is (Signs).
use native.Mathlib.Omega.{arith}
use Rattle.listing.proofs.Signs.{sign-taken, sign-left}
use Rattle.listing.proofs.text.signed.Goals as goal

pub returns-then-z-lt0 : goal.returns-then-z-lt0
returns-then-z-lt0 c = (
  sign-taken _ _ _ _ _ _ _ _ _ c.ranges.z
      c.if-z-lt0.true
      c.magnitude.ensures
      c.letter-next.ensures
      c.number.ensures.0 (omega arith),
  omega arith,
)

pub returns : goal.returns
returns c = (
  sign-left _ _ _ _ _ _ _ c.ranges.z c.if-z-lt0.false
      c.magnitude-2.ensures c.number-2.ensures.0,
  omega arith,
)
