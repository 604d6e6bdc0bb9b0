-- What is left of the marks after `at` is compared; where `at` lies past them nothing is left.
use native.Mathlib.Omega.{arith}
use Rattle.gathering.proofs.Here.{fits_after, fits-none}
use Rattle.gathering.proofs.fits.Goals as goal

pub returns-then-at-marked : goal.returns-then-at-marked
returns-then-at-marked c = let a = c.args in fits_after a.c a.room a.at a.marked (omega arith)

pub returns : goal.returns
returns c = let a = c.args in fits-none a.c a.room a.at a.marked (omega arith)
