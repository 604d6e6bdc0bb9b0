use Rattle.source.proofs.Digits.{goes_on, b-less, ends}
use native.Mathlib.Omega.{arith}
use Rattle.source.proofs.whole.spelt.Goals as goal

pub loop-b-preserved : goal.loop-b-preserved
loop-b-preserved c = goes_on _ _ _ (omega arith) c.loop-b.invariant c.loop-b-test.true

pub overflow_add-result : goal.overflow_add-result
overflow_add-result c = record { fits = omega (arith, b-less _ _ _ c.loop-b.invariant) }

pub returns : goal.returns
returns c = (ends _ _ _ c.loop-b.invariant c.loop-b-test.false, omega (arith, b-less _ _ _ c.loop-b.invariant))
