-- The packer's E is the least for which all X fit.
use Prim.Native.Nat.{ℕ, suc, ◌^◌, ◌≤◌}
use mathlib.Core.Bool.{Bool, false, not}
use mathlib.Core.Path.{◌≡◌}
use native.Mathlib.Omega.{arith}
use borrow.Author.Tests.{leb-false, lt-leb, not-true}
use lib.Dec.{leb}
use Rattle.bits.proofs.Below.{Least, least}
use Rattle.rules.specs.Bounds.{step_most}
use Rattle.rules.specs.Checking.{Source}
use Rattle.rules.specs.Packing.{stepped, above, too_wide, exponent}
use Rattle.laws.specs.Sources.{Fits}
use Rattle.laws.proofs.Sources.{at_none, none-at}

module _ (f : Source) (bits : ℕ) where
  abbrev pub wide : ℕ → ℕ → Bool
  wide e i = leb (2 ^ bits) (stepped e (above f i))

  abbrev pub fitting : ℕ → Bool
  fitting e = not (too_wide f bits e)

  pub fits-of : (e : ℕ) → too_wide f bits e ≡ false → Fits f bits e
  unfolding too_wide
  fits-of e h i l p = leb-false (2 ^ bits) (stepped e (above f i)) (at_none f (wide e) h i l p)

  pub of-fits : (e : ℕ) → Fits f bits e → too_wide f bits e ≡ false
  unfolding too_wide
  of-fits e h = none-at f (wide e) (λ i l p. lt-leb (2 ^ bits) (stepped e (above f i)) (h i l p))

  pub exponent-is : Least fitting (suc step_most) (exponent f bits)
  unfolding exponent
  exponent-is = least fitting (suc step_most)

  -- at an E that 19 does not refuse all X fit
  pub step_fits : exponent f bits ≤ step_most → Fits f bits (exponent f bits)
  step_fits l = fits-of (exponent f bits) (not-true _ (exponent-is.passes (omega arith)))
