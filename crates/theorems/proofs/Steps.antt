-- The packer's E is the least for which all X fit, and none of 0 to 24 does exactly where N is 0 and the spread is half
-- of the greatest step or more: there X is 1 at every E, and elsewhere X at E = 24 is at most 1, below 2^N.
use Prim.Native.Nat.{ℕ, zero, suc, ◌-◌, ◌*◌, ◌^◌, ◌≤◌, ◌<◌}
use mathlib.Core.Bool.{true}
use mathlib.Core.Logic.{⊎_elim}
use mathlib.Core.Path.{◌≡◌, refl, sym, subst, ap}
use native.Mathlib.Omega.{arith}
use native.Mathlib.Nat.{le-div_iff_mul-le, pow-suc}
use borrow.Author.Tests.{leb-true, not-false}
use lib.Pow.{pow_pos, pow_mono}
use Rattle.bits.proofs.Runs.{lt_or_ge}
use Rattle.rules.specs.Bounds.{source_most, step_most, flat_spread}
use Rattle.rules.specs.Checking.{Source}
use Rattle.rules.specs.Packing.{stepped, above, too_wide, exponent}
use Rattle.laws.specs.Sources.{SomePresent, Fits}
use Rattle.theorems.specs.Checks.{LeastStep, NoStepFits}
use Rattle.laws.proofs.Rows.{clash}
use Rattle.laws.proofs.Sources.{some_at}
use Rattle.laws.proofs.Steps.{wide, of-fits, exponent-is, step_fits}
use Rattle.laws.proofs.Lowest.{above_most}

module _ (f : Source) (bits : ℕ) where
  -- at a smaller E some X does not fit
  step-wide : (e : ℕ) → e < exponent f bits → too_wide f bits e ≡ true
  step-wide e l = not-false (too_wide f bits e) ((exponent-is f bits).before e l)

  seen_wide : (e : ℕ) → e < exponent f bits → SomePresent f (λ i. wide f bits e i ≡ true)
  unfolding too_wide
  seen_wide e l = some_at f (wide f bits e) (step-wide e l)

  none_before : (e : ℕ) → e < exponent f bits → Fits f bits e → ⊥
  none_before e l h = clash (too_wide f bits e) (step-wide e l) (of-fits f bits e h)

  the_least : (e : ℕ) → e ≤ step_most → Fits f bits e → ((k : ℕ) → k < e → Fits f bits k → ⊥) → exponent f bits ≡ e
  the_least e m h g = ⊎_elim (λ l. absurd (g (exponent f bits) l (step_fits f bits (omega arith))))
      (λ k. ⊎_elim (λ l. absurd (none_before e l h)) (λ j. same e (exponent f bits) k j) (lt_or_ge e (exponent f bits)))
      (lt_or_ge (exponent f bits) e)
    where
      same : (a b : ℕ) → a ≤ b → b ≤ a → b ≡ a
      same a b p q = omega arith

pub least_step : LeastStep
least_step f bits e m = (
  λ q. (
    subst (Fits f bits) q (step_fits f bits (subst (λ (x : ℕ). x ≤ step_most) (sym q) m)),
    λ k l. none_before f bits k (subst (λ (x : ℕ). k < x) (sym q) l),
  ),
  λ h. the_least f bits e m h.0 h.1,
)

one_bit : (bits : ℕ) → 2 ^ bits ≤ 1 → bits ≡ 0
one_bit zero h = refl
one_bit (suc n) h = absurd (omega (arith, pow_pos n, pow-suc 2 n))

-- at E = 24
last_step : (r : ℕ) → r ≤ 2 * source_most → stepped step_most r ≤ 1
unfolding stepped
last_step r h = omega arith

last-over : (r : ℕ) → 1 ≤ stepped step_most r → flat_spread ≤ r
unfolding stepped
last-over r h = omega arith

-- and at every E up to that
each_over : (e r : ℕ) → e ≤ step_most → flat_spread ≤ r → 1 ≤ stepped e r
unfolding stepped
each_over zero r l h = omega arith
each_over (suc e) r l h =
    let m : 2 ^ e ≤ flat_spread = pow_mono {i = e} {j = step_most - 1} (omega arith) in
    let d : 2 ^ suc e ≡ 2 ^ e * 2 = pow-suc 2 e in
    (le-div_iff_mul-le (pow_pos (suc e))).1 (omega arith)

pub no-step-fits : NoStepFits
no-step-fits f bits ok = (there, back)
  where
    there : step_most < exponent f bits → (bits ≡ 0) × SomePresent f (λ i. flat_spread ≤ above f i)
    there l =
        let o = seen_wide f bits step_most l in
        let r = above f o.at in
        let p : 2 ^ bits ≤ stepped step_most r = leb-true (2 ^ bits) (stepped step_most r) o.holds in
        let q : 0 < 2 ^ bits = pow_pos bits in (
          one_bit bits (omega (arith, last_step r (above_most f ok o.at o.below o.here))),
          record { at = o.at; below = o.below; here = o.here; holds = last-over r (omega arith) },
        )

    back : (bits ≡ 0) × SomePresent f (λ i. flat_spread ≤ above f i) → step_most < exponent f bits
    back h = ⊎_elim (λ l. l)
        (λ g.
        let o = h.1 in
        let z : 2 ^ bits ≡ 1 = ap (λ (k : ℕ). 2 ^ k) h.0 in
        absurd (omega (
          arith,
          step_fits f bits g o.at o.below o.here,
          each_over (exponent f bits) (above f o.at) g
              o.holds,
        )))
        (lt_or_ge step_most (exponent f bits))
