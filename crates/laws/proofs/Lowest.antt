-- The packer's R is the least present number: at most every one of them, and one of them; by induction on the points,
-- and 0 where no point is present.
use Prim.Native.Nat.{ℕ, zero, suc, ◌+◌, ◌*◌, ◌≤◌, ◌<◌}
use mathlib.Core.Bool.{Bool, true, false, ◌&&◌, cond}
use mathlib.Core.Logic.{◌⊎◌, inl, inr}
use mathlib.Core.Path.{◌≡◌, refl, sym, subst, ◌∙◌, ap}
use native.Mathlib.Omega.{arith}
use native.Mathlib.Nat.{not-suc-le-zero}
use borrow.Author.Tests.{eqb-true, eqb-false, ne_eqb}
use lib.Dec.{eqb}
use lib.IntN.{ℤ, pos, nat_abs, ◌+ℤ◌, ◌-ℤ◌, +ℤ_comm, -ℤ-+ℤ_cancel}
use lib.Signed.{lt_z}
use lib.ListN.{length}
use Rattle.bits.specs.Bits.{count}
use Rattle.bits.proofs.Below.{upto}
use Rattle.bits.proofs.Marks.{count-pos}
use Rattle.bits.proofs.Ones.{count-zero}
use Rattle.rules.specs.Bounds.{source_most}
use Rattle.rules.specs.Checking.{Source, number_of, present_of}
use Rattle.rules.specs.Packing.{lowest, reference, above}
use Rattle.laws.specs.Sources.{AtPresent, SomePresent, WellFormed}
use Rattle.laws.proofs.Whole.{not-below, lt_z_irrefl, lt_z_antisym, not-over, sub-le, gap}

-- z is the number at a present one of the first n points
record OneOf (present : ℕ → ℕ) (v : ℕ → ℤ) (n : ℕ) (z : ℤ) : Type 0 where
  at : ℕ
  below : at < n
  here : present at ≡ 1
  is : v at ≡ z

record Lowest (present : ℕ → ℕ) (v : ℕ → ℤ) (n : ℕ) (z : ℤ) : Type 0 where
  under : (i : ℕ) → i < n → present i ≡ 1 → lt_z (v i) z ≡ false
  from : (z ≡ pos source_most) ⊎ OneOf present v n z

module _ (present : ℕ → ℕ) (v : ℕ → ℤ) where
  later : (n : ℕ) (z : ℤ) → (z ≡ pos source_most) ⊎ OneOf present v n z
      → (z ≡ pos source_most) ⊎ OneOf present v (suc n) z
  later n z (inl e) = inl e
  later n z (inr t) = inr (record { at = t.at; below = omega arith; here = t.here; is = t.is })

  step : (n : ℕ) (z : ℤ) → Lowest present v n z → (p : Bool) → eqb (present n) 1 ≡ p → (t : Bool) → lt_z (v n) z ≡ t
      → Lowest present v (suc n) (cond (p && t) (v n) z)
  step n z h true e true l = record {
    under = upto (λ i. present i ≡ 1 → lt_z (v i) (v n) ≡ false) n (λ i m q. not-below (v i) z (v n) (h.under i m q) l)
        (λ _. lt_z_irrefl (v n));
    from = inr (record { at = n; below = omega arith; here = eqb-true (present n) 1 e; is = refl });
  }
  step n z h true e false l = record {
    under = upto (λ i. present i ≡ 1 → lt_z (v i) z ≡ false) n h.under (λ _. l);
    from = later n z h.from;
  }
  step n z h false e t l = record {
    under = upto (λ i. present i ≡ 1 → lt_z (v i) z ≡ false) n h.under (λ q. absurd (eqb-false (present n) 1 e q));
    from = later n z h.from;
  }

  lowest-is : (n : ℕ) → Lowest present v n (lowest present v n)
  unfolding lowest
  lowest-is zero = record { under = λ i l. absurd (not-suc-le-zero l); from = inl refl }
  lowest-is (suc n) =
      step n (lowest present v n) (lowest-is n) (eqb (present n) 1) refl (lt_z (v n) (lowest present v n)) refl

  -- one of them, where one is present and within the bound
  lowest-one : (n i : ℕ) → i < n → present i ≡ 1 → nat_abs (v i) ≤ source_most → OneOf present v n (lowest present v n)
  lowest-one n i l e b = go (lowest-is n).from
    where
      go : (lowest present v n ≡ pos source_most) ⊎ OneOf present v n (lowest present v n)
          → OneOf present v n (lowest present v n)
      go (inl q) = record {
        at = i;
        below = l;
        here = e;
        is = lt_z_antisym (v i) (lowest present v n) ((lowest-is n).under i l e)
            (subst (λ (z : ℤ). lt_z z (v i) ≡ false) (sym q) (not-over source_most (v i) b));
      }
      go (inr t) = t

  lowest-most : (n : ℕ) → ((i : ℕ) → i < n → present i ≡ 1 → nat_abs (v i) ≤ source_most)
      → nat_abs (lowest present v n) ≤ source_most
  lowest-most n h = go (lowest-is n).from
    where
      go : (lowest present v n ≡ pos source_most) ⊎ OneOf present v n (lowest present v n)
          → nat_abs (lowest present v n) ≤ source_most
      go (inl q) = subst (λ (z : ℤ). nat_abs z ≤ source_most) (sym q) (omega arith)
      go (inr t) = subst (λ (z : ℤ). nat_abs z ≤ source_most) t.is (h t.at t.below t.here)

module _ (f : Source) where
  abbrev lows : ℤ
  lows = lowest (present_of f) (number_of f) (length f.numbers)

  pub reference-none : ((i : ℕ) → i < length f.numbers → present_of f i ≡ 0) → reference f ≡ pos 0
  unfolding reference
  reference-none h =
      ap (λ (k : ℕ). cond (eqb k 0) (pos 0) lows)
      (count-zero (present_of f) 0 (length f.numbers) (λ i l. h (0 + i) (omega arith)))

  reference-is : (i : ℕ) → i < length f.numbers → present_of f i ≡ 1 → reference f ≡ lows
  unfolding reference
  reference-is i l e =
      let c : 0 < count (present_of f) 0 (length f.numbers) = count-pos (present_of f) (length f.numbers) i l e in
      simp (ne_eqb (count (present_of f) 0 (length f.numbers)) 0 (omega arith))

  pub reference-under : AtPresent f (λ i. lt_z (number_of f i) (reference f) ≡ false)
  reference-under i l e =
      subst (λ (z : ℤ). lt_z (number_of f i) z ≡ false) (sym (reference-is i l e))
      ((lowest-is (present_of f) (number_of f) (length f.numbers)).under i l e)

  module _ (ok : WellFormed f) where
    pub reference-most : nat_abs (reference f) ≤ source_most
    unfolding reference
    reference-most = go (eqb (count (present_of f) 0 (length f.numbers)) 0)
      where
        go : (b : Bool) → nat_abs (cond b (pos 0) lows) ≤ source_most
        go true = omega arith
        go false = lowest-most (present_of f) (number_of f) (length f.numbers) ok.bound

    -- the spread is at most twice the bound
    pub above_most : AtPresent f (λ i. above f i ≤ 2 * source_most)
    unfolding above
    above_most i l e = omega (arith, sub-le (number_of f i) (reference f), ok.bound i l e, reference-most)

    pub one-is : SomePresent f (λ i. Unit {0}) → SomePresent f (λ i. number_of f i ≡ reference f)
    one-is o =
        let t = lowest-one (present_of f) (number_of f) (length f.numbers) o.at o.below o.here (ok.bound o.at o.below o.here) in
        record { at = t.at; below = t.below; here = t.here; holds = t.is ∙ sym (reference-is o.at o.below o.here) }

  pub over : AtPresent f (λ i. number_of f i ≡ reference f +ℤ pos (above f i))
  unfolding above
  over i l e =
      let v = number_of f i in
      let r = reference f in
      sym (-ℤ-+ℤ_cancel v r) ∙ ap (λ (z : ℤ). z +ℤ r) (gap v r (reference-under i l e))
      ∙ +ℤ_comm (pos (nat_abs (v -ℤ r))) r
