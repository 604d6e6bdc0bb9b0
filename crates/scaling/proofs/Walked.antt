-- The walk for R and E: a present point, an absent one, and the points past the end of the marks.
use mathlib.Core.Path.{◌≡◌, refl, sym, ap, ◌∙◌, subst}
use mathlib.Core.Bool.{Bool, true, false, cond}
use mathlib.Core.Logic.{◌⊎◌, inl, inr, ⊎_elim}
use mathlib.Core.List.{List}
use Prim.Native.Nat.{ℕ, zero, suc, ◌+◌, ◌-◌, ◌^◌, ◌<◌, ◌≤◌}
use native.Mathlib.Nat.{not-suc-le-zero}
use native.Mathlib.Numerals.{add-one}
use native.Mathlib.Omega.{arith}
use lib.Dec.{T}
use lib.IntN.{ℤ, pos}
use lib.Signed.{lt_z, mag}
use lib.ListN.{length, get_or, get_or-eq_default}
use borrow.Author.Tests.{eq-eqb, ne_eqb}
use Rattle.bits.proofs.Runs.{lt_or_ge}
use Rattle.bits.proofs.Below.{upto}
use Rattle.rules.specs.Bounds.{source_most}
use Rattle.rules.specs.Bitmap.{mark_of}
use Rattle.rules.specs.Packing.{lowest}
use Rattle.laws.proofs.Whole.{not-below, lt_z_irrefl, lt_z_antisym}
use Rattle.scaling.specs.Spread.{lesser_of, greater_of, lowest_in, Has, floor, Highest}
use Rattle.scaling.proofs.Distances.{over-floor}

-- the least present number
pub lowest-none : (numbers : List ℤ) (marks : List ℕ) → pos source_most ≡ lowest_in numbers marks 0
unfolding lowest
lowest-none numbers marks = refl

module _ (present : ℕ → ℕ) (v : ℕ → ℤ) where
  -- a present point, and an absent one
  pub lowest-in : (n : ℕ) (low : ℤ) → present n ≡ 1 → low ≡ lowest present v n
      → lesser_of (v n) low ≡ lowest present v (n + 1)
  unfolding lowest
  lowest-in n low here p = rw (add-one, eq-eqb (present n) 1 here, ← p)

  pub lowest-out : (n : ℕ) (low : ℤ) → (present n ≡ 1 → ⊥) → low ≡ lowest present v n → low ≡ lowest present v (n + 1)
  unfolding lowest
  lowest-out n low absent p = rw (add-one, ne_eqb (present n) 1 absent) p

  -- points that are all absent
  lowest-past : (n k : ℕ) → ((i : ℕ) → n ≤ i → present i ≡ 0) → lowest present v (n + k) ≡ lowest present v n
  unfolding lowest
  lowest-past n zero h = let e : n + 0 ≡ n = omega arith in ap (lowest present v) e
  lowest-past n (suc k) h =
      let e : n + suc k ≡ suc (n + k) = omega arith in
      rw (e, h (n + k) (omega arith)) (lowest-past n k h)

-- the greatest
pub highest_none : (numbers : List ℤ) (marks : List ℕ) → Highest numbers marks 0 floor
highest_none numbers marks = record { over = λ i l. absurd (not-suc-le-zero l); from = inl (λ i l. absurd (not-suc-le-zero l), refl) }

module _ (numbers : List ℤ) (marks : List ℕ) where
  has_more : (n m : ℕ) (z : ℤ) → n ≤ m → Has numbers marks n z → Has numbers marks m z
  has_more n m z l o = record { at = o.at; below = omega (arith, o.below); here = o.here; is = o.is }

  abbrev at : ℕ → ℤ
  at i = get_or numbers i (pos 0)

  module _ (n : ℕ) (high : ℤ) (h : Highest numbers marks n high) where
    -- a greater one, a present one that is not greater, an absent one
    new_highest : mark_of marks n ≡ 1 → lt_z high (at n) ≡ true → Highest numbers marks (suc n) (at n)
    new_highest here l = record {
      over = upto (λ i. mark_of marks i ≡ 1 → lt_z (at n) (at i) ≡ false) n (λ i m q. above_too i (h.over i m q))
          (λ _. lt_z_irrefl (at n));
      from = inr (record { at = n; below = omega arith; here = here; is = refl });
    }
      where
        above_too : (i : ℕ) → lt_z high (at i) ≡ false → lt_z (at n) (at i) ≡ false
        above_too i q = go (lt_z (at n) (at i)) refl
          where
            go : (t : Bool) → lt_z (at n) (at i) ≡ t → t ≡ false
            go true e = absurd (subst T (sym l ∙ not-below high (at i) (at n) q e) tt)
            go false e = refl

    same_highest : mag (at n) < 2 ^ 31 → mark_of marks n ≡ 1 → lt_z high (at n) ≡ false
        → Highest numbers marks (suc n) high
    same_highest b here l = record {
      over = upto (λ i. mark_of marks i ≡ 1 → lt_z high (at i) ≡ false) n h.over (λ _. l);
      from = ⊎_elim
          (λ e. inr (record { at = n; below = omega arith; here = here; is = sym (lt_z_antisym high (at n) l (subst (λ (z : ℤ). lt_z (at n) z ≡ false) (sym e.1) (over-floor (at n) b))) }))
          (λ o. inr (has_more n (suc n) high (omega arith) o))
          h.from;
    }

    pub highest_in : mag (at n) < 2 ^ 31 → mark_of marks n ≡ 1 → Highest numbers marks (n + 1) (greater_of (at n) high)
    highest_in b here = rw add-one (go (lt_z high (at n)) refl)
      where
        go : (t : Bool) → lt_z high (at n) ≡ t → Highest numbers marks (suc n) (cond t (at n) high)
        go true l = new_highest here l
        go false l = same_highest b here l

    pub highest_out : (mark_of marks n ≡ 1 → ⊥) → Highest numbers marks (n + 1) high
    highest_out absent = rw add-one (record {
      over = upto (λ i. mark_of marks i ≡ 1 → lt_z high (at i) ≡ false) n h.over (λ q. absurd (absent q));
      from = ⊎_elim (λ e. inl (upto (λ i. mark_of marks i ≡ 1 → ⊥) n e.0 absent, e.1))
          (λ o. inr (has_more n (suc n) high (omega arith) o)) h.from;
    })

-- past the end of the marks no point is marked
module _ (numbers : List ℤ) (marks : List ℕ) where
  past : (i : ℕ) → length marks ≤ i → mark_of marks i ≡ 0
  past i l = get_or-eq_default marks 0 l

  module _ (n m : ℕ) (l : n ≤ m) (e : (n ≡ m) ⊎ (n ≡ length marks)) where
    whole {ℓ} : (P : ℕ → Type ℓ) → (n ≡ length marks → P n → P m) → P n → P m
    whole P f p = ⊎_elim (λ (q : n ≡ m). subst P q p) (λ q. f q p) e

    pub lowest-whole : (z : ℤ) → z ≡ lowest_in numbers marks n → z ≡ lowest_in numbers marks m
    lowest-whole z = whole (λ k. z ≡ lowest_in numbers marks k) (λ q p. p ∙ same q)
      where
        same : n ≡ length marks → lowest_in numbers marks n ≡ lowest_in numbers marks m
        same q =
            let s : n + (m - n) ≡ m = omega arith in
            subst (λ (k : ℕ). lowest_in numbers marks n ≡ lowest_in numbers marks k) s
            (sym (lowest-past (mark_of marks) (λ i. get_or numbers i (pos 0)) n (m - n) (λ i g. past i (omega arith))))

    pub highest_whole : (z : ℤ) → Highest numbers marks n z → Highest numbers marks m z
    highest_whole z = whole (λ k. Highest numbers marks k z) (λ q h. record {
      over = λ i g here. h.over i (inside q i here) here;
      from = ⊎_elim (λ p. inl (λ i g here. p.0 i (inside q i here) here, p.1))
          (λ o. inr (has_more numbers marks n m z l o)) h.from;
    })
      where
        inside : n ≡ length marks → (i : ℕ) → mark_of marks i ≡ 1 → i < n
        inside q i here = ⊎_elim (λ (g : i < n). g)
            (λ (g : n ≤ i). absurd (let z : ◌≡◌ {A = ℕ} 0 1 = sym (past i (omega arith)) ∙ here in omega arith))
            (lt_or_ge i n)
