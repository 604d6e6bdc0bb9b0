-- The tests over the numbers below a bound: what it says that one of them passes, that none does, and which is the
-- least; by induction on the bound.
use Prim.Native.Nat.{ℕ, zero, suc, ◌+◌, ◌≤◌, ◌<◌}
use mathlib.Core.Bool.{Bool, true, false, ◌||◌, cond}
use mathlib.Core.Path.{◌≡◌, refl, sym, ap₂, subst, ◌∙◌}
use native.Mathlib.Numerals.{add-one}
use native.Mathlib.Omega.{arith}
use native.Mathlib.Nat.{lt_irrefl, not-suc-le-zero}
use borrow.Author.Tests.{ltb-false, ltb-true}
use lib.Dec.{T, ltb}
use Rattle.bits.specs.Tables.{any_below, least_below}
use Rattle.bits.proofs.Tests.{or_false, or_none}

-- of the numbers below suc n: n itself, or one below n
pub upto {ℓ} : (P : ℕ → Type ℓ) (n : ℕ) → ((i : ℕ) → i < n → P i) → P n → (i : ℕ) → i < suc n → P i
upto P n h q i l = go (ltb i n) refl
  where
    go : (t : Bool) → ltb i n ≡ t → P i
    go true e = h i (ltb-true i n e)
    go false e =
        let same : n ≡ i = omega (arith, l, ltb-false i n e) in
        subst P same q

-- a loop that tests one number after another: where it begins, and a turn
pub any_none : (f : ℕ → Bool) → false ≡ any_below f 0
unfolding any_below
any_none f = refl

pub any_next : (f : ℕ → Bool) (i : ℕ) (a b : Bool) → a ≡ any_below f i → b ≡ f i → (a || b) ≡ any_below f (i + 1)
unfolding any_below
any_next f i a b p q = rw (add-one, p, q)

-- tests that agree
pub any_ext : (f g : ℕ → Bool) (n : ℕ) → ((i : ℕ) → i < n → f i ≡ g i) → any_below f n ≡ any_below g n
unfolding any_below
any_ext f g zero h = refl
any_ext f g (suc n) h = ap₂ (λ (a b : Bool). a || b) (any_ext f g n (λ i l. h i (omega arith))) (h n (omega arith))

-- none passes
pub none_below : (f : ℕ → Bool) (n : ℕ) → any_below f n ≡ false → (i : ℕ) → i < n → f i ≡ false
unfolding any_below
none_below f zero e i l = absurd (not-suc-le-zero l)
none_below f (suc n) e i l =
    let h = or_false (any_below f n) (f n) e in
    upto (λ i. f i ≡ false) n (none_below f n h.0) h.1 i l

pub no-below : (f : ℕ → Bool) (n : ℕ) → ((i : ℕ) → i < n → f i ≡ false) → any_below f n ≡ false
unfolding any_below
no-below f zero h = refl
no-below f (suc n) h = or_none (any_below f n) (f n) (no-below f n (λ i l. h i (omega arith))) (h n (omega arith))

-- one passes
pub record One (f : ℕ → Bool) (n : ℕ) : Type 0 where
  pub at : ℕ
  pub below : at < n
  pub passes : f at ≡ true

one-step : (f : ℕ → Bool) (n : ℕ) → (any_below f n ≡ true → One f n) → (any_below f n || f n) ≡ true → (a : Bool)
    → any_below f n ≡ a → (b : Bool) → f n ≡ b → One f (suc n)
one-step f n h e true p b q = let o = h p in record { at = o.at; below = omega arith; passes = o.passes }
one-step f n h e false p true q = record { at = n; below = omega arith; passes = q }
one-step f n h e false p false q = absurd (subst T (sym e ∙ or_none (any_below f n) (f n) p q) tt)

pub one_below : (f : ℕ → Bool) (n : ℕ) → any_below f n ≡ true → One f n
unfolding any_below
one_below f zero e = absurd (subst T (sym e) tt)
one_below f (suc n) e = one-step f n (one_below f n) e (any_below f n) refl (f n) refl

-- b is the least below n that passes, or n where none does
pub record Least (f : ℕ → Bool) (n b : ℕ) : Type 0 where
  pub within : b ≤ n
  pub passes : b < n → f b ≡ true
  pub before : (k : ℕ) → k < b → f k ≡ false

least_step : (f : ℕ → Bool) (n b : ℕ) → Least f n b → (t : Bool) → ltb b n ≡ t → (p : Bool) → f n ≡ p
    → Least f (suc n) (cond t b (cond p n (suc n)))
least_step f n b h true e p q =
    let l : b < n = ltb-true b n e in
    record { within = omega (arith, l); passes = λ _. h.passes l; before = h.before }
least_step f n b h false e true q =
    let same : b ≡ n = omega (arith, h.within, ltb-false b n e) in
    record { within = omega arith; passes = λ _. q; before = λ k l. h.before k (subst (λ (x : ℕ). k < x) (sym same) l) }
least_step f n b h false e false q =
    let same : b ≡ n = omega (arith, h.within, ltb-false b n e) in
    record { within = omega arith; passes = λ l. absurd (lt_irrefl (suc n) l); before = upto (λ k. f k ≡ false) n (λ k l. h.before k (subst (λ (x : ℕ). k < x) (sym same) l)) q }

pub least : (f : ℕ → Bool) (n : ℕ) → Least f n (least_below f n)
unfolding least_below
least f zero = record { within = omega arith; passes = λ l. absurd (not-suc-le-zero l); before = λ k l. absurd (not-suc-le-zero l) }
least f (suc n) = least_step f n (least_below f n) (least f n) (ltb (least_below f n) n) refl (f n) refl
