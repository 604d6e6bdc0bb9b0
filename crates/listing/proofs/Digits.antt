-- The digits of a number: the running weight, a turn of the loop that writes them, and how many a decimal has. By
-- powers and `least_below`.
use mathlib.Core.Path.{◌≡◌, refl, sym, ap, ◌∙◌, subst}
use mathlib.Core.List.{List}
use mathlib.Core.Bool.{Bool, true, false, ◌&&◌, cond}
use mathlib.Core.Logic.{⊎_elim}
use Prim.Native.Nat.{ℕ, zero, suc, ◌+◌, ◌-◌, ◌*◌, ◌/◌, ◌%◌, ◌^◌, ◌≤◌, ◌<◌}
use native.Mathlib.Nat.{pow-suc, one-le-pow, mul-div_cancel, add-suc, add-zero}
use native.Mathlib.Numerals.{add-one}
use native.Mathlib.Omega.{arith}
use borrow.Author.Tests.{lt-ltb, le-ltb, ltb-true, leb-true, leb-false}
use lib.Dec.{T, ltb, leb}
use lib.ListN.{length, set}
use Rattle.bits.specs.Tables.{tab, least_below}
use Rattle.bits.proofs.Fill.{length-tab}
use Rattle.bits.proofs.Runs.{lt_or_ge}
use Rattle.rules.specs.Listing.{digit, numeral, decimal_digits, decimal, hex_digits}
use Rattle.listing.specs.Text.{Wrote}
use Rattle.listing.proofs.Writes.{wrote_tab}

-- digit j of the c digits of n
abbrev pub place : ℕ → ℕ → ℕ → ℕ → ℕ
place base c n j = digit (n / base ^ (c - 1 - j) % base)

-- the weight of the digits that are left, divided by the base
pub weight_next : (base c j w : ℕ) → 0 < base → j < c → w ≡ base ^ (c - j) → w / base ≡ base ^ (c - (j + 1))
weight_next base c j w p h e =
    let s : c - j ≡ suc (c - (j + 1)) = omega arith in
    ap (λ (x : ℕ). x / base) (e ∙ ap (λ (x : ℕ). base ^ x) s ∙ pow-suc base (c - (j + 1)))
    ∙ mul-div_cancel (base ^ (c - (j + 1))) p

pub weight_pos : (base c j w : ℕ) → 0 < base → j < c → w ≡ base ^ (c - j) → 0 < w / base
weight_pos base c j w p h e =
    subst (λ (x : ℕ). 0 < x) (sym (weight_next base c j w p h e)) (one-le-pow (c - (j + 1)) base p)

pub digit_turn : (t u : List ℕ) (at base c n j w d : ℕ) → 0 < base → j < c → w ≡ base ^ (c - j) → at + c ≤ length t
    → Wrote t u at (at + j) (tab (place base c n) j) → d ≡ digit (n / (w / base) % base)
    → Wrote t (set u (at + j) d) at (at + (j + 1)) (tab (place base c n) (j + 1))
digit_turn t u at base c n j w d p h e r a q =
    let same : c - (j + 1) ≡ c - 1 - j = omega arith in
    let is : d ≡ place base c n j = q ∙ ap (λ (x : ℕ). digit (n / x % base)) (weight_next base c j w p h e ∙ ap (λ (x : ℕ). base ^ x) same) in
    subst (λ (x : ℕ). Wrote t (set u (at + j) x) at (at + (j + 1)) (tab (place base c n) (j + 1))) (sym is)
    (wrote_tab (place base c n) j a (omega arith))

pub numeral-done : (t u : List ℕ) (at base c n j : ℕ) → j ≡ c → Wrote t u at (at + j) (tab (place base c n) j)
    → Wrote t u at (at + j) (numeral base c n)
unfolding numeral
numeral-done t u at base c n j e a = subst (λ (x : ℕ). Wrote t u at (at + j) (tab (place base c n) x)) e a

-- a search for the least that passes: where it begins, goes on, stops, and what it found
pub search_next : (f : ℕ → Bool) (k : ℕ) → least_below f k ≡ k → f k ≡ false → least_below f (suc k) ≡ suc k
unfolding least_below
search_next f k e q = rw (e, le-ltb k k (omega arith), q)

found_here : (f : ℕ → Bool) (k : ℕ) → least_below f k ≡ k → f k ≡ true → least_below f (suc k) ≡ k
unfolding least_below
found_here f k e q = rw (e, le-ltb k k (omega arith), q)

found-stays : (f : ℕ → Bool) (k n d : ℕ) → least_below f n ≡ k → k < n → least_below f (n + d) ≡ k
unfolding least_below
found-stays f k n zero e h = ap (least_below f) (add-zero n) ∙ e
found-stays f k n (suc d) e h =
    let b = found-stays f k n d e h in
    ap (least_below f) (add-suc n d) ∙ rw (b, lt-ltb k (n + d) (omega arith))

pub search_done : (f : ℕ → Bool) (k n : ℕ) → least_below f k ≡ k → k < n → f k ≡ true → least_below f n ≡ k
search_done f k n e h q =
    let same : suc k + (n - suc k) ≡ n = omega arith in
    ap (least_below f) (sym same) ∙ found-stays f k (suc k) (n - suc k) (found_here f k e q) (omega arith)

-- whether ten to the power of suc k is above n
abbrev pub short : ℕ → ℕ → Bool
short n k = ltb n (10 ^ suc k)

pub short-next : (n k power : ℕ) → power ≡ 10 ^ suc k → power ≤ n → least_below (short n) k ≡ k
    → least_below (short n) (k + 1) ≡ k + 1
short-next n k power e h l = rw add-one (search_next (short n) k l (le-ltb n (10 ^ suc k) (omega arith)))

pub power-next : (k power : ℕ) → power ≡ 10 ^ suc k → power * 10 ≡ 10 ^ suc (k + 1)
power-next k power e =
    ap (λ (x : ℕ). x * 10) e ∙ sym (pow-suc 10 (suc k)) ∙ ap (λ (x : ℕ). 10 ^ suc x) (sym (add-one k))

least-most : (f : ℕ → Bool) (n : ℕ) → least_below f n ≤ n
unfolding least_below
least-most f zero = omega arith
least-most f (suc n) = go (least-most f n) (ltb (least_below f n) n) (f n)
  where
    go : {b : ℕ} → b ≤ n → (t p : Bool) → cond t b (cond p n (suc n)) ≤ suc n
    go h true p = omega arith
    go h false true = omega arith
    go h false false = omega arith

pub power-is : (k power : ℕ) → power ≡ 10 ^ suc k → power ≡ 10 ^ (k + 1)
power-is k power e = e ∙ ap (λ (x : ℕ). 10 ^ x) (sym (add-one k))

-- the digits of a decimal
pub digits_are : (n k power : ℕ) → power ≡ 10 ^ suc k → least_below (short n) k ≡ k → k ≤ 9 → (k < 9 → n < power)
    → decimal_digits n ≡ k + 1
unfolding decimal_digits
digits_are n k power e l h q = ⊎_elim
    (λ s. ap suc (search_done (short n) k 9 l s (lt-ltb n (10 ^ suc k) (subst (λ (x : ℕ). n < x) e (q s))))
    ∙ sym (add-one k))
    (λ s.
    let nine : k ≡ 9 = omega arith in
    ap suc (ap (least_below (short n)) (sym nine) ∙ l) ∙ sym (add-one k))
    (lt_or_ge k 9)

pub decimal-done : (t u : List ℕ) (at next n k : ℕ) → decimal_digits n ≡ k + 1 → Wrote t u at next (numeral 10 (k + 1) n)
    → Wrote t u at next (decimal n)
unfolding decimal
decimal-done t u at next n k e a = subst (λ (x : ℕ). Wrote t u at next (numeral 10 x n)) (sym e) a

-- "at most ten"
pub decimal-most : (n : ℕ) → length (decimal n) ≤ 10
unfolding decimal numeral decimal_digits
decimal-most n = rw length-tab (omega (arith, least-most (short n) 9))

-- the loop's test
pub more : (k n power : ℕ) → (ltb k 9 && leb power n) ≡ true → (k < 9) × (power ≤ n)
more k n power e = go (ltb k 9) (leb power n) refl refl e
  where
    go : (a b : Bool) → ltb k 9 ≡ a → leb power n ≡ b → (a && b) ≡ true → (k < 9) × (power ≤ n)
    go true true p q e = (ltb-true k 9 p, leb-true power n q)
    go true false p q e = absurd (subst T (sym e) tt)
    go false b p q e = absurd (subst T (sym e) tt)

pub enough : (k n power : ℕ) → (ltb k 9 && leb power n) ≡ false → k < 9 → n < power
enough k n power e h =
    let both : leb power n ≡ false = sym (ap (λ (a : Bool). a && leb power n) (lt-ltb k 9 h)) ∙ e in
    leb-false power n both

pub low_digit : (d : ℕ) → d < 10 → 48 + d ≡ digit d
low_digit d h = sym (rw (lt-ltb d 10 h))

pub high_digit : (d : ℕ) → 10 ≤ d → 87 + d ≡ digit d
high_digit d h = sym (rw (le-ltb d 10 h))

pub hex_done : (t u : List ℕ) (at next n : ℕ) → Wrote t u at next (numeral 16 8 n) → Wrote t u at next (hex_digits n)
unfolding hex_digits
hex_done t u at next n a = a

pub length-numeral : (base c n : ℕ) → length (numeral base c n) ≡ c
unfolding numeral
length-numeral base c n = length-tab (place base c n) c
