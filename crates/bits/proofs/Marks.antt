-- Marks, one bit each: a table of them is a list of numbers of one bit; and what it says that there is a one among
-- them, or none.
use Prim.Native.Nat.{ℕ, zero, suc, ◌+◌, ◌*◌, ◌≤◌, ◌<◌}
use mathlib.Core.Path.{◌≡◌, sym, subst, ◌∙◌, ap}
use mathlib.Core.Logic.{⊎_elim}
use native.Mathlib.Omega.{arith}
use native.Mathlib.Nat.{zero-add, not-suc-le-zero}
use lib.ListN.{get_or-eq_default}
use Rattle.bits.specs.Bits.{bit_of, bits_in, count, Wide}
use Rattle.bits.specs.Tables.{tab}
use Rattle.bits.proofs.Runs.{Bits, bits_at, lt_or_ge}
use Rattle.bits.proofs.Fill.{length-tab, get_or-tab}
use Rattle.bits.proofs.Ones.{count_ext}
use Rattle.bits.proofs.Below.{upto}

pub wide-tab : (f : ℕ → ℕ) (n : ℕ) → Bits f → Wide 1 (tab f n)
wide-tab f n b k = ⊎_elim
    (λ l. subst (λ (x : ℕ). x < 2) (sym (get_or-tab f n k 0 l)) (b k))
    (λ g. subst (λ (x : ℕ). x < 2)
    (sym (get_or-eq_default (tab f n) 0 (subst (λ (x : ℕ). x ≤ k) (sym (length-tab f n)) g))) (omega arith))
    (lt_or_ge k n)

bit-of-one : (x : ℕ) → x < 2 → bit_of 1 x 0 ≡ x
unfolding bit_of
bit-of-one x h = omega arith

pub mark-bit : (f : ℕ → ℕ) (n : ℕ) → Bits f → (i : ℕ) → i < n → bits_in 1 (tab f n) i ≡ f i
mark-bit f n b i l =
    let e : i ≡ i * 1 + 0 = omega arith in
    ap (bits_in 1 (tab f n)) e ∙ bits_at 1 (tab f n) i 0 (omega arith) ∙ ap (λ (x : ℕ). bit_of 1 x 0) (get_or-tab f n i 0 l)
    ∙ bit-of-one (f i) (b i)

-- no ones, no bit is one; and back
pub zeros_of : (f : ℕ → ℕ) (a n : ℕ) → count f a n ≡ 0 → (i : ℕ) → i < n → f (a + i) ≡ 0
unfolding count
zeros_of f a zero e i l = absurd (not-suc-le-zero l)
zeros_of f a (suc n) e i l = upto (λ i. f (a + i) ≡ 0) n (zeros_of f a n (omega arith)) (omega arith) i l

-- a one is counted
pub count-pos : (f : ℕ → ℕ) (n i : ℕ) → i < n → f i ≡ 1 → 0 < count f 0 n
unfolding count
count-pos f zero i l e = absurd (not-suc-le-zero l)
count-pos f (suc n) i l e =
    upto (λ i. f i ≡ 1 → 0 < count f 0 n + f (0 + n)) n
    (λ i l e. let h : 0 < count f 0 n = count-pos f n i l e in omega arith)
    (λ e. let h : f (0 + n) ≡ 1 = ap f (zero-add n) ∙ e in omega arith)
    i l e

-- where two sequences agree below n, they count alike
pub count_same : (f g : ℕ → ℕ) (n : ℕ) → ((i : ℕ) → i < n → f i ≡ g i) → (i : ℕ) → i ≤ n → count f 0 i ≡ count g 0 i
count_same f g n h i l = count_ext f g 0 0 i (λ j k. h (0 + j) (omega arith))
