-- The laws of a count of ones.
use mathlib.Core.Path.{◌≡◌, refl, sym, ap, ap₂, ◌∙◌, subst}
use mathlib.Core.List.{List}
use Prim.Native.Nat.{ℕ, zero, suc, ◌+◌, ◌-◌, ◌*◌, ◌/◌, ◌^◌, ◌≤◌, ◌<◌, zero-le}
use native.Mathlib.Nat.{add-zero, add-suc, add_assoc, zero-add, le_of_suc-le-suc, not-suc-le-zero, mod-eq_of_lt}
use native.Mathlib.Numerals.{add-one}
use native.Mathlib.Omega.{arith}
use lib.ListN.{get_or, length}
use lib.Pow.{pow_pos, shr_lt}
use lib.Bits.{bit_and, and_high}
use lib.Count.{ones, ones_cat}
use Rattle.bits.specs.Bits.{bit_of, bits_in, run, count, Wide}
use Rattle.bits.proofs.Runs.{Bits, bits_in-bits, run_ext, run-top, run-unit, bits_at}
use Rattle.bits.proofs.Trip.{bits-past}

ones_bit : (r : ℕ) → r < 2 → ones r ≡ r
unfolding ones
ones_bit zero h = refl
ones_bit (suc zero) h = refl
ones_bit (suc (suc r)) h = absurd (not-suc-le-zero (le_of_suc-le-suc (le_of_suc-le-suc h)))

-- a run's ones are the ones among its bits
pub ones-run : {f : ℕ → ℕ} → Bits f → (at n : ℕ) → ones (run f at n) ≡ count f at n
unfolding run count ones
ones-run b at zero = refl
ones-run {f} b at (suc n) =
    ones_cat 1 (run f at n) (f (at + n)) (b (at + n))
    ∙ ap₂ (λ (x y : ℕ). x + y) (ones-run b at n) (ones_bit (f (at + n)) (b (at + n)))

pub count-split : (f : ℕ → ℕ) (at m n : ℕ) → count f at (m + n) ≡ count f at m + count f (at + m) n
unfolding count
count-split f at m zero = rw add-zero (omega arith)
count-split f at m (suc n) = rw (add-suc, count-split f at m n) (omega (arith, ap f (add_assoc at m n)))

pub count_ext : (f g : ℕ → ℕ) (a b n : ℕ) → ((j : ℕ) → j < n → f (a + j) ≡ g (b + j)) → count f a n ≡ count g b n
unfolding count
count_ext f g a b zero h = refl
count_ext f g a b (suc n) h =
    ap₂ (λ (x y : ℕ). x + y) (count_ext f g a b n (λ j k. h j (omega arith))) (h n (omega arith))

pub count-le : {f : ℕ → ℕ} → Bits f → (at n : ℕ) → count f at n ≤ n
unfolding count
count-le b at zero = zero-le
count-le {f} b at (suc n) = omega (arith, count-le b at n, b (at + n))

-- one octet more
pub count-octet : (s : List ℕ) (k j : ℕ) → get_or s (k + j) 0 < 256
    → count (bits_in 8 s) (k * 8) ((j + 1) * 8) ≡ count (bits_in 8 s) (k * 8) (j * 8) + ones (get_or s (k + j) 0)
count-octet s k j h =
    let e : (j + 1) * 8 ≡ j * 8 + 8 = omega arith in
    let p : k * 8 + j * 8 ≡ (k + j) * 8 = omega arith in
    ap (count (bits_in 8 s) (k * 8)) e ∙ count-split (bits_in 8 s) (k * 8) (j * 8) 8
    ∙ ap (λ (x : ℕ). count (bits_in 8 s) (k * 8) (j * 8) + x)
    (ap (λ (a : ℕ). count (bits_in 8 s) a 8) p ∙ sym (ones-run (bits_in-bits 8 s) ((k + j) * 8) 8)
    ∙ ap ones (run-unit 8 s (k + j) h))

-- the first r bits of an octet, under a mask
pub ones_mask : (s : List ℕ) (k r : ℕ) → get_or s k 0 < 256 → r < 8
    → ones (bit_and (get_or s k 0) (256 - 2 ^ (8 - r))) ≡ count (bits_in 8 s) (k * 8) r
unfolding ones
ones_mask s k r h l =
    let x = get_or s k 0 in
    let q = 8 - r in
    let e : r + q ≡ 8 = omega arith in
    let t : x / 2 ^ q < 2 ^ r = shr_lt r q (subst (λ (y : ℕ). x < 2 ^ y) (sym e) h) in
    ap (λ (y : ℕ). ones (bit_and x (2 ^ y - 2 ^ q))) (sym e)
    ∙ ap ones (and_high x r q ∙ ap (λ (y : ℕ). y * 2 ^ q) (mod-eq_of_lt t) ∙ sym (add-zero (x / 2 ^ q * 2 ^ q)))
    ∙ ones_cat q (x / 2 ^ q) 0 (pow_pos q) ∙ add-zero (ones (x / 2 ^ q))
    ∙ ap ones
    (sym (run_ext (bits_in 8 s) (bit_of 8 x) (k * 8) 0 r
    (λ j i. bits_at 8 s k j (omega arith) ∙ ap (bit_of 8 x) (sym (zero-add j)))
    ∙ run-top 8 x r h (omega arith)))
    ∙ ones-run (bits_in-bits 8 s) (k * 8) r

-- a one is counted, and a bit that is no one is not
pub count-one : (f : ℕ → ℕ) (i : ℕ) → f i ≡ 1 → count f 0 (i + 1) ≡ count f 0 i + 1
unfolding count
count-one f i e = rw add-one (ap (λ (x : ℕ). count f 0 i + x) (ap f (zero-add i) ∙ e))

pub count_none : {f : ℕ → ℕ} → Bits f → (i : ℕ) → (f i ≡ 1 → ⊥) → count f 0 (i + 1) ≡ count f 0 i
unfolding count
count_none {f} b i h = rw add-one (omega (arith, b i, ap f (zero-add i)))

-- more bits have no fewer ones
pub count_mono : (f : ℕ → ℕ) (at i m : ℕ) → i ≤ m → count f at i ≤ count f at m
count_mono f at i m h =
    let e : i + (m - i) ≡ m = omega arith in
    omega (arith, count-split f at i (m - i), ap (count f at) e)

-- one bit more
pub count_next : (f : ℕ → ℕ) (at n : ℕ) → count f at (n + 1) ≡ count f at n + f (at + n)
unfolding count
count_next f at n = ap (count f at) (add-one n)

-- where every bit is a one
pub count_ones : (f : ℕ → ℕ) (at n : ℕ) → ((j : ℕ) → j < n → f (at + j) ≡ 1) → n ≡ count f at n
unfolding count
count_ones f at zero h = refl
count_ones f at (suc n) h =
    omega (arith, count_ones f at n (λ j l. h j (omega arith)), h n (omega arith))

-- past the end there are no ones
pub count-zero : (f : ℕ → ℕ) (at n : ℕ) → ((j : ℕ) → j < n → f (at + j) ≡ 0) → count f at n ≡ 0
unfolding count
count-zero f at zero h = refl
count-zero f at (suc n) h = ap₂ (λ (x y : ℕ). x + y) (count-zero f at n (λ j l. h j (omega arith))) (h n (omega arith))

pub count_past : (s : List ℕ) (at n : ℕ) → Wide 8 s → length s * 8 ≤ at → count (bits_in 8 s) at n ≡ 0
count_past s at n w h = count-zero (bits_in 8 s) at n (λ j l. bits-past 8 s (at + j) w (omega arith))

pub count-inside : (s : List ℕ) (p r c : ℕ) → Wide 8 s → r ≤ c → length s ≤ p + r
    → count (bits_in 8 s) (p * 8) (r * 8) ≡ count (bits_in 8 s) (p * 8) (c * 8)
count-inside s p r c w h l =
    let e : r * 8 + (c - r) * 8 ≡ c * 8 = omega arith in
    sym (ap (count (bits_in 8 s) (p * 8)) (sym e) ∙ count-split (bits_in 8 s) (p * 8) (r * 8) ((c - r) * 8)
    ∙ ap (λ (y : ℕ). count (bits_in 8 s) (p * 8) (r * 8) + y)
    (count_past s (p * 8 + r * 8) ((c - r) * 8) w (omega arith))
    ∙ add-zero (count (bits_in 8 s) (p * 8) (r * 8)))
