-- The laws of runs of bits.
use mathlib.Core.Path.{◌≡◌, refl, sym, ap, ap₂, ◌∙◌, subst}
use Prim.Native.Nat.{ℕ, zero, suc, ◌+◌, ◌-◌, ◌*◌, ◌/◌, ◌%◌, ◌^◌, ◌≤◌, ◌<◌}
use native.Mathlib.Nat.{add-zero, add-suc, add_assoc, add-mul, mul_assoc, pow-suc, mod-lt, zero-lt-suc, zero-sub}
use native.Mathlib.Nat.{div-zero, div-one, div-eq_of_lt, div-add-mod', div-div-eq-div-mul, zero-add, one-mul}
use native.Mathlib.Nat.{lt_of_lt_of_le, mul-le-mul_right}
use native.Mathlib.Numerals.{add-one-le}
use native.Mathlib.Omega.{arith}
use mathlib.Core.List.{List}
use mathlib.Core.Logic.{◌⊎◌, inl, inr}
use native.Mathlib.Decide.{dec_lt}
use lib.ListN.{get_or}
use lib.Arith.{digits_lt, digits_div, digits_mod}
use lib.Pow.{pow_mono, high, low, shl_exact}
use lib.Dec.{lit<}
use Rattle.bits.specs.Bits.{bit_of, bits_in, run}

-- f is a sequence of bits
abbrev pub Bits : (ℕ → ℕ) → Type 0
Bits f = (i : ℕ) → f i < 2

pub bits_in-bits : (w : ℕ) (xs : List ℕ) → Bits (bits_in w xs)
unfolding bits_in bit_of
bits_in-bits w xs i = mod-lt (get_or xs (i / w) 0 / 2 ^ (w - 1 - i % w)) (zero-lt-suc 1)

-- at width 0 every place reads the lowest bit of the first number
pub no-width : (xs : List ℕ) (i : ℕ) → bits_in 0 xs i ≡ get_or xs 0 0 % 2
unfolding bits_in bit_of
no-width xs i =
    ap₂ (λ (k e : ℕ). get_or xs k 0 / 2 ^ e % 2) (div-zero i) (zero-sub (i % 0))
    ∙ ap (λ (x : ℕ). x % 2) (div-one (get_or xs 0 0))

-- (d) n bits make a number below 2 ^ n
pub run-lt : {f : ℕ → ℕ} → Bits f → (at n : ℕ) → run f at n < 2 ^ n
unfolding run
run-lt b at zero = zero-lt-suc 0
run-lt b at (suc n) = rw pow-suc (digits_lt (run-lt b at n) (b (at + n)))

-- m bits and then n bits
pub run-split : (f : ℕ → ℕ) (at m n : ℕ) → run f at (m + n) ≡ run f at m * 2 ^ n + run f (at + m) n
unfolding run
run-split f at m zero = rw add-zero (omega arith)
run-split f at m (suc n) =
    rw (add-suc, run-split f at m n, pow-suc, ← add_assoc, add-mul, ← mul_assoc) (omega (arith, add_assoc at m n))

-- two runs whose bits agree are equal
pub run_ext : (f g : ℕ → ℕ) (a b n : ℕ) → ((j : ℕ) → j < n → f (a + j) ≡ g (b + j)) → run f a n ≡ run g b n
unfolding run
run_ext f g a b zero h = refl
run_ext f g a b (suc n) h =
    ap₂ (λ (x y : ℕ). x * 2 + y) (run_ext f g a b n (λ j k. h j (omega arith))) (h n (omega arith))

-- n bits out of a longer run: drop the r bits after them, and the bits before them
pub run-field : {f : ℕ → ℕ} → Bits f → (at i n r : ℕ) → run f at (i + n + r) / 2 ^ r % 2 ^ n ≡ run f (at + i) n
run-field {f} b at i n r =
    ap (λ (x : ℕ). x / 2 ^ r % 2 ^ n) (run-split f at (i + n) r)
    ∙ ap (λ (x : ℕ). x % 2 ^ n) (high (run f at (i + n)) r (run-lt b (at + (i + n)) r))
    ∙ ap (λ (x : ℕ). x % 2 ^ n) (run-split f at i n)
    ∙ low (run f at i) n (run-lt b (at + i) n)

-- the first m bits of a number of w bits
pub run-top : (w x m : ℕ) → x < 2 ^ w → m ≤ w → run (bit_of w x) 0 m ≡ x / 2 ^ (w - m)
unfolding run bit_of
run-top w x zero h k = sym (div-eq_of_lt (subst (λ (y : ℕ). x < 2 ^ y) (omega arith) h))
run-top w x (suc m) h k =
    let e : w - m ≡ suc (w - suc m) = omega arith in
    let p : w - 1 - (0 + m) ≡ w - suc m = omega arith in
    ap₂ (λ (a b : ℕ). a * 2 + x / 2 ^ b % 2) (run-top w x m h (omega arith)) p
    ∙ ap (λ (a : ℕ). a * 2 + x / 2 ^ (w - suc m) % 2)
    (ap (λ (b : ℕ). x / 2 ^ b) e ∙ ap (λ (b : ℕ). x / b) (pow-suc 2 (w - suc m))
    ∙ sym (div-div-eq-div-mul x (2 ^ (w - suc m)) 2))
    ∙ div-add-mod' (x / 2 ^ (w - suc m)) 2

-- the bits of a number of w bits make the number
pub run-word : (w x : ℕ) → x < 2 ^ w → run (bit_of w x) 0 w ≡ x
run-word w x h =
    let e : w - w ≡ 0 = omega arith in
    run-top w x w h (omega arith) ∙ ap (λ (a : ℕ). x / 2 ^ a) e ∙ div-one x

-- bit j of number k of a list of numbers of w bits
pub bits_at : (w : ℕ) (xs : List ℕ) (k j : ℕ) → j < w → bits_in w xs (k * w + j) ≡ bit_of w (get_or xs k 0) j
unfolding bits_in
bits_at w xs k j h = ap₂ (λ (a b : ℕ). bit_of w (get_or xs a 0) b) (digits_div k h) (digits_mod k h)

-- the w bits of number k make that number
pub run-unit : (w : ℕ) (xs : List ℕ) (k : ℕ) → get_or xs k 0 < 2 ^ w → run (bits_in w xs) (k * w) w ≡ get_or xs k 0
run-unit w xs k h =
    run_ext (bits_in w xs) (bit_of w (get_or xs k 0)) (k * w) 0 w
    (λ j b. bits_at w xs k j b ∙ ap (bit_of w (get_or xs k 0)) (sym (zero-add j))) ∙ run-word w (get_or xs k 0) h

-- one octet more
pub run-octet : (s : List ℕ) (k j : ℕ) → get_or s (k + j) 0 < 256
    → run (bits_in 8 s) (k * 8) ((j + 1) * 8) ≡ run (bits_in 8 s) (k * 8) (j * 8) * 256 + get_or s (k + j) 0
run-octet s k j h =
    let e : (j + 1) * 8 ≡ j * 8 + 8 = omega arith in
    let p : k * 8 + j * 8 ≡ (k + j) * 8 = omega arith in
    ap (run (bits_in 8 s) (k * 8)) e ∙ run-split (bits_in 8 s) (k * 8) (j * 8) 8
    ∙ ap (λ (x : ℕ). run (bits_in 8 s) (k * 8) (j * 8) * 256 + x)
    (ap (λ (a : ℕ). run (bits_in 8 s) a 8) p ∙ run-unit 8 s (k + j) h)

-- at most m bits make a number below 2 ^ m
pub run-below : {f : ℕ → ℕ} → Bits f → (at n m : ℕ) → n ≤ m → run f at n < 2 ^ m
run-below b at n m h = lt_of_lt_of_le (run-lt b at n) (pow_mono h)

-- (a) n bits out of the c octets that they touch, of which r bits follow them
pub run_touched : (s : List ℕ) (at n c r : ℕ) → at % 8 + n + r ≡ c * 8
    → run (bits_in 8 s) (at / 8 * 8) (c * 8) / 2 ^ r % 2 ^ n ≡ run (bits_in 8 s) at n
run_touched s at n c r e =
    ap (λ (x : ℕ). run (bits_in 8 s) (at / 8 * 8) x / 2 ^ r % 2 ^ n) (sym e)
    ∙ run-field (bits_in-bits 8 s) (at / 8 * 8) (at % 8) n r
    ∙ ap (λ (x : ℕ). run (bits_in 8 s) x n) (div-add-mod' at 8)

-- what the machine's `1 << n` is
pub one_shl : (w n : ℕ) → n < w → (1 * 2 ^ n) % 2 ^ w ≡ 2 ^ n
one_shl w n h = shl_exact {a = 1} 1 n w (lit< tt) (omega arith) ∙ one-mul (2 ^ n)

-- the next of numbers of n bits each, and that there is room for it
pub next : (i n : ℕ) → (i + 1) * n ≡ i * n + n
next i n = add-mul i 1 n ∙ ap (λ (x : ℕ). i * n + x) (one-mul n)

pub next_le : (i m n : ℕ) → i < m → i * n + n ≤ m * n
next_le i m n h = subst (λ (x : ℕ). x ≤ m * n) (next i n) (mul-le-mul_right n (add-one-le h))

pub lt_or_ge : (i n : ℕ) → (i < n) ⊎ (n ≤ i)
lt_or_ge i n = go (dec_lt i n)
  where
    go : Dec (i < n) → (i < n) ⊎ (n ≤ i)
    go (yes h) = inl h
    go (no h) = inr (omega arith)

pub bit_of-bits : (w x : ℕ) → Bits (bit_of w x)
unfolding bit_of
bit_of-bits w x j = mod-lt (x / 2 ^ (w - 1 - j)) (zero-lt-suc 1)

-- octet j of a number of c octets
pub octet-of : (x c j : ℕ) → x < 2 ^ (c * 8) → j < c
    → x / 2 ^ ((c - 1 - j) * 8) % 256 ≡ run (bit_of (c * 8) x) (0 + j * 8) 8
octet-of x c j h l =
    let r = (c - 1 - j) * 8 in
    let e : c * 8 ≡ j * 8 + 8 + r = omega arith in
    ap (λ (y : ℕ). y / 2 ^ r % 256) (sym (run-word (c * 8) x h) ∙ ap (run (bit_of (c * 8) x) 0) e)
    ∙ run-field (bit_of-bits (c * 8) x) 0 (j * 8) 8 r
