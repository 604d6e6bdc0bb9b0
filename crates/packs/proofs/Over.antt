-- Packing by four octets at a time: what each turn leaves, and that the octets after the data are put back.
use mathlib.Core.Path.{◌≡◌, refl, sym, ap, ap₂, ◌∙◌, subst}
use mathlib.Core.List.{List, ◌++◌, append_assoc}
use Prim.Native.Nat.{ℕ, zero, suc, ◌+◌, ◌-◌, ◌*◌, ◌/◌, ◌%◌, ◌^◌, ◌≤◌, ◌<◌, zero-le}
use native.Mathlib.Nat.{zero-add, add-zero, add_assoc, zero-mul, suc-mul, mod-lt, mul-mod_left}
use native.Mathlib.Numerals.{add-one}
use native.Mathlib.Omega.{arith}
use lib.ListN.{length, get_or, take, drop, take-append-drop}
use lib.Seq.{take_at, drop_at, take-append-le, drop-append-add, drop-drop, length-take-le, take-length, take-add}
use lib.Arith.{digits_lt}
use lib.Pow.{pow_pos, pow-add, high, low, shl-shr, mod-pow-add, mod-mod-pow}
use Rattle.bits.specs.Bits.{bits_in, run, runs, octets_for, packed_into, number_at, Wide}
use Rattle.bits.specs.Tables.{tab}
use Rattle.bits.proofs.Runs.{Bits, bits_in-bits, run-split, run-lt, run_ext, run-unit, next}
use Rattle.bits.proofs.Trip.{length_runs, runs_ext, bits-past, runs_own}
use Rattle.bits.proofs.Next.{bits_left}
use Rattle.bits.proofs.Placed.{run-zero, runs-split, runs_number, wide-take}
use Rattle.packs.specs.Cover.{cover, over, Put}

-- shifting left by r and keeping s + r bits keeps s bits
pub shift : (x s r : ℕ) → x * 2 ^ r % 2 ^ (s + r) ≡ x % 2 ^ s * 2 ^ r
shift x s r =
    mod-pow-add (x * 2 ^ r) s r
    ∙ ap₂ (λ (a b : ℕ). a % 2 ^ s * 2 ^ r + b) (shl-shr x r) (mul-mod_left x (2 ^ r)) ∙ add-zero (x % 2 ^ s * 2 ^ r)

module _ (x n v : ℕ) (l : n ≤ 24) (h : v < 2 ^ n) where
  back : 64 - n + n ≡ 64
  back = omega arith

  pub shift_64 : x * 2 ^ n % 2 ^ 64 ≡ x % 2 ^ (64 - n) * 2 ^ n
  shift_64 = ap (λ (w : ℕ). x * 2 ^ n % 2 ^ w) (sym back) ∙ shift x (64 - n) n

  -- what is shifted in does not carry
  pub in_fits : x * 2 ^ n % 2 ^ 64 + v < 2 ^ 64
  in_fits =
      subst (λ (a : ℕ). a + v < 2 ^ 64) (sym shift_64)
      (subst (λ (w : ℕ). x % 2 ^ (64 - n) * 2 ^ n + v < w) (sym (pow-add 2 (64 - n) n) ∙ ap (λ (w : ℕ). 2 ^ w) back)
      (digits_lt (mod-lt x (pow_pos (64 - n))) h))

  -- the last 64 bits, with n bits more
  pub in_turn : (R : ℕ) → x ≡ R % 2 ^ 64 → x * 2 ^ n % 2 ^ 64 + v ≡ (R * 2 ^ n + v) % 2 ^ 64
  in_turn R e =
      let f : n + (64 - n) ≡ 64 = omega arith in
      ap (λ (a : ℕ). a + v) shift_64
      ∙ ap (λ (a : ℕ). a * 2 ^ n + v)
      (ap (λ (a : ℕ). a % 2 ^ (64 - n)) (e ∙ ap (λ (w : ℕ). R % 2 ^ w) (sym f)) ∙ mod-mod-pow R n (64 - n))
      ∙ sym (ap (λ (w : ℕ). (R * 2 ^ n + v) % 2 ^ w) (sym back) ∙ mod-pow-add (R * 2 ^ n + v) (64 - n) n
      ∙ ap₂ (λ (a b : ℕ). a % 2 ^ (64 - n) * 2 ^ n + b) (high R n h) (low R n h))

-- the last s bits of a run, out of its last 64, at the top of 32 bits
pub top_32 : {f : ℕ → ℕ} → Bits f → (x a t s r : ℕ) → x ≡ run f a (t + s) % 2 ^ 64 → s + r ≡ 32
    → x * 2 ^ r % 2 ^ 64 % 2 ^ 32 ≡ run f (a + t) s * 2 ^ r
top_32 {f} b x a t s r e h =
    let g : 64 - s + s ≡ 64 = omega arith in
    mod-mod-pow (x * 2 ^ r) 32 32 ∙ ap (λ (w : ℕ). x * 2 ^ r % 2 ^ w) (sym h) ∙ shift x s r
    ∙ ap (λ (y : ℕ). y * 2 ^ r)
    (ap (λ (y : ℕ). y % 2 ^ s) (e ∙ ap (λ (w : ℕ). run f a (t + s) % 2 ^ w) (sym g))
    ∙ mod-mod-pow (run f a (t + s)) (64 - s) s
    ∙ ap (λ (y : ℕ). y % 2 ^ s) (run-split f a t s) ∙ low (run f a t) s (run-lt b (a + t) s))

pub take_runs : (f : ℕ → ℕ) (at n k c : ℕ) → k ≤ c → take k (runs f at n c) ≡ runs f at n k
take_runs f at n k c h =
    let e : k + (c - k) ≡ c = omega arith in
    ap (λ (x : ℕ). take k (runs f at n x)) (sym e) ∙ ap (take k) (runs-split f at n k (c - k))
    ∙ take_at (runs f at n k) (runs f (at + k * n) n (c - k)) k (length_runs f at n k)

pub cover-low : (n i : ℕ) → n ≤ 24 → octets_for (i * n) ≤ cover n i
unfolding cover
cover-low n zero h = omega (arith, zero-mul n)
cover-low n (suc i) h = omega (arith, suc-mul i n)

pub cover-high : (n i : ℕ) → cover n i ≤ i * n / 8 + 4
unfolding cover
cover-high n zero = zero-le
cover-high n (suc i) = omega (arith, suc-mul i n)

pub cover-next : (n i : ℕ) → cover n (i + 1) ≡ i * n / 8 + 4
unfolding cover
cover-next n i = ap (cover n) (add-one i)

module _ (n : ℕ) (vs : List ℕ) (w : Wide n vs) (l : n ≤ 24) where
  -- the bits of the first i numbers are those of all
  pub bits-first : (i b : ℕ) → i ≤ length vs → b < i * n → bits_in n (take i vs) b ≡ bits_in n vs b
  bits-first i b h k =
      sym (ap (λ (x : List ℕ). bits_in n x b) (sym (take-append-drop i vs))
      ∙ bits_left n (take i vs) (drop i vs) b (subst (λ (x : ℕ). b < x * n) (sym (length-take-le i vs h)) k))

  pub bits_none : (i b : ℕ) → i ≤ length vs → i * n ≤ b → bits_in n (take i vs) b ≡ 0
  bits_none i b h k =
      bits-past n (take i vs) b (wide-take n vs i w) (subst (λ (x : ℕ). x * n ≤ b) (sym (length-take-le i vs h)) k)

  -- the four octets at number i's place
  pub word_at : (x k p i : ℕ) → i < length vs → k * 8 + p ≡ i * n → x ≡ run (bits_in n vs) (k * 8) (p + n) % 2 ^ 64
      → x * 2 ^ (32 - p % 8 - n) % 2 ^ 64 % 2 ^ 32 ≡ run (bits_in n (take (i + 1) vs)) (i * n / 8 * 8) 32
  word_at x k p i h e a =
      let f = bits_in n vs in
      let g = bits_in n (take (i + 1) vs) in
      let t = p / 8 * 8 in
      let s = p % 8 + n in
      let r = 32 - p % 8 - n in
      let c : p + n ≡ t + s = omega arith in
      let d : s + r ≡ 32 = omega arith in
      let o : k * 8 + t ≡ i * n / 8 * 8 = omega arith in
      let m : (i + 1) * n ≡ k * 8 + t + s = omega (arith, next i n) in
      top_32 (bits_in-bits n vs) x (k * 8) t s r (a ∙ ap (λ (y : ℕ). run f (k * 8) y % 2 ^ 64) c) d
      ∙ sym (ap₂ (λ (y z : ℕ). run g y z) (sym o) (sym d) ∙ run-split g (k * 8 + t) s r
      ∙ ap₂ (λ (y z : ℕ). y * 2 ^ r + z)
      (run_ext g f (k * 8 + t) (k * 8 + t) s (λ j q. bits-first (i + 1) (k * 8 + t + j) (omega arith) (omega arith)))
      (run-zero g (k * 8 + t + s) r (λ j q. bits_none (i + 1) (k * 8 + t + s + j) (omega arith) (omega arith)))
      ∙ add-zero (run f (k * 8 + t) s * 2 ^ r))

  -- number i put
  pub over_turn : (d : List ℕ) (i : ℕ) → i < length vs
      → number_at (over n vs i d) (i * n / 8) 4 (run (bits_in n (take (i + 1) vs)) (i * n / 8 * 8) 32)
      ≡ over n vs (i + 1) d
  unfolding number_at over
  over_turn d i h =
      let k = i * n / 8 in
      let c = cover n i in
      let f = bits_in n (take i vs) in
      let g = bits_in n (take (i + 1) vs) in
      let A = runs f 0 8 c in
      let u : octets_for (i * n) ≤ c = cover-low n i l in
      let v : c ≤ k + 4 = cover-high n i in
      let y : length A ≡ c = length_runs f 0 8 c in
      let z : length A + (k + 4 - c) ≡ k + 4 = ap (λ (x : ℕ). x + (k + 4 - c)) y ∙ back c (k + 4) v in
      ap₂ (λ (x y : List ℕ). x ++ y)
      (ap₂ (λ (x y : List ℕ). x ++ y)
      (take-append-le k A (drop c d) (subst (λ (x : ℕ). k ≤ x) (sym y) (omega arith))
      ∙ take_runs f 0 8 k c (omega arith)
      ∙ runs_ext f g 0 0 8 k
      (λ b q. bits-first i (0 + b) (omega arith) (omega arith)
      ∙ sym (bits-first (i + 1) (0 + b) (omega arith) (omega (arith, next i n)))))
      (runs_number (bits_in-bits n (take (i + 1) vs)) (k * 8) 4 ∙ ap (λ (x : ℕ). runs g x 8 4) (sym (zero-add (k * 8))))
      ∙ sym (runs-split g 0 8 k 4))
      (ap (λ (x : ℕ). drop x (A ++ drop c d)) (sym z) ∙ drop-append-add A (drop c d) (k + 4 - c)
      ∙ drop-drop (k + 4 - c) c d ∙ ap (λ (x : ℕ). drop x d) (back c (k + 4) v))
      ∙ ap (λ (x : ℕ). runs g 0 8 x ++ drop x d) (sym (cover-next n i))
    where
      back : (a b : ℕ) → a ≤ b → a + (b - a) ≡ b
      back a b h = omega arith

-- i numbers are put; of the last ones, from octet k on, the p bits are held
abbrev pub State : List ℕ → ℕ → List ℕ → ℕ → List ℕ → ℕ → ℕ → ℕ → ℕ → Type 0
State vs n out₀ i₀ out k p all i =
    (length out ≡ length out₀) × (all ≡ run (bits_in n vs) (k * 8) p % 2 ^ 64) × (k * 8 + p ≡ i * n)
    × Put vs n out₀ i₀ out i

pub state_none : (vs : List ℕ) (n : ℕ) (out : List ℕ) (k i : ℕ) → k * 8 ≡ i * n → State vs n out i out k 0 0 i
unfolding run
state_none vs n out k i e = (refl, refl, add-zero (k * 8) ∙ e, λ d e. e)

pub over_none : (vs : List ℕ) (n : ℕ) (d : List ℕ) → d ≡ over n vs 0 d
unfolding over cover runs tab
over_none vs n d = refl

module _ (n : ℕ) (vs : List ℕ) (w : Wide n vs) (l : n ≤ 24) (out₀ : List ℕ) (i₀ : ℕ) (out : List ℕ) (k p all i : ℕ)
    (s : State vs n out₀ i₀ out k p all i) (h : i < length vs) where
  held : all * 2 ^ n % 2 ^ 64 + get_or vs i 0 ≡ run (bits_in n vs) (k * 8) (p + n) % 2 ^ 64
  held =
      in_turn all n (get_or vs i 0) l (w i) (run (bits_in n vs) (k * 8) p) s.1
      ∙ ap (λ (x : ℕ). x % 2 ^ 64)
      (sym (run-split (bits_in n vs) (k * 8) p n
      ∙ ap (λ (x : ℕ). run (bits_in n vs) (k * 8) p * 2 ^ n + x)
      (ap (λ (a : ℕ). run (bits_in n vs) a n) s.2 ∙ run-unit n vs i (w i))))

  pub state_turn : (out' : List ℕ) → length out' ≡ length out
      → out' ≡ number_at out (k + p / 8) 4
      ((all * 2 ^ n % 2 ^ 64 + get_or vs i 0) * 2 ^ (32 - p % 8 - n) % 2 ^ 64 % 4294967296)
      → State vs n out₀ i₀ out' k (p + n) (all * 2 ^ n % 2 ^ 64 + get_or vs i 0) (i + 1)
  state_turn out' m e =
      let o : k + p / 8 ≡ i * n / 8 = omega (arith, s.2) in (
        m ∙ s.0,
        held,
        sym (add_assoc (k * 8) p n) ∙ ap (λ (x : ℕ). x + n) s.2 ∙ sym (next i n),
        λ d z. e ∙ ap₂ (λ (x y : ℕ). number_at out x 4 y) o
            (word_at n vs w l (all * 2 ^ n % 2 ^ 64 + get_or vs i 0) k p i h s.2 held)
            ∙ ap (λ (x : List ℕ). number_at x (i * n / 8) 4 (run (bits_in n (take (i + 1) vs)) (i * n / 8 * 8) 32))
            (s.3 d z) ∙ over_turn n vs w l d i h,
      )

-- the octets after the data put back
pub restored : (n : ℕ) (vs d : List ℕ) → n ≤ 24 → Wide 8 d → octets_for (length vs * n) + 4 ≤ length d
    → number_at (over n vs (length vs) d) (octets_for (length vs * n)) 4
    (run (bits_in 8 d) (octets_for (length vs * n) * 8) 32) ≡ packed_into n vs d
unfolding number_at over packed_into
restored n vs d l w h =
    let m = length vs in
    let e = octets_for (m * n) in
    let c = cover n m in
    let f = bits_in n vs in
    let F = bits_in n (take m vs) in
    let A = runs F 0 8 c in
    let u : e ≤ c = cover-low n m l in
    let v : c ≤ m * n / 8 + 4 = cover-high n m in
    let y : length A ≡ c = length_runs F 0 8 c in
    let o : c ≤ e + 4 = omega arith in
    let z : length A + (e + 4 - c) ≡ e + 4 = ap (λ (x : ℕ). x + (e + 4 - c)) y ∙ back c (e + 4) o in
    ap₂ (λ (x y : List ℕ). x ++ y)
    (ap₂ (λ (x y : List ℕ). x ++ y)
    (take-append-le e A (drop c d) (subst (λ (x : ℕ). e ≤ x) (sym y) u) ∙ take_runs F 0 8 e c u
    ∙ ap (λ (x : List ℕ). runs (bits_in n x) 0 8 e) (take-length vs))
    (runs_number (bits_in-bits 8 d) (e * 8) 4 ∙ four))
    (ap (λ (x : ℕ). drop x (A ++ drop c d)) (sym z) ∙ drop-append-add A (drop c d) (e + 4 - c)
    ∙ drop-drop (e + 4 - c) c d ∙ ap (λ (x : ℕ). drop x d) (back c (e + 4) o) ∙ sym (drop-drop 4 e d))
    ∙ append_assoc (runs f 0 8 e) (take 4 (drop e d)) (drop 4 (drop e d))
    ∙ ap (λ (x : List ℕ). runs f 0 8 e ++ x) (take-append-drop 4 (drop e d))
  where
    back : (a b : ℕ) → a ≤ b → a + (b - a) ≡ b
    back a b h = omega arith

    E : ℕ
    E = octets_for (length vs * n)

    four : runs (bits_in 8 d) (E * 8) 8 4 ≡ take 4 (drop E d)
    four =
        ap (λ (x : ℕ). runs (bits_in 8 d) x 8 4) (sym (zero-add (E * 8)))
        ∙ sym (drop_at (runs (bits_in 8 d) 0 8 E) (runs (bits_in 8 d) (0 + E * 8) 8 4) E (length_runs (bits_in 8 d) 0 8 E))
        ∙ ap (drop E) (sym (runs-split (bits_in 8 d) 0 8 E 4) ∙ runs_own 8 d (E + 4) w h ∙ take-add E 4 d)
        ∙ drop_at (take E d) (take 4 (drop E d)) E (length-take-le E d (omega (arith, h)))
