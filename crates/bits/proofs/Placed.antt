-- A number of n bits put at a bit place (`put_at`): the octets that it touches are one number, made of the bits kept
-- before it, its own and zeros. Then the turns of the loop that packs, and that a number of whole octets is read back.
use mathlib.Core.Path.{◌≡◌, refl, sym, ap, ap₂, ◌∙◌, subst}
use mathlib.Core.List.{List, [], ◌∷◌, ◌++◌, append_assoc, append-nil}
use Prim.Native.Nat.{ℕ, zero, suc, ◌+◌, ◌-◌, ◌*◌, ◌/◌, ◌%◌, ◌^◌, ◌≤◌, ◌<◌}
use native.Mathlib.Nat.{zero-add, add-zero, add-suc, add-mul, add_assoc, one-mul, zero-mul, lt_of_lt_of_le}
use native.Mathlib.Nat.{div-add-mod'}
use native.Mathlib.Omega.{arith}
use lib.Arith.{digits_lt}
use lib.Pow.{pow_pos, pow_mono, pow-add, shr_lt, shl_exact}
use native.Mathlib.Numerals.{add-one}
use mathlib.Core.Logic.{⊎_elim}
use lib.ListN.{length, get_or, take, drop, length-take, get_or-eq_default}
use lib.Seq.{get_or-take, take-suc, length-take-le}
use Rattle.bits.specs.Bits.{bit_of, bits_in, run, runs, join, octets_for, put_at, number_at, packed_into, Wide}
use Rattle.bits.specs.Tables.{tab}
use Rattle.bits.proofs.Runs.{Bits, bits_in-bits, bit_of-bits, run-word, run-lt, run_ext, run-split, run-top}
use Rattle.bits.proofs.Runs.{run-unit, bits_at, lt_or_ge}
use Rattle.bits.proofs.Trip.{bits-runs, runs_ext, runs_own, bit-run, bits-past}
use Rattle.bits.proofs.Next.{bits-after, join-lt, join_ge, join-bits, put-packed_into}

pub run-zero : (f : ℕ → ℕ) (a r : ℕ) → ((j : ℕ) → j < r → f (a + j) ≡ 0) → run f a r ≡ 0
unfolding run
run-zero f a zero h = refl
run-zero f a (suc r) h = ap₂ (λ (x y : ℕ). x * 2 + y) (run-zero f a r (λ j l. h j (omega arith))) (h r (omega arith))

pub runs-split : (f : ℕ → ℕ) (at n a b : ℕ) → runs f at n (a + b) ≡ runs f at n a ++ runs f (at + a * n) n b
unfolding runs tab
runs-split f at n a zero = ap (runs f at n) (add-zero a) ∙ sym (append-nil (runs f at n a))
runs-split f at n a (suc b) =
    let e : at + (a + b) * n ≡ at + a * n + b * n = rw add-mul (omega arith) in
    ap (tab (λ k. run f (at + k * n) n)) (add-suc a b)
    ∙ ap₂ (λ (x : List ℕ) (y : ℕ). x ++ (run f y n ∷ [])) (runs-split f at n a b) e
    ∙ append_assoc (runs f at n a) (runs f (at + a * n) n b) (run f (at + a * n + b * n) n ∷ [])

pub wide-one : (n v : ℕ) → v < 2 ^ n → Wide n (v ∷ [])
wide-one n v h zero = h
wide-one n v h (suc k) = pow_pos n

-- the octets of a number are its bits eight at a time
pub runs_number : {f : ℕ → ℕ} → Bits f → (a c : ℕ) → runs (bit_of (c * 8) (run f a (c * 8))) 0 8 c ≡ runs f a 8 c
runs_number {f} b a c =
    runs_ext (bit_of (c * 8) (run f a (c * 8))) f 0 a 8 c
    (λ i l. ap (bit_of (c * 8) (run f a (c * 8))) (zero-add i) ∙ bit-run b a (c * 8) i l)

module _ (s : List ℕ) (at n v : ℕ) (b : Wide 8 s) (h : v < 2 ^ n) where
  unfoldable pub F : ℕ → ℕ
  F = join at (bits_in 8 s) (bits_in n (v ∷ []))

  abbrev k : ℕ
  k = at / 8

  abbrev skip : ℕ
  skip = at % 8

  bits_f : Bits F
  unfolding F
  bits_f = join-bits at (bits_in 8 s) (bits_in n (v ∷ [])) (bits_in-bits 8 s) (bits_in-bits n (v ∷ []))

  before : (i : ℕ) → i < at → F i ≡ bits_in 8 s i
  unfolding F
  before i l = join-lt at (bits_in 8 s) (bits_in n (v ∷ [])) i l

  after : (j : ℕ) → F (at + j) ≡ bits_in n (v ∷ []) j
  unfolding F
  after j =
      let e : at + j - at ≡ j = omega arith in
      join_ge at (bits_in 8 s) (bits_in n (v ∷ [])) (at + j) (omega arith) ∙ ap (bits_in n (v ∷ [])) e

  kept : run F (k * 8) skip ≡ get_or s k 0 / 2 ^ (8 - skip)
  kept =
      run_ext F (bit_of 8 (get_or s k 0)) (k * 8) 0 skip
      (λ j l. before (k * 8 + j) (omega arith) ∙ bits_at 8 s k j (omega arith)
      ∙ ap (bit_of 8 (get_or s k 0)) (sym (zero-add j)))
      ∙ run-top 8 (get_or s k 0) skip (b k) (omega arith)

  value : run F at n ≡ v
  value =
      run_ext F (bits_in n (v ∷ [])) at (0 * n) n
      (λ j l. after j ∙ ap (bits_in n (v ∷ [])) (sym (zero-add j) ∙ ap (λ (x : ℕ). x + j) (sym (zero-mul n))))
      ∙ run-unit n (v ∷ []) 0 h

  zeros : (r : ℕ) → run F (at + n) r ≡ 0
  zeros r = run-zero F (at + n) r
      (λ j l. ap F (add_assoc at n j) ∙ after (n + j)
      ∙ bits-past n (v ∷ []) (n + j) (wide-one n v h) (omega (arith, one-mul n)))

  pub all_law : (c r : ℕ) → skip + n + r ≡ c * 8
      → (get_or s k 0 / 2 ^ (8 - skip) * 2 ^ n + v) * 2 ^ r ≡ run F (k * 8) (c * 8)
  all_law c r e =
      let q : k * 8 + skip ≡ at = div-add-mod' at 8 in
      sym (ap (run F (k * 8)) (sym e) ∙ run-split F (k * 8) (skip + n) r
      ∙ ap₂ (λ (x y : ℕ). x * 2 ^ r + y)
      (run-split F (k * 8) skip n ∙ ap₂ (λ (x y : ℕ). x * 2 ^ n + y) kept (ap (λ (x : ℕ). run F x n) q ∙ value))
      (ap (λ (x : ℕ). run F x r) (sym (add_assoc (k * 8) skip n) ∙ ap (λ (x : ℕ). x + n) q) ∙ zeros r)
      ∙ add-zero ((get_or s k 0 / 2 ^ (8 - skip) * 2 ^ n + v) * 2 ^ r))

  pub put_law : (c : ℕ) → k + c ≡ octets_for (at + n) → k ≤ length s
      → number_at s k c (run F (k * 8) (c * 8)) ≡ put_at s at n v
  unfolding number_at put_at F
  put_law c e l =
      ap (λ (x : List ℕ). x ++ drop (k + c) s)
      (ap₂ (λ (x y : List ℕ). x ++ y)
      (sym (runs_own 8 s k b l)
      ∙ sym (runs_ext F (bits_in 8 s) 0 0 8 k
      (λ i j. ap F (zero-add i) ∙ before i (omega arith) ∙ ap (bits_in 8 s) (sym (zero-add i)))))
      (runs_number bits_f (k * 8) c ∙ ap (λ (x : ℕ). runs F x 8 c) (sym (zero-add (k * 8))))
      ∙ sym (runs-split F 0 8 k c))
      ∙ ap (λ (x : ℕ). runs F 0 8 x ++ drop x s) e

  -- the machine's shifts lose nothing
  top : ℕ
  top = get_or s k 0 / 2 ^ (8 - skip)

  top_lt : top < 2 ^ skip
  unfolding top
  top_lt =
      let e : skip + (8 - skip) ≡ 8 = omega arith in
      shr_lt skip (8 - skip) (subst (λ (y : ℕ). get_or s k 0 < 2 ^ y) (sym e) (b k))

  sum_lt : top * 2 ^ n + v < 2 ^ (skip + n)
  sum_lt = subst (λ (y : ℕ). top * 2 ^ n + v < y) (sym (pow-add 2 skip n)) (digits_lt top_lt h)

  first-shift : n ≤ 32 → top * 2 ^ n % 2 ^ 64 ≡ top * 2 ^ n
  first-shift m = shl_exact skip n 64 top_lt (omega arith)

  pub add-fits : n ≤ 32 → get_or s k 0 / 2 ^ (8 - skip) * 2 ^ n % 2 ^ 64 + v < 2 ^ 64
  unfolding top
  add-fits m = rw (first-shift m) (lt_of_lt_of_le sum_lt (pow_mono {j = 64} (omega arith)))

  pub machine : n ≤ 32 → (c r : ℕ) → skip + n + r ≡ c * 8 → c ≤ 8
      → (get_or s k 0 / 2 ^ (8 - skip) * 2 ^ n % 2 ^ 64 + v) * 2 ^ r % 2 ^ 64 ≡ run F (k * 8) (c * 8)
  unfolding top
  machine m c r e l =
      ap (λ (y : ℕ). (y + v) * 2 ^ r % 2 ^ 64) (first-shift m) ∙ shl_exact (skip + n) r 64 sum_lt (omega arith)
      ∙ all_law c r e

  pub all-lt : (c : ℕ) → run F (k * 8) (c * 8) < 2 ^ (c * 8)
  all-lt c = run-lt bits_f (k * 8) (c * 8)

pub wide-take : (n : ℕ) (vs : List ℕ) (m : ℕ) → Wide n vs → Wide n (take m vs)
wide-take n vs m h k = ⊎_elim
    (λ l. subst (λ (x : ℕ). x < 2 ^ n) (sym (get_or-take m vs k 0 l)) (h k))
    (λ g. subst (λ (x : ℕ). x < 2 ^ n)
    (sym (get_or-eq_default (take m vs) 0 (subst (λ (x : ℕ). x ≤ k) (sym (length-take m vs)) (omega arith))))
    (pow_pos n))
    (lt_or_ge k m)

-- the loop that packs: where it begins, and a turn
pub pack-none : (n : ℕ) (vs s : List ℕ) → s ≡ packed_into n (take 0 vs) s
unfolding packed_into runs tab
pack-none n vs s = sym (ap (λ (x : ℕ). runs (bits_in n []) 0 8 (octets_for x) ++ drop (octets_for x) s) (zero-mul n))

pub pack_turn : (n : ℕ) (vs s : List ℕ) (i : ℕ) → Wide n vs → i < length vs
    → put_at (packed_into n (take i vs) s) (i * n) n (get_or vs i 0) ≡ packed_into n (take (i + 1) vs) s
pack_turn n vs s i h l =
    let v = get_or vs i 0 in
    let e : take i vs ++ (v ∷ []) ≡ take (i + 1) vs = sym (ap (λ (x : ℕ). take x vs) (add-one i) ∙ take-suc vs i 0 l) in
    let m : length (take i vs) ≡ i = length-take-le i vs (omega arith) in
    ap (λ (x : ℕ). put_at (packed_into n (take i vs) s) (x * n) n v) (sym m)
    ∙ put-packed_into n (take i vs) v s (subst (Wide n) (sym e) (wide-take n vs (i + 1) h)) (wide-one n v (h i))
    ∙ ap (λ (x : List ℕ). packed_into n x s) e

-- a number that was put is read back
pub number-back : (s : List ℕ) (k c x : ℕ) → k + c ≤ length s → x < 2 ^ (c * 8)
    → run (bits_in 8 (number_at s k c x)) (k * 8) (c * 8) ≡ x
unfolding number_at
number-back s k c x l h =
    let f = bit_of (c * 8) x in
    let A = take k s in
    let R = runs f 0 8 c in
    let D = drop (k + c) s in
    let m : length A ≡ k = length-take-le k s (omega arith) in
    run_ext (bits_in 8 ((A ++ R) ++ D)) f (k * 8) 0 (c * 8)
    (λ i b. ap₂ (λ (y : List ℕ) (z : ℕ). bits_in 8 y (z * 8 + i)) (append_assoc A R D) (sym m)
    ∙ bits-after 7 A (R ++ D) i ∙ bits-runs (bit_of-bits (c * 8) x) 0 8 c D i b)
    ∙ run-word (c * 8) x h
