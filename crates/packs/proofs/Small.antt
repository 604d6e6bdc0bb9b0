-- Eight numbers of up to eight bits at a time: they fill whole octets.
use mathlib.Core.Path.{◌≡◌, refl, sym, ap, ap₂, ◌∙◌, subst}
use mathlib.Core.List.{List, ◌++◌}
use mathlib.Core.Logic.{⊎_elim}
use Prim.Native.Nat.{ℕ, zero, suc, ◌+◌, ◌-◌, ◌*◌, ◌/◌, ◌%◌, ◌^◌, ◌≤◌, ◌<◌}
use native.Mathlib.Nat.{zero-add, add-zero, zero-mul, mul-zero, add-mul, mul-le-mul, mul-le-mul_right}
use native.Mathlib.Nat.{not-suc-le-zero, le_of_suc-le-suc}
use native.Mathlib.Omega.{arith}
use lib.ListN.{length, get_or, take, drop, length-append, length-drop, take-append-drop}
use lib.Pow.{shl_exact}
use lib.Seq.{take_at, take-append-le, drop-append-add, drop-drop, length-take-le, get_or-take, get_or-drop}
use Rattle.bits.specs.Bits.{bit_of, bits_in, run, runs, octets_for, packed_into, number_at, Wide}
use Rattle.bits.proofs.Runs.{bits_in-bits, run-split, run_ext, run-unit, run-lt, run-below, next, lt_or_ge}
use Rattle.bits.proofs.Trip.{length_runs, runs_ext}
use Rattle.bits.proofs.Placed.{run-zero, runs-split, runs_number}
use Rattle.packs.proofs.Over.{bits-first, bits_none, take_runs}

-- the power multiplied by
pub power-is : (n : ℕ) → n ≤ 8 → 255 / 2 ^ (8 - n) + 1 ≡ 2 ^ n
power-is zero h = refl
power-is (suc zero) h = refl
power-is (suc (suc zero)) h = refl
power-is (suc (suc (suc zero))) h = refl
power-is (suc (suc (suc (suc zero)))) h = refl
power-is (suc (suc (suc (suc (suc zero))))) h = refl
power-is (suc (suc (suc (suc (suc (suc zero)))))) h = refl
power-is (suc (suc (suc (suc (suc (suc (suc zero))))))) h = refl
power-is (suc (suc (suc (suc (suc (suc (suc (suc zero)))))))) h = refl
power-is (suc (suc (suc (suc (suc (suc (suc (suc (suc n))))))))) h =
    absurd (not-suc-le-zero
    (le_of_suc-le-suc
    (le_of_suc-le-suc
    (le_of_suc-le-suc
    (le_of_suc-le-suc (le_of_suc-le-suc (le_of_suc-le-suc (le_of_suc-le-suc (le_of_suc-le-suc h)))))))))

-- the numbers held: none, one more
pub held_none : (n : ℕ) (vs : List ℕ) (i : ℕ) → 0 ≡ run (bits_in n vs) (i * n) (0 * n)
unfolding run
held_none n vs i = ap (run (bits_in n vs) (i * n)) (sym (zero-mul n))

pub held_more : (n : ℕ) (vs : List ℕ) → Wide n vs → (i j all power : ℕ) → power ≡ 2 ^ n
    → all ≡ run (bits_in n vs) (i * n) (j * n)
    → all * power + get_or vs (i + j) 0 ≡ run (bits_in n vs) (i * n) ((j + 1) * n)
held_more n vs w i j all power p e =
    let f = bits_in n vs in
    ap₂ (λ (x y : ℕ). x * y + get_or vs (i + j) 0) e p
    ∙ sym (ap (run f (i * n)) (next j n) ∙ run-split f (i * n) (j * n) n
    ∙ ap (λ (x : ℕ). run f (i * n) (j * n) * 2 ^ n + x)
    (ap (λ (a : ℕ). run f a n) (sym (add-mul i j n)) ∙ run-unit n vs (i + j) (w (i + j))))

-- the eight numbers from number i on
module _ (vs : List ℕ) (i : ℕ) where
  pub eight-long : i + 8 ≤ length vs → length (take (i + 8 - i) (drop i vs)) ≡ 8
  eight-long h = let l = length-drop i vs in length-take-le (i + 8 - i) (drop i vs) (omega arith) ∙ omega arith

  pub eight-at : (j : ℕ) → j < 8 → get_or (take (i + 8 - i) (drop i vs)) j 0 ≡ get_or vs (i + j) 0
  eight-at j h = get_or-take (i + 8 - i) (drop i vs) j 0 (omega arith) ∙ get_or-drop i vs j 0

pub held_fits : (n : ℕ) (vs : List ℕ) → n ≤ 8 → (i j all power v : ℕ) → j < 8
    → all * power + v ≡ run (bits_in n vs) (i * n) ((j + 1) * n)
    → (all * power < 2 ^ 64) × (all * power + v < 2 ^ 64)
held_fits n vs l i j all power v h e =
    let t : j + 1 ≤ 8 = omega arith in
    let m : (j + 1) * n ≤ 8 * 8 = mul-le-mul t l in
    let f : all * power + v < 2 ^ 64 = subst (λ (y : ℕ). y < 2 ^ 64) (sym e) (run-below (bits_in-bits n vs) (i * n) ((j + 1) * n) 64 m) in
    (omega arith, f)

-- eight numbers more, stored as n octets
pub small_turn : (n : ℕ) (vs d : List ℕ) (i k : ℕ) → Wide n vs → n ≤ 8 → i + 8 ≤ length vs → k * 8 ≡ i * n
    → number_at (packed_into n (take i vs) d) k n (run (bits_in n vs) (i * n) (8 * n)) ≡ packed_into n (take (i + 8) vs) d
unfolding number_at packed_into
small_turn n vs d i k w l h e =
    let f = bits_in n vs in
    let F = bits_in n (take i vs) in
    let g = bits_in n (take (i + 8) vs) in
    let a : octets_for (length (take i vs) * n) ≡ k = ap (λ (x : ℕ). octets_for (x * n)) (length-take-le i vs (omega arith)) ∙ omega arith in
    let m : (i + 8) * n ≡ (k + n) * 8 = add-mul i 8 n ∙ omega arith in
    let b : octets_for (length (take (i + 8) vs) * n) ≡ k + n = ap (λ (x : ℕ). octets_for (x * n)) (length-take-le (i + 8) vs h) ∙ omega (arith, m) in
    let A = runs F 0 8 k in
    let y : length A ≡ k = length_runs F 0 8 k in
    let r : 8 * n ≡ n * 8 = omega arith in
    ap (λ (x : ℕ). (take k (runs F 0 8 x ++ drop x d) ++ runs (bit_of (n * 8) (run f (i * n) (8 * n))) 0 8 n)
    ++ drop (k + n) (runs F 0 8 x ++ drop x d)) a
    ∙ ap₂ (λ (x z : List ℕ). x ++ z)
    (ap₂ (λ (x z : List ℕ). x ++ z)
    (take_at A (drop k d) k y
    ∙ runs_ext F g 0 0 8 k
    (λ c q. bits-first n vs w (omega arith) i (0 + c) (omega arith) (omega arith)
    ∙ sym (bits-first n vs w (omega arith) (i + 8) (0 + c) h (omega (arith, m)))))
    (ap (λ (x : ℕ). runs (bit_of (n * 8) x) 0 8 n) (ap₂ (run f) (sym e) r) ∙ runs_number (bits_in-bits n vs) (k * 8) n
    ∙ runs_ext f g (k * 8) (0 + k * 8) 8 n
    (λ c q. sym
    (ap g (ap (λ (x : ℕ). x + c) (zero-add (k * 8)))
    ∙ bits-first n vs w (omega arith) (i + 8) (k * 8 + c) h (omega (arith, m)))))
    ∙ sym (runs-split g 0 8 k n))
    (ap (λ (x : ℕ). drop (x + n) (A ++ drop k d)) (sym y) ∙ drop-append-add A (drop k d) n ∙ drop-drop n k d)
    ∙ ap (λ (x : ℕ). runs g 0 8 x ++ drop x d) (sym b)

-- while eight octets more lie in the data, so do eight numbers, and they have bits
pub more_left : (n len i k : ℕ) → n ≤ 8 → k * 8 ≡ i * n → k + 8 ≤ octets_for (len * n) → (i + 8 ≤ len) × (1 ≤ n)
more_left n len i k l e h = (⊎_elim few (λ g. g) (lt_or_ge len (i + 8)), some n h)
  where
    few : len < i + 8 → i + 8 ≤ len
    few g = let m = mul-le-mul_right {m = len} {n = i + 7} n (omega arith) in omega (arith, m, add-mul i 7 n)

    some : (w : ℕ) → k + 8 ≤ octets_for (len * w) → 1 ≤ w
    some zero g = omega (arith, mul-zero len)
    some (suc w) g = omega arith

-- eight numbers more, at the top of eight octets: zeros follow them, to be stored over
module _ (n : ℕ) (vs out : List ℕ) (i k x : ℕ) (w : Wide n vs) (l : n ≤ 8) (h : i + 8 ≤ length vs) (e : k * 8 ≡ i * n)
    (v : x ≡ run (bits_in n vs) (i * n) (8 * n)) where
  abbrev g : ℕ → ℕ
  g = bits_in n (take (i + 8) vs)

  after : (i + 8) * n ≡ k * 8 + 8 * n
  after = add-mul i 8 n ∙ ap (λ (y : ℕ). y + 8 * n) (sym e)

  same : (b : ℕ) → b < (i + 8) * n → g b ≡ bits_in n vs b
  same b = bits-first n vs w (omega arith) (i + 8) b h

  topped : x * 2 ^ (64 - 8 * n) % 2 ^ 64 ≡ run g (k * 8) (8 * 8)
  topped =
      let r = 64 - 8 * n in
      let s : 8 * n + r ≡ 8 * 8 = omega arith in
      shl_exact {a = x} (8 * n) r 64
      (subst (λ (y : ℕ). y < 2 ^ (8 * n)) (sym v) (run-lt (bits_in-bits n vs) (i * n) (8 * n))) (omega arith)
      ∙ sym (ap (run g (k * 8)) (sym s) ∙ run-split g (k * 8) (8 * n) r
      ∙ ap₂ (λ (y z : ℕ). y * 2 ^ r + z)
      (run_ext g (bits_in n vs) (k * 8) (i * n) (8 * n)
      (λ j q. same (k * 8 + j) (omega (arith, after)) ∙ ap (λ (y : ℕ). bits_in n vs (y + j)) e) ∙ sym v)
      (run-zero g (k * 8 + 8 * n) r
      (λ j q. bits_none n vs w (omega arith) (i + 8) (k * 8 + 8 * n + j) h (omega (arith, after))))
      ∙ add-zero (x * 2 ^ r))

  stored : out ≡ packed_into n (take i vs) out
      → number_at out k 8 (x * 2 ^ (64 - 8 * n) % 2 ^ 64) ≡ runs g 0 8 (k + 8) ++ drop (k + 8) out
  unfolding number_at packed_into
  stored o =
      let F = bits_in n (take i vs) in
      let a : octets_for (length (take i vs) * n) ≡ k = ap (λ (y : ℕ). octets_for (y * n)) (length-take-le i vs (omega arith)) ∙ omega arith in
      ap (λ (y : List ℕ). y ++ drop (k + 8) out)
      (ap₂ (λ (y z : List ℕ). y ++ z)
      (ap (take k) (o ∙ ap (λ (y : ℕ). runs F 0 8 y ++ drop y out) a)
      ∙ take_at (runs F 0 8 k) (drop k out) k (length_runs F 0 8 k)
      ∙ runs_ext F g 0 0 8 k
      (λ c q. bits-first n vs w (omega arith) i (0 + c) (omega arith) (omega arith)
      ∙ sym (same (0 + c) (omega (arith, after)))))
      (ap (λ (y : ℕ). runs (bit_of (8 * 8) y) 0 8 8) topped ∙ runs_number (bits_in-bits n (take (i + 8) vs)) (k * 8) 8
      ∙ ap (λ (y : ℕ). runs g y 8 8) (sym (zero-add (k * 8))))
      ∙ sym (runs-split g 0 8 k 8))

  pub ahead_turn : (out' : List ℕ) → out ≡ packed_into n (take i vs) out
      → out' ≡ number_at out k 8 (x * 2 ^ (64 - 8 * n) % 2 ^ 64) → out' ≡ packed_into n (take (i + 8) vs) out'
  unfolding packed_into
  ahead_turn out' o p =
      let b : octets_for (length (take (i + 8) vs) * n) ≡ k + n = ap (λ (y : ℕ). octets_for (y * n)) (length-take-le (i + 8) vs h) ∙ omega (arith, after) in
      let A = runs g 0 8 (k + 8) in
      let y : length A ≡ k + 8 = length_runs g 0 8 (k + 8) in
      sym (take-append-drop (k + n) out')
      ∙ ap (λ (z : List ℕ). z ++ drop (k + n) out')
      (ap (take (k + n)) (p ∙ stored o)
      ∙ take-append-le (k + n) A (drop (k + 8) out) (subst (λ (z : ℕ). k + n ≤ z) (sym y) (omega arith))
      ∙ take_runs g 0 8 (k + n) (k + 8) (omega arith))
      ∙ ap (λ (z : ℕ). runs g 0 8 z ++ drop z out') (sym b)

-- what lies past the data is kept
pub ahead-kept : (out out' : List ℕ) (k t x : ℕ) → k + 8 ≤ t → k + 8 ≤ length out → out' ≡ number_at out k 8 x
    → drop t out' ≡ drop t out
unfolding number_at
ahead-kept out out' k t x h l p =
    let A = take k out ++ runs (bit_of (8 * 8) x) 0 8 8 in
    let y : length A ≡ k + 8 = length-append (take k out) (runs (bit_of (8 * 8) x) 0 8 8) ∙ ap₂ (λ (a b : ℕ). a + b) (length-take-le k out (omega arith)) (length_runs (bit_of (8 * 8) x) 0 8 8) in
    let z : k + 8 + (t - (k + 8)) ≡ t = omega arith in
    ap₂ drop (sym z ∙ ap (λ (a : ℕ). a + (t - (k + 8))) (sym y)) p ∙ drop-append-add A (drop (k + 8) out) (t - (k + 8))
    ∙ drop-drop (t - (k + 8)) (k + 8) out ∙ ap (λ (a : ℕ). drop a out) z

-- the numbers packed, over octets that agree past the data
pub ahead-all : (n : ℕ) (vs d d' : List ℕ) → drop (octets_for (length vs * n)) d ≡ drop (octets_for (length vs * n)) d'
    → packed_into n vs d ≡ packed_into n vs d'
unfolding packed_into
ahead-all n vs d d' e = ap (λ (x : List ℕ). runs (bits_in n vs) 0 8 (octets_for (length vs * n)) ++ x) e
