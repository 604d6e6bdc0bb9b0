-- From numbers to octets and back.
use mathlib.Core.Path.{◌≡◌, refl, sym, ap, ap₂, ◌∙◌, subst}
use mathlib.Core.List.{List, [], ◌∷◌, ◌++◌, append-nil}
use mathlib.Core.Logic.{⊎_elim}
use Prim.Native.Nat.{ℕ, zero, suc, ◌+◌, ◌-◌, ◌*◌, ◌/◌, ◌%◌, ◌^◌, ◌≤◌, ◌<◌}
use native.Mathlib.Nat.{not-suc-le-zero, zero-add, add-zero, add_assoc, mod-lt, div-add-mod', div-lt_iff_lt-mul}
use native.Mathlib.Nat.{le-div_iff_mul-le, mul-zero, zero-div, zero-lt-suc, le_refl}
use native.Mathlib.Omega.{arith}
use lib.Arith.{lt-one}
use lib.ListN.{length, get_or, take, drop, take-append-drop, get_or-append, get_or-eq_default}
use lib.Seq.{take-suc, take-length}
use lib.Pow.{pow_pos}
use Rattle.bits.specs.Bits.{bit_of, bits_in, run, runs, octets_for, packed_into, Wide}
use Rattle.bits.specs.Tables.{tab}
use Rattle.bits.proofs.Runs.{Bits, bits_in-bits, run-lt, run_ext, run-field, run-unit, bits_at, lt_or_ge, next_le}
use Rattle.bits.proofs.Fill.{length-tab, get_or-tab, tab_ext}

pub length_runs : (f : ℕ → ℕ) (at n m : ℕ) → length (runs f at n m) ≡ m
unfolding runs
length_runs f at n m = length-tab (λ k. run f (at + k * n) n) m

pub get_or-runs : (f : ℕ → ℕ) (at n m k : ℕ) → k < m → get_or (runs f at n m) k 0 ≡ run f (at + k * n) n
unfolding runs
get_or-runs f at n m k h = get_or-tab (λ j. run f (at + j * n) n) m k 0 h

-- runs of bits that agree are equal
pub runs_ext : (f g : ℕ → ℕ) (a b n m : ℕ) → ((i : ℕ) → i < m * n → f (a + i) ≡ g (b + i)) → runs f a n m ≡ runs g b n m
unfolding runs
runs_ext f g a b n m h =
    tab_ext (λ k. run f (a + k * n) n) (λ k. run g (b + k * n) n) m
    (λ k l. run_ext f g (a + k * n) (b + k * n) n
    (λ j i. ap f (add_assoc a (k * n) j) ∙ h (k * n + j) (omega (arith, next_le k m n l))
    ∙ ap g (sym (add_assoc b (k * n) j))))

-- bit j of a run is bit j of what the run is of
pub bit-run : {f : ℕ → ℕ} → Bits f → (a w j : ℕ) → j < w → bit_of w (run f a w) j ≡ f (a + j)
unfolding bit_of run
bit-run {f} b a w j h =
    let r = w - 1 - j in
    let e : j + 1 + r ≡ w = omega arith in
    ap (λ (x : ℕ). run f a x / 2 ^ r % 2) (sym e) ∙ run-field b a j 1 r ∙ one
  where
    one : run f (a + j) 1 ≡ f (a + j)
    one = zero-add (f (a + j + 0)) ∙ ap f (add-zero (a + j))

-- the bits of runs are the bits that the runs are of
pub bits-runs : {f : ℕ → ℕ} → Bits f → (at w m : ℕ) (rest : List ℕ) (i : ℕ) → i < m * w
    → bits_in w (runs f at w m ++ rest) i ≡ f (at + i)
bits-runs b at zero m rest i h = absurd (not-suc-le-zero (subst (λ (x : ℕ). i < x) (mul-zero m) h))
bits-runs {f} b at (suc v) m rest i h =
    let w = suc v in
    let q = i / w in
    let j = i % w in
    let p : zero < w = zero-lt-suc v in
    let l : q < m = (div-lt_iff_lt-mul p).1 h in
    let l' : q < length (runs f at w m) = subst (λ (x : ℕ). q < x) (sym (length_runs f at w m)) l in
    let e : q * w + j ≡ i = div-add-mod' i w in
    ap (bits_in w (runs f at w m ++ rest)) (sym e)
    ∙ bits_at w (runs f at w m ++ rest) q j (mod-lt i p)
    ∙ ap (λ (x : ℕ). bit_of w x j) (get_or-append (runs f at w m) rest 0 q l' ∙ get_or-runs f at w m q l)
    ∙ bit-run b (at + q * w) w j (mod-lt i p)
    ∙ ap f (add_assoc at (q * w) j ∙ ap (λ (x : ℕ). at + x) e)

-- past the end there are zeros
pub bits-past : (w : ℕ) (xs : List ℕ) (i : ℕ) → Wide w xs → length xs * w ≤ i → bits_in w xs i ≡ 0
unfolding bits_in bit_of
bits-past w xs i h l =
    ap (λ (x : ℕ). x / 2 ^ (w - 1 - i % w) % 2) (none w h l) ∙ ap (λ (x : ℕ). x % 2) (zero-div (2 ^ (w - 1 - i % w)))
  where
    none : (w : ℕ) → Wide w xs → length xs * w ≤ i → get_or xs (i / w) 0 ≡ 0
    none zero h l = lt-one (h (i / zero))
    none (suc v) h l = get_or-eq_default xs 0 ((le-div_iff_mul-le (zero-lt-suc v)).1 l)

-- the numbers of w bits out of their own bits
pub runs_own : (w : ℕ) (xs : List ℕ) (m : ℕ) → Wide w xs → m ≤ length xs → runs (bits_in w xs) 0 w m ≡ take m xs
unfolding runs tab
runs_own w xs zero h l = refl
runs_own w xs (suc m) h l =
    ap₂ (λ (x : List ℕ) (y : ℕ). x ++ (y ∷ [])) (runs_own w xs m h (omega arith))
    (ap (λ (a : ℕ). run (bits_in w xs) a w) (zero-add (m * w)) ∙ run-unit w xs m (h m))
    ∙ sym (take-suc xs m 0 l)

pub wide_runs : {f : ℕ → ℕ} → Bits f → (at n m : ℕ) → Wide n (runs f at n m)
wide_runs {f} b at n m k = ⊎_elim
    (λ l. subst (λ (x : ℕ). x < 2 ^ n) (sym (get_or-runs f at n m k l)) (run-lt b (at + k * n) n))
    (λ g. subst (λ (x : ℕ). x < 2 ^ n)
    (sym (get_or-eq_default (runs f at n m) 0 (subst (λ (x : ℕ). x ≤ k) (sym (length_runs f at n m)) g)))
    (pow_pos n))
    (lt_or_ge k m)

-- the octets of t bits have room for them
pub room : (t : ℕ) → t ≤ octets_for t * 8
room t = omega arith

-- (b) numbers that are packed_into are read back
pub read_back : (n : ℕ) (vs s : List ℕ) → Wide n vs → runs (bits_in 8 (packed_into n vs s)) 0 n (length vs) ≡ vs
unfolding packed_into
read_back n vs s h =
    let e = octets_for (length vs * n) in
    runs_ext (bits_in 8 (packed_into n vs s)) (bits_in n vs) 0 0 n (length vs)
    (λ i l. ap (bits_in 8 (packed_into n vs s)) (zero-add i)
    ∙ bits-runs (bits_in-bits n vs) 0 8 e (drop e s) i (omega (arith, room (length vs * n))))
    ∙ runs_own n vs (length vs) h (le_refl (length vs)) ∙ take-length vs

-- the bits from place a on to the end of the octet are zero
abbrev pub Padded : List ℕ → ℕ → Type 0
Padded s a = (i : ℕ) → a ≤ i → i < octets_for a * 8 → bits_in 8 s i ≡ 0

-- (c) octets whose padding is zero are written back
pub write-back : (n m : ℕ) (s d : List ℕ) → Wide 8 s → octets_for (m * n) ≤ length s → Padded s (m * n)
    → packed_into n (runs (bits_in 8 s) 0 n m) d ≡ take (octets_for (m * n)) s ++ drop (octets_for (m * n)) d
unfolding packed_into
write-back n m s d h l z =
    let e = octets_for (m * n) in
    let vs = runs (bits_in 8 s) 0 n m in
    let le : length vs ≡ m = length_runs (bits_in 8 s) 0 n m in
    let b = bits_in-bits 8 s in
    ap (λ (x : ℕ). runs (bits_in n vs) 0 8 (octets_for (x * n)) ++ drop (octets_for (x * n)) d) le
    ∙ ap (λ (x : List ℕ). x ++ drop e d)
    (runs_ext (bits_in n vs) (bits_in 8 s) 0 0 8 e
    (λ i k. ap (bits_in n vs) (zero-add i) ∙ ⊎_elim
    (λ lt. ap (λ (x : List ℕ). bits_in n x i) (sym (append-nil vs)) ∙ bits-runs b 0 n m [] i lt)
    (λ ge. bits-past n vs i (wide_runs b 0 n m) (subst (λ (x : ℕ). x * n ≤ i) (sym le) ge) ∙ sym (z i ge k)
    ∙ ap (bits_in 8 s) (sym (zero-add i)))
    (lt_or_ge i (m * n)))
    ∙ runs_own 8 s e h l)

-- so packing what was unpacked over the same octets changes nothing
pub same-octets : (n m : ℕ) (s : List ℕ) → Wide 8 s → octets_for (m * n) ≤ length s → Padded s (m * n)
    → packed_into n (runs (bits_in 8 s) 0 n m) s ≡ s
same-octets n m s h l z = write-back n m s s h l z ∙ take-append-drop (octets_for (m * n)) s

-- (b) at one number
pub fetch-back : (n : ℕ) (vs s : List ℕ) (k : ℕ) → Wide n vs → k < length vs
    → run (bits_in 8 (packed_into n vs s)) (k * n) n ≡ get_or vs k 0
fetch-back n vs s k h l =
    ap (λ (x : ℕ). run (bits_in 8 (packed_into n vs s)) x n) (sym (zero-add (k * n)))
    ∙ sym (get_or-runs (bits_in 8 (packed_into n vs s)) 0 n (length vs) k l)
    ∙ ap (λ (x : List ℕ). get_or x k 0) (read_back n vs s h)
