-- Putting one more number.
use mathlib.Core.Path.{◌≡◌, sym, ap, ap₂, ◌∙◌, subst}
use mathlib.Core.List.{List, [], ◌∷◌, ◌++◌, append_assoc, append-nil}
use mathlib.Core.Logic.{⊎_elim}
use Prim.Native.Nat.{ℕ, zero, suc, ◌+◌, ◌-◌, ◌*◌, ◌/◌, ◌%◌, ◌^◌, ◌≤◌, ◌<◌}
use native.Mathlib.Nat.{zero-add, add-zero, add_assoc, mul-zero, mul-add-div_right, mul-add-mod_self_right, zero-lt-suc}
use native.Mathlib.Nat.{not-suc-le-zero, div-lt_iff_lt-mul}
use native.Mathlib.Omega.{arith}
use borrow.Author.Tests.{lt-ltb, le-ltb}
use lib.Arith.{lt-one}
use native.Mathlib.Numerals.{add-one}
use lib.ListN.{length, get_or, set, take, drop, length-append, take-append-drop, get_or-append}
use lib.Seq.{length-take-le, get_or-append-add, drop-append-add, drop-drop}
use Rattle.bits.specs.Bits.{bit_of, bits_in, run, runs, join, octets_for, put_at, packed_into, Wide}
use Rattle.bits.specs.Tables.{tab}
use Rattle.bits.proofs.Runs.{Bits, bits_in-bits, next, lt_or_ge, octet-of}
use Rattle.bits.proofs.Fill.{snoc_at}
use Rattle.bits.proofs.Trip.{length_runs, runs_ext, bits-runs, room}

pub join-lt : (at : ℕ) (f g : ℕ → ℕ) (i : ℕ) → i < at → join at f g i ≡ f i
unfolding join
join-lt at f g i h = rw (lt-ltb i at h)

pub join_ge : (at : ℕ) (f g : ℕ → ℕ) (i : ℕ) → at ≤ i → join at f g i ≡ g (i - at)
unfolding join
join_ge at f g i h = rw (le-ltb i at h)

pub join-bits : (at : ℕ) (f g : ℕ → ℕ) → Bits f → Bits g → Bits (join at f g)
join-bits at f g p q i = ⊎_elim
    (λ l. subst (λ (x : ℕ). x < 2) (sym (join-lt at f g i l)) (p i))
    (λ l. subst (λ (x : ℕ). x < 2) (sym (join_ge at f g i l)) (q (i - at)))
    (lt_or_ge i at)

-- the bits of two lists, one after the other
pub bits_left : (w : ℕ) (xs ys : List ℕ) (i : ℕ) → i < length xs * w → bits_in w (xs ++ ys) i ≡ bits_in w xs i
unfolding bits_in
bits_left zero xs ys i h = absurd (not-suc-le-zero (subst (λ (x : ℕ). i < x) (mul-zero (length xs)) h))
bits_left (suc v) xs ys i h =
    ap (λ (x : ℕ). bit_of (suc v) x (i % suc v))
    (get_or-append xs ys 0 (i / suc v) ((div-lt_iff_lt-mul (zero-lt-suc v)).1 h))

pub bits-after : (v : ℕ) (xs ys : List ℕ) (i : ℕ)
    → bits_in (suc v) (xs ++ ys) (length xs * suc v + i) ≡ bits_in (suc v) ys i
unfolding bits_in
bits-after v xs ys i =
    ap₂ (λ (x y : ℕ). bit_of (suc v) (get_or (xs ++ ys) x 0) y) (mul-add-div_right (zero-lt-suc v) (length xs) i)
    (mul-add-mod_self_right (length xs) (suc v) i)
    ∙ ap (λ (x : ℕ). bit_of (suc v) x (i % suc v)) (get_or-append-add xs ys (i / suc v) 0)

-- the same for every width, also 0, where every number is 0
pub bits_right : (w : ℕ) (xs ys : List ℕ) (i : ℕ) → Wide w (xs ++ ys) → Wide w ys
    → bits_in w (xs ++ ys) (length xs * w + i) ≡ bits_in w ys i
unfolding bits_in
bits_right zero xs ys i h k =
    ap₂ (λ (x y : ℕ). bit_of 0 x y) (lt-one (h ((length xs * 0 + i) / 0)) ∙ sym (lt-one (k (i / 0))))
    (ap (λ (x : ℕ). (x + i) % 0) (mul-zero (length xs)) ∙ ap (λ (x : ℕ). x % 0) (zero-add i))
bits_right (suc v) xs ys i h k = bits-after v xs ys i

-- putting one more number after those that are packed_into
pub put-packed_into : (n : ℕ) (vs : List ℕ) (v : ℕ) (s : List ℕ) → Wide n (vs ++ (v ∷ [])) → Wide n (v ∷ [])
    → put_at (packed_into n vs s) (length vs * n) n v ≡ packed_into n (vs ++ (v ∷ [])) s
unfolding put_at packed_into
put-packed_into n vs v s h k =
    let t = length vs * n in
    let e = octets_for t in
    let e' = octets_for (t + n) in
    let P = packed_into n vs s in
    let F = join t (bits_in 8 P) (bits_in n (v ∷ [])) in
    let W = bits_in n (vs ++ (v ∷ [])) in
    let A = runs (bits_in n vs) 0 8 e in
    let t' : length (vs ++ (v ∷ [])) * n ≡ t + n = ap (λ (x : ℕ). x * n) (length-append vs (v ∷ [])) ∙ next (length vs) n in
    let d : length A + (e' - e) ≡ e' = ap (λ (x : ℕ). x + (e' - e)) (length_runs (bits_in n vs) 0 8 e) ∙ sub_back e e' (omega arith) in
    ap₂ (λ (x y : List ℕ). x ++ y)
    (runs_ext F W 0 0 8 e'
    (λ i l. ap F (zero-add i) ∙ ⊎_elim
    (λ lt. join-lt t (bits_in 8 P) (bits_in n (v ∷ [])) i lt
    ∙ bits-runs (bits_in-bits n vs) 0 8 e (drop e s) i (omega (arith, room t)) ∙ ap (bits_in n vs) (zero-add i)
    ∙ sym (bits_left n vs (v ∷ []) i lt))
    (λ ge. join_ge t (bits_in 8 P) (bits_in n (v ∷ [])) i ge
    ∙ sym (bits_right n vs (v ∷ []) (i - t) h k) ∙ ap W (sub_back t i ge))
    (lt_or_ge i t) ∙ ap W (sym (zero-add i))))
    (ap (λ (x : ℕ). drop x P) (sym d) ∙ drop-append-add A (drop e s) (e' - e) ∙ drop-drop (e' - e) e s
    ∙ ap (λ (x : ℕ). drop x s) (sub_back e e' (omega arith)))
    ∙ ap (λ (x : ℕ). runs W 0 8 (octets_for x) ++ drop (octets_for x) s) (sym t')
  where
    sub_back : (a b : ℕ) → a ≤ b → a + (b - a) ≡ b
    sub_back a b h = omega arith

-- the loop that writes a number's octets: where it begins, and a turn
pub number-none : (s : List ℕ) (k : ℕ) (f : ℕ → ℕ) → s ≡ (take k s ++ runs f 0 8 0) ++ drop (k + 0) s
unfolding runs tab
number-none s k f = sym (rw (append-nil, add-zero) (take-append-drop k s))

pub number_turn : (s out : List ℕ) (k c x j : ℕ) → k + c ≤ length s → x < 2 ^ (c * 8) → j < c
    → out ≡ (take k s ++ runs (bit_of (c * 8) x) 0 8 j) ++ drop (k + j) s
    → set out (k + j) (x / 2 ^ ((c - 1 - j) * 8) % 256) ≡ (take k s ++ runs (bit_of (c * 8) x) 0 8 (j + 1))
    ++ drop (k + (j + 1)) s
unfolding runs tab
number_turn s out k c x j h b l e =
    let f = bit_of (c * 8) x in
    let p = take k s ++ runs f 0 8 j in
    let m : length p ≡ k + j = length-append (take k s) (runs f 0 8 j) ∙ ap₂ (λ (x y : ℕ). x + y) (length-take-le k s (omega arith)) (length_runs f 0 8 j) in
    ap₂ (λ (x : List ℕ) (y : ℕ). set x (k + j) y) e (octet-of x c j b l)
    ∙ snoc_at p s (k + j) (run f (0 + j * 8) 8) m (omega arith)
    ∙ ap₂ (λ (x : List ℕ) (y : ℕ). x ++ drop y s) (append_assoc (take k s) (runs f 0 8 j) (run f (0 + j * 8) 8 ∷ []))
    (add_assoc k j 1)
    ∙ ap (λ (y : ℕ). (take k s ++ tab (λ k. run f (0 + k * 8) 8) y) ++ drop (k + (j + 1)) s) (sym (add-one j))
