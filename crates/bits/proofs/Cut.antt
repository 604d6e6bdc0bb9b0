-- The bits of a part of a list of octets: the octets cut out have the bits that stand there, and bits that agree with
-- them make the octets again.
use Prim.Native.Nat.{ℕ, zero, suc, ◌+◌, ◌*◌, ◌/◌, ◌%◌, ◌^◌, ◌≤◌, ◌<◌}
use mathlib.Core.Path.{◌≡◌, sym, subst, ◌∙◌, ap, ap₂}
use mathlib.Core.List.{List, [], ◌∷◌, ◌++◌}
use native.Mathlib.Omega.{arith}
use native.Mathlib.Nat.{zero-add, zero-lt-suc, div-lt_iff_lt-mul, mul-add-div_right, mul-add-mod_self_right}
use lib.ListN.{length, get_or, take, drop, length-drop, take-append-drop}
use lib.Seq.{get_or-drop, get_or-take, drop-drop}
use Rattle.bits.specs.Bits.{bit_of, bits_in, run, runs, Wide}
use Rattle.bits.proofs.Runs.{bits_in-bits, run_ext}
use Rattle.bits.proofs.Trip.{runs_ext, bit-run, runs_own}
use Rattle.bits.proofs.Next.{bits_left}
use Rattle.bits.proofs.Placed.{wide-one}

-- a part, and what follows it
pub cut : (s : List ℕ) (a n : ℕ) → take n (drop a s) ++ drop (a + n) s ≡ drop a s
cut s a n = ap (λ (r : List ℕ). take n (drop a s) ++ r) (sym (drop-drop n a s)) ∙ take-append-drop n (drop a s)

-- the bits from octet k on are the bits of what is left without k octets
pub bits-drop : (k : ℕ) (s : List ℕ) (i : ℕ) → bits_in 8 s (k * 8 + i) ≡ bits_in 8 (drop k s) i
unfolding bits_in
bits-drop k s i =
    ap₂ (λ (x y : ℕ). bit_of 8 (get_or s x 0) y) (mul-add-div_right (zero-lt-suc 7) k i) (mul-add-mod_self_right k 8 i)
    ∙ ap (λ (x : ℕ). bit_of 8 x (i % 8)) (sym (get_or-drop k s (i / 8) 0))

pub bits-take : (m : ℕ) (s : List ℕ) (i : ℕ) → i < m * 8 → bits_in 8 (take m s) i ≡ bits_in 8 s i
unfolding bits_in
bits-take m s i h = ap (λ (x : ℕ). bit_of 8 x (i % 8)) (get_or-take m s (i / 8) 0 ((div-lt_iff_lt-mul (zero-lt-suc 7)).1 h))

-- a number in a part of the octets
pub run-part : (s : List ℕ) (p n at w : ℕ) → at + w ≤ n * 8
    → run (bits_in 8 (take n (drop p s))) at w ≡ run (bits_in 8 s) (p * 8 + at) w
run-part s p n at w l =
    run_ext (bits_in 8 (take n (drop p s))) (bits_in 8 s) at (p * 8 + at) w
    (λ k h.
    let e : p * 8 + (at + k) ≡ p * 8 + at + k = omega arith in
    bits-take n (drop p s) (at + k) (omega arith) ∙ sym (bits-drop p s (at + k)) ∙ ap (bits_in 8 s) e)

-- what stands at place k of s, `drop k s ≡ p ++ rest`: the numbers in it
pub run_at : (s : List ℕ) (k : ℕ) (p rest : List ℕ) (j c : ℕ) → drop k s ≡ p ++ rest → j + c ≤ length p
    → run (bits_in 8 s) ((k + j) * 8) (c * 8) ≡ run (bits_in 8 p) (j * 8) (c * 8)
run_at s k p rest j c e h = run_ext (bits_in 8 s) (bits_in 8 p) ((k + j) * 8) (j * 8) (c * 8)
    (λ i l.
    let a : (k + j) * 8 + i ≡ k * 8 + (j * 8 + i) = omega arith in
    ap (bits_in 8 s) a ∙ bits-drop k s (j * 8 + i) ∙ ap (λ (x : List ℕ). bits_in 8 x (j * 8 + i)) e
    ∙ bits_left 8 p rest (j * 8 + i) (omega arith))

pub wide-drop : (k : ℕ) (s : List ℕ) → Wide 8 s → Wide 8 (drop k s)
wide-drop k s w i = subst (λ (x : ℕ). x < 256) (sym (get_or-drop k s i 0)) (w (k + i))

-- bits that agree with those from octet k on make those octets
pub octets-here : (s : List ℕ) (k c : ℕ) (f : ℕ → ℕ) → Wide 8 s → k + c ≤ length s
    → ((i : ℕ) → i < c * 8 → f i ≡ bits_in 8 s (k * 8 + i)) → runs f 0 8 c ≡ take c (drop k s)
octets-here s k c f w l e =
    runs_ext f (bits_in 8 (drop k s)) 0 0 8 c
    (λ i h. ap f (zero-add i) ∙ e i h ∙ bits-drop k s i ∙ ap (bits_in 8 (drop k s)) (sym (zero-add i)))
    ∙ runs_own 8 (drop k s) c (wide-drop k s w) (subst (λ (x : ℕ). c ≤ x) (sym (length-drop k s)) (omega arith))

-- the octets of a number read are those it was read from
pub number-here : (s : List ℕ) (k c : ℕ) → Wide 8 s → k + c ≤ length s
    → runs (bit_of (c * 8) (run (bits_in 8 s) (k * 8) (c * 8))) 0 8 c ≡ take c (drop k s)
number-here s k c w l =
    octets-here s k c (bit_of (c * 8) (run (bits_in 8 s) (k * 8) (c * 8))) w l
    (λ i h. bit-run (bits_in-bits 8 s) (k * 8) (c * 8) i h)

-- one number more
pub wide_snoc : (n : ℕ) (xs : List ℕ) (v : ℕ) → Wide n xs → v < 2 ^ n → Wide n (xs ++ (v ∷ []))
wide_snoc n [] v w h k = wide-one n v h k
wide_snoc n (x ∷ xs) v w h zero = w zero
wide_snoc n (x ∷ xs) v w h (suc k) = wide_snoc n xs v (λ j. w (suc j)) h k
