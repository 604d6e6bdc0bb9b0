-- What putting a number leaves: its own bits are read back, all others are kept, and numbers can be laid one after
-- another.
use mathlib.Core.Path.{◌≡◌, sym, ap, ap₂, ◌∙◌, subst}
use mathlib.Core.List.{List, [], ◌∷◌, ◌++◌}
use mathlib.Core.Logic.{◌⊎◌, inl, inr, ⊎_elim}
use Prim.Native.Nat.{ℕ, ◌+◌, ◌-◌, ◌*◌, ◌/◌, ◌%◌, ◌^◌, ◌≤◌, ◌<◌}
use native.Mathlib.Nat.{zero-add, zero-mul}
use native.Mathlib.Omega.{arith}
use lib.ListN.{length, get_or, take, drop, length-append, length-drop, get_or-append}
use lib.Seq.{take_at, drop-append-add, drop-drop, get_or-append-add, get_or-drop, get_or-take, length-take-le}
use Rattle.bits.specs.Bits.{bit_of, bits_in, run, runs, join, octets_for, put_at, packed_into, number_at}
use Rattle.bits.proofs.Runs.{bits_in-bits, run_ext, run-unit}
use Rattle.bits.proofs.Trip.{length_runs, bits-runs, room}
use Rattle.bits.proofs.Next.{join-lt, join_ge, join-bits}

-- a number of c octets laid after a part that is written
pub lay : (p s : List ℕ) (k c x : ℕ) → length p ≡ k
    → number_at (p ++ drop k s) k c x ≡ (p ++ runs (bit_of (c * 8) x) 0 8 c) ++ drop (k + c) s
unfolding number_at
lay p s k c x e =
    ap₂ (λ (y z : List ℕ). (y ++ runs (bit_of (c * 8) x) 0 8 c) ++ z) (take_at p (drop k s) k e)
    (ap (λ (y : ℕ). drop (y + c) (p ++ drop k s)) (sym e) ∙ drop-append-add p (drop k s) c ∙ drop-drop c k s)

-- the octets around it
module _ (s : List ℕ) (k c x : ℕ) (l : k + c ≤ length s) where
  front : length (take k s ++ runs (bit_of (c * 8) x) 0 8 c) ≡ k + c
  front =
      length-append (take k s) (runs (bit_of (c * 8) x) 0 8 c)
      ∙ ap₂ (λ (y z : ℕ). y + z) (length-take-le k s (omega arith)) (length_runs (bit_of (c * 8) x) 0 8 c)

  pub length-number : length (number_at s k c x) ≡ length s
  unfolding number_at
  length-number =
      length-append (take k s ++ runs (bit_of (c * 8) x) 0 8 c) (drop (k + c) s)
      ∙ ap₂ (λ (y z : ℕ). y + z) front (length-drop (k + c) s) ∙ omega arith

  pub octet-before : (j : ℕ) → j < k → get_or (number_at s k c x) j 0 ≡ get_or s j 0
  unfolding number_at
  octet-before j h =
      let e : length (take k s) ≡ k = length-take-le k s (omega arith) in
      get_or-append (take k s ++ runs (bit_of (c * 8) x) 0 8 c) (drop (k + c) s) 0 j
      (subst (λ (y : ℕ). j < y) (sym front) (omega arith))
      ∙ get_or-append (take k s) (runs (bit_of (c * 8) x) 0 8 c) 0 j (subst (λ (y : ℕ). j < y) (sym e) h)
      ∙ get_or-take k s j 0 h

  pub octet-after : (j : ℕ) → k + c ≤ j → get_or (number_at s k c x) j 0 ≡ get_or s j 0
  unfolding number_at
  octet-after j h =
      let A = take k s ++ runs (bit_of (c * 8) x) 0 8 c in
      let d : length A + (j - (k + c)) ≡ j = ap (λ (y : ℕ). y + (j - (k + c))) front ∙ back j h in
      ap (λ (y : ℕ). get_or (A ++ drop (k + c) s) y 0) (sym d) ∙ get_or-append-add A (drop (k + c) s) (j - (k + c)) 0
      ∙ get_or-drop (k + c) s (j - (k + c)) 0 ∙ ap (λ (y : ℕ). get_or s y 0) (back j h)
    where
      back : (j : ℕ) → k + c ≤ j → k + c + (j - (k + c)) ≡ j
      back j h = omega arith

  pub bit_kept : (i : ℕ) → (i < k * 8) ⊎ ((k + c) * 8 ≤ i) → bits_in 8 (number_at s k c x) i ≡ bits_in 8 s i
  unfolding bits_in
  bit_kept i h =
      ap (λ (y : ℕ). bit_of 8 y (i % 8))
      (⊎_elim (λ a. octet-before (i / 8) (omega arith)) (λ a. octet-after (i / 8) (omega arith)) h)

  pub run-before : (a n : ℕ) → a + n ≤ k * 8 → run (bits_in 8 (number_at s k c x)) a n ≡ run (bits_in 8 s) a n
  run-before a n h =
      run_ext (bits_in 8 (number_at s k c x)) (bits_in 8 s) a a n (λ j b. bit_kept (a + j) (inl (omega arith)))

  pub run-after : (a n : ℕ) → (k + c) * 8 ≤ a → run (bits_in 8 (number_at s k c x)) a n ≡ run (bits_in 8 s) a n
  run-after a n h =
      run_ext (bits_in 8 (number_at s k c x)) (bits_in 8 s) a a n (λ j b. bit_kept (a + j) (inr (omega arith)))

-- n bits at a place
module _ (s : List ℕ) (at n v : ℕ) where
  abbrev F : ℕ → ℕ
  F = join at (bits_in 8 s) (bits_in n (v ∷ []))

  put-bit : (i : ℕ) → i < octets_for (at + n) * 8 → bits_in 8 (put_at s at n v) i ≡ F i
  unfolding put_at
  put-bit i h =
      bits-runs (join-bits at (bits_in 8 s) (bits_in n (v ∷ [])) (bits_in-bits 8 s) (bits_in-bits n (v ∷ []))) 0 8
      (octets_for (at + n)) (drop (octets_for (at + n)) s) i h
      ∙ ap F (zero-add i)

  pub put-kept : (i : ℕ) → i < at → bits_in 8 (put_at s at n v) i ≡ bits_in 8 s i
  put-kept i h = put-bit i (omega (arith, room (at + n))) ∙ join-lt at (bits_in 8 s) (bits_in n (v ∷ [])) i h

  pub put_back : v < 2 ^ n → run (bits_in 8 (put_at s at n v)) at n ≡ v
  put_back h =
      run_ext (bits_in 8 (put_at s at n v)) (bits_in n (v ∷ [])) at (0 * n) n
      (λ j b. put-bit (at + j) (omega (arith, room (at + n)))
      ∙ join_ge at (bits_in 8 s) (bits_in n (v ∷ [])) (at + j) (omega arith)
      ∙ ap (bits_in n (v ∷ [])) (off j ∙ sym (zero-add j) ∙ ap (λ (y : ℕ). y + j) (sym (zero-mul n))))
      ∙ run-unit n (v ∷ []) 0 h
    where
      off : (j : ℕ) → at + j - at ≡ j
      off j = omega arith

  pub length-put : octets_for (at + n) ≤ length s → length (put_at s at n v) ≡ length s
  unfolding put_at
  length-put h =
      length-append (runs F 0 8 (octets_for (at + n))) (drop (octets_for (at + n)) s)
      ∙ ap₂ (λ (y z : ℕ). y + z) (length_runs F 0 8 (octets_for (at + n))) (length-drop (octets_for (at + n)) s)
      ∙ omega arith

pub length-packed : (n : ℕ) (vs s : List ℕ) → octets_for (length vs * n) ≤ length s
    → length (packed_into n vs s) ≡ length s
unfolding packed_into
length-packed n vs s h =
    length-append (runs (bits_in n vs) 0 8 (octets_for (length vs * n))) (drop (octets_for (length vs * n)) s)
    ∙ ap₂ (λ (y z : ℕ). y + z) (length_runs (bits_in n vs) 0 8 (octets_for (length vs * n)))
    (length-drop (octets_for (length vs * n)) s)
    ∙ omega arith
