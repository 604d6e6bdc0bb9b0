-- What is gathered, of values of any kind: after n points the list held begins with the values at the present ones; by
-- induction on the points, each of them present or absent.
use mathlib.Core.Path.{◌≡◌, refl, sym, ap, ap₂, ◌∙◌, subst}
use mathlib.Core.Bool.{Bool, cond}
use mathlib.Core.List.{List, [], ◌∷◌, ◌++◌, append_assoc, append-nil}
use Prim.Native.Nat.{ℕ, zero, suc, ◌+◌, ◌≤◌, ◌<◌}
use native.Mathlib.Nat.{add-zero, zero-add}
use native.Mathlib.Numerals.{add-one}
use native.Mathlib.Omega.{arith}
use native.Mathlib.Decide.{ℕ_discrete}
use borrow.Author.Tests.{eq-eqb, ne_eqb}
use lib.Dec.{eqb}
use lib.ListN.{length, get_or, set, take, drop, length-append, length-set, length-drop}
use lib.Seq.{take-set-le, take-suc-set, take-append-add, length-take-le}
use Rattle.std.proofs.lemmas.Option.{slice_get_read, slice_get-get_or}
use Rattle.bits.specs.Bits.{count}
use Rattle.bits.proofs.Runs.{Bits}
use Rattle.bits.proofs.Ones.{count-one, count_none, count-le}
use Rattle.rules.specs.Bitmap.{mark_of}
use Rattle.rules.specs.Points.{gathered}
use Rattle.laws.specs.Marks.{here}
use Rattle.gathering.specs.Gather.{set_some, gather_list, gather_into, gathered_of}
use Rattle.gathering.proofs.Here.{here-one}

-- of numbers it is `gathered`
pub gathered-of : (f v : ℕ → ℕ) (n : ℕ) → gathered_of f v n ≡ gathered f v n
unfolding gathered_of gathered
gathered-of f v zero = refl
gathered-of f v (suc n) = ap (λ (x : List ℕ). cond (eqb (f n) 1) (x ++ (v n ∷ [])) x) (gathered-of f v n)

-- by presence or by marks
pub gathered-here : (marks : List ℕ) (v : ℕ → ℕ) (n : ℕ) → gathered (here marks) v n ≡ gathered (mark_of marks) v n
unfolding gathered
gathered-here marks v zero = refl
gathered-here marks v (suc n) =
    ap₂ (λ (t : Bool) (x : List ℕ). cond t (x ++ (v n ∷ [])) x) (here-one marks n) (gathered-here marks v n)

module _ {A : Type 0} (f : ℕ → ℕ) (v : ℕ → A) where
  pub length-gather_into : (n : ℕ) (held : List A) → length (gather_into f v n held) ≡ length held
  unfolding gather_into
  length-gather_into zero held = refl
  length-gather_into (suc n) held = length-set (gather_into f v n held) (count f 0 n) (v n) ∙ length-gather_into n held

  pub gathered_in : (n : ℕ) → f n ≡ 1 → gathered_of f v (n + 1) ≡ gathered_of f v n ++ (v n ∷ [])
  unfolding gathered_of
  gathered_in n h = rw (add-one, eq-eqb (f n) 1 h)

  pub gathered-out : (n : ℕ) → (f n ≡ 1 → ⊥) → gathered_of f v (n + 1) ≡ gathered_of f v n
  unfolding gathered_of
  gathered-out n h = rw (add-one, ne_eqb (f n) 1 h)

-- of a list of values, whatever it has past its end
module _ {A : Type 0} (f : ℕ → ℕ) (xs : List A) where
  pub list_none : (held : List A) → (0 ≡ count f 0 0) × (held ≡ gather_list f xs 0 held)
  unfolding gather_list count
  list_none held = (refl, refl)

  -- a turn of the loop: x is stored at the place d, and the place moves by r
  pub list_turn : (j d r : ℕ) (x : A) (held first : List A) → d ≡ count f 0 j → held ≡ gather_list f xs j first
      → j < length xs → x ≡ get_or xs j x → r ≡ f j
      → (d + r ≡ count f 0 (j + 1)) × (set held d x ≡ gather_list f xs (j + 1) first)
  unfolding gather_list set_some count
  list_turn j d r x held first e h i k l = (
    rw add-one (ap₂ (λ (a b : ℕ). a + b) e (l ∙ ap f (sym (zero-add j)))),
    rw (add-one, slice_get_read xs (length xs) j x refl i k) (ap₂ (λ (o : List A) (n : ℕ). set o n x) h e),
  )

  pub list_into : (d : A) (n : ℕ) (held : List A) → n ≤ length xs
      → gather_list f xs n held ≡ gather_into f (λ j. get_or xs j d) n held
  unfolding gather_list set_some gather_into
  list_into d zero held l = refl
  list_into d (suc n) held l =
      rw (slice_get-get_or xs n d (omega arith))
      (ap (λ (o : List A). set o (count f 0 n) (get_or xs n d)) (list_into d n held (omega arith)))

  -- what a block leaves, where it fits and where it does not
  pub held_into : (d : A) (b : Bool) (held : List A)
      → cond b (gather_list f xs (length xs) held) held ≡ cond b (gather_into f (λ j. get_or xs j d) (length xs) held) held
  held_into d b held = ap (λ (o : List A). cond b o held) (list_into d (length xs) held (omega arith))

-- what holds of no point, and goes on over a present and over an absent one
by-points : (f : ℕ → ℕ) (P : ℕ → Type 0) → P 0 → ((m : ℕ) → f m ≡ 1 → P m → P (m + 1))
    → ((m : ℕ) → (f m ≡ 1 → ⊥) → P m → P (m + 1)) → (m : ℕ) → P m
by-points f P z i o zero = z
by-points f P z i o (suc m) =
    subst P (add-one m)
    (elim (ℕ_discrete (f m) 1) [ yes h ↦ i m h (by-points f P z i o m) | no h ↦ o m h (by-points f P z i o m) ])

into_next : {A : Type 0} (f : ℕ → ℕ) (v : ℕ → A) (n : ℕ) (held : List A)
    → gather_into f v (n + 1) held ≡ set (gather_into f v n held) (count f 0 n) (v n)
unfolding gather_into
into_next f v n held = rw add-one

module _ {A : Type 0} (f : ℕ → ℕ) (b : Bits f) (v : ℕ → A) where
  pub length-gathered-of : (n : ℕ) → length (gathered_of f v n) ≡ count f 0 n
  unfolding gathered_of count
  length-gathered-of = by-points f (λ n. length (gathered_of f v n) ≡ count f 0 n) refl
      (λ n h e. ap length (gathered_in f v n h) ∙ length-append (gathered_of f v n) (v n ∷ []) ∙ ap (λ (x : ℕ). x + 1) e
      ∙ sym (count-one f n h))
      (λ n h e. ap length (gathered-out f v n h) ∙ e ∙ sym (count_none b n h))

  -- the list held begins with the values at present points
  pub gather-front : (held : List A) (n : ℕ) → n ≤ length held
      → take (count f 0 n) (gather_into f v n held) ≡ gathered_of f v n
  unfolding gathered_of count
  gather-front held = by-points f (λ n. n ≤ length held → take (count f 0 n) (gather_into f v n held) ≡ gathered_of f v n)
      (λ l. refl)
      (λ n h e l.
      let g = gather_into f v n held in
      let k : count f 0 n < length g = omega (arith, count-le b 0 n, length-gather_into f v n held) in
      ap₂ (λ (c : ℕ) (x : List A). take c x) (count-one f n h ∙ add-one (count f 0 n)) (into_next f v n held)
      ∙ take-suc-set g (count f 0 n) (v n) k ∙ ap (λ (x : List A). x ++ (v n ∷ [])) (e (omega arith))
      ∙ sym (gathered_in f v n h))
      (λ n h e l.
      let g = gather_into f v n held in
      ap₂ (λ (c : ℕ) (x : List A). take c x) (count_none b n h) (into_next f v n held)
      ∙ take-set-le (count f 0 n) g (count f 0 n) (v n) (omega arith) ∙ e (omega arith) ∙ sym (gathered-out f v n h))

  -- and after c that were held before it
  pub gather-after : (held : List A) (c n : ℕ) → c + n ≤ length held
      → take (c + count f 0 n) (take c held ++ gather_into f v n (drop c held)) ≡ take c held ++ gathered_of f v n
  gather-after held c n l =
      let e : length (take c held) ≡ c = length-take-le c held (omega arith) in
      ap (λ (x : ℕ). take (x + count f 0 n) (take c held ++ gather_into f v n (drop c held))) (sym e)
      ∙ take-append-add (take c held) (gather_into f v n (drop c held)) (count f 0 n)
      ∙ ap (λ (x : List A). take c held ++ x) (gather-front (drop c held) n (omega (arith, length-drop c held)))

  -- some points, and then some more
  pub gathered-more : (i m : ℕ)
      → gathered_of f v (i + m) ≡ gathered_of f v i ++ gathered_of (λ j. f (i + j)) (λ j. v (i + j)) m
  unfolding gathered_of
  gathered-more i =
      by-points (λ j. f (i + j))
      (λ m. gathered_of f v (i + m) ≡ gathered_of f v i ++ gathered_of (λ j. f (i + j)) (λ j. v (i + j)) m)
      (ap (gathered_of f v) (add-zero i) ∙ sym (append-nil (gathered_of f v i)))
      (λ m h e.
      let s : i + (m + 1) ≡ i + m + 1 = omega arith in
      ap (gathered_of f v) s ∙ gathered_in f v (i + m) h ∙ ap (λ (x : List A). x ++ (v (i + m) ∷ [])) e
      ∙ append_assoc (gathered_of f v i) (gathered_of (λ j. f (i + j)) (λ j. v (i + j)) m) (v (i + m) ∷ [])
      ∙ ap (λ (x : List A). gathered_of f v i ++ x) (sym (gathered_in (λ j. f (i + j)) (λ j. v (i + j)) m h)))
      (λ m h e.
      let s : i + (m + 1) ≡ i + m + 1 = omega arith in
      ap (gathered_of f v) s ∙ gathered-out f v (i + m) h ∙ e
      ∙ ap (λ (x : List A). gathered_of f v i ++ x) (sym (gathered-out (λ j. f (i + j)) (λ j. v (i + j)) m h)))

-- only the values at present ones of the first n points are gathered
pub gathered-present : {A : Type 0} (f : ℕ → ℕ) (v u : ℕ → A) (n : ℕ) → ((i : ℕ) → i < n → f i ≡ 1 → v i ≡ u i)
    → gathered_of f v n ≡ gathered_of f u n
unfolding gathered_of
gathered-present {A} f v u n =
    by-points f (λ n. ((i : ℕ) → i < n → f i ≡ 1 → v i ≡ u i) → gathered_of f v n ≡ gathered_of f u n)
    (λ k. refl)
    (λ n h e k. gathered_in f v n h
    ∙ ap₂ (λ (x : List A) (y : A). x ++ (y ∷ [])) (e (λ i l. k i (omega arith))) (k n (omega arith) h)
    ∙ sym (gathered_in f u n h))
    (λ n h e k. gathered-out f v n h ∙ e (λ i l. k i (omega arith)) ∙ sym (gathered-out f u n h))
    n
