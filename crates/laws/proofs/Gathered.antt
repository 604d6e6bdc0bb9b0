-- The values at present points: gathered and scattered again, and scattered and gathered again, they are the same; by
-- induction on the points, one present or one absent at a time.
use mathlib.Core.Path.{◌≡◌, refl, sym, ap, ap₂, ◌∙◌, subst}
use Prim.Native.Nat.{ℕ, zero, suc, ◌+◌, ◌^◌, ◌≤◌, ◌<◌}
use mathlib.Core.Bool.{Bool, true, false, cond}
use mathlib.Core.List.{List, [], ◌∷◌, ◌++◌}
use mathlib.Core.Logic.{⊎_elim}
use native.Mathlib.Nat.{eq-or-lt_of_le, not-suc-le-zero}
use native.Mathlib.Numerals.{add-one}
use native.Mathlib.Decide.{ℕ_discrete}
use native.Mathlib.Omega.{arith}
use borrow.Author.Tests.{eq-eqb, ne_eqb}
use lib.Dec.{eqb}
use lib.Pow.{pow_pos}
use lib.ListN.{length, get_or, take, length-append, get_or-append}
use lib.Seq.{get_or_at, take-suc, take-length}
use Rattle.bits.specs.Bits.{count, Wide}
use Rattle.bits.specs.Tables.{tab}
use Rattle.bits.proofs.Runs.{Bits}
use Rattle.bits.proofs.Fill.{get_or-tab, tab_ext, tab-of}
use Rattle.bits.proofs.Ones.{count-one, count_none, count_mono}
use Rattle.bits.proofs.Cut.{wide_snoc}
use Rattle.bits.proofs.Marks.{count_same}
use Rattle.rules.specs.Bitmap.{mark_of, value_of}
use Rattle.rules.specs.Points.{gathered, scattered, value_at}

-- a present point's data number is below the number of present points
pub number_lt : (f : ℕ → ℕ) (i m : ℕ) → f i ≡ 1 → i < m → count f 0 i < count f 0 m
number_lt f i m t l = omega (arith, count-one f i t, count_mono f 0 (i + 1) m (omega arith))

module _ (f : ℕ → ℕ) (b : Bits f) (v : ℕ → ℕ) where
  pub gathered_in : (m : ℕ) → f m ≡ 1 → gathered f v (m + 1) ≡ gathered f v m ++ (v m ∷ [])
  unfolding gathered
  gathered_in m h = rw (add-one, eq-eqb (f m) 1 h)

  pub gathered-out : (m : ℕ) → (f m ≡ 1 → ⊥) → gathered f v (m + 1) ≡ gathered f v m
  unfolding gathered
  gathered-out m h = rw (add-one, ne_eqb (f m) 1 h)

  -- what holds of no point, and goes on over a present and over an absent one
  by-points : (P : ℕ → Type 0) → P 0 → ((m : ℕ) → f m ≡ 1 → P m → P (m + 1))
      → ((m : ℕ) → (f m ≡ 1 → ⊥) → P m → P (m + 1)) → (m : ℕ) → P m
  by-points P z i o zero = z
  by-points P z i o (suc m) =
      subst P (add-one m)
      (elim (ℕ_discrete (f m) 1) [ yes h ↦ i m h (by-points P z i o m) | no h ↦ o m h (by-points P z i o m) ])

  pub length-gathered : (m : ℕ) → length (gathered f v m) ≡ count f 0 m
  unfolding gathered count
  length-gathered = by-points (λ m. length (gathered f v m) ≡ count f 0 m) refl
      (λ m h e. ap length (gathered_in m h) ∙ length-append (gathered f v m) (v m ∷ []) ∙ ap (λ (x : ℕ). x + 1) e
      ∙ sym (count-one f m h))
      (λ m h e. ap length (gathered-out m h) ∙ e ∙ sym (count_none b m h))

  pub wide-gathered : (n : ℕ) → ((i : ℕ) → v i < 2 ^ n) → (m : ℕ) → Wide n (gathered f v m)
  unfolding gathered
  wide-gathered n w = by-points (λ m. Wide n (gathered f v m)) (λ k. pow_pos n)
      (λ m h e. subst (Wide n) (sym (gathered_in m h)) (wide_snoc n (gathered f v m) (v m) e (w m)))
      (λ m h e. subst (Wide n) (sym (gathered-out m h)) e)

  -- a present point's value stands at its data number
  get_or-gathered : (i : ℕ) → f i ≡ 1 → (m : ℕ) → i < m → get_or (gathered f v m) (count f 0 i) 0 ≡ v i
  get_or-gathered i t =
      by-points (λ m. i < m → get_or (gathered f v m) (count f 0 i) 0 ≡ v i) (λ l. absurd (not-suc-le-zero l))
      (λ m h e l. ap (λ (x : List ℕ). get_or x (count f 0 i) 0) (gathered_in m h) ∙ ⊎_elim
      (λ p. ap (λ (x : ℕ). get_or (gathered f v m ++ (v m ∷ [])) (count f 0 x) 0) p
      ∙ get_or_at (gathered f v m) (v m) [] 0 (count f 0 m) (length-gathered m) ∙ ap v (sym p))
      (λ q. get_or-append (gathered f v m) (v m ∷ []) 0 (count f 0 i)
      (subst (λ (x : ℕ). count f 0 i < x) (sym (length-gathered m)) (number_lt f i m t q)) ∙ e q)
      (eq-or-lt_of_le (step l)))
      (λ m h e l. ap (λ (x : List ℕ). get_or x (count f 0 i) 0) (gathered-out m h)
      ∙ ⊎_elim (λ p. absurd (h (ap f (sym p) ∙ t))) e (eq-or-lt_of_le (step l)))
    where
      step : {m : ℕ} → i < m + 1 → i ≤ m
      step h = omega arith

-- the value at a point, present or absent
module _ (f : ℕ → ℕ) (xs : List ℕ) where
  pub value_there : (i : ℕ) → f i ≡ 1 → value_at f xs i ≡ get_or xs (count f 0 i) 0
  unfolding value_at
  value_there i h = ap (λ (t : Bool). cond t (get_or xs (count f 0 i) 0) 0) (eq-eqb (f i) 1 h)

  pub value-away : (i : ℕ) → (f i ≡ 1 → ⊥) → value_at f xs i ≡ 0
  unfolding value_at
  value-away i h = ap (λ (t : Bool). cond t (get_or xs (count f 0 i) 0) 0) (ne_eqb (f i) 1 h)

  pub value-lt : (n : ℕ) → Wide n xs → (i : ℕ) → value_at f xs i < 2 ^ n
  unfolding value_at
  value-lt n w i = go (eqb (f i) 1)
    where
      go : (t : Bool) → cond t (get_or xs (count f 0 i) 0) 0 < 2 ^ n
      go true = w (count f 0 i)
      go false = pow_pos n

pub scattered-back : (g f : ℕ → ℕ) (values : List ℕ) (n : ℕ) → Bits f → length values ≡ n
    → ((i : ℕ) → i < n → g i ≡ f i) → ((i : ℕ) → i < n → f i ≡ 0 → value_of values i ≡ 0)
    → scattered g (gathered f (value_of values) n) n ≡ values
unfolding scattered
scattered-back g f values n b e same absent =
    tab_ext (value_at g xs) (λ k. get_or values k 0) n value-back ∙ ap (tab (λ k. get_or values k 0)) (sym e)
    ∙ tab-of values 0
  where
    xs : List ℕ
    xs = gathered f (value_of values) n

    zero_of : (x : ℕ) → x < 2 → (x ≡ 1 → ⊥) → x ≡ 0
    zero_of x l h = omega arith

    there : (i : ℕ) → i < n → g i ≡ 1 → value_at g xs i ≡ get_or values i 0
    there i l h =
        value_there g xs i h ∙ ap (λ (x : ℕ). get_or xs x 0) (count_same g f n same i (omega arith))
        ∙ get_or-gathered f b (value_of values) i (sym (same i l) ∙ h) n l

    away : (i : ℕ) → i < n → (g i ≡ 1 → ⊥) → value_at g xs i ≡ get_or values i 0
    away i l h = value-away g xs i h ∙ sym (absent i l (zero_of (f i) (b i) (λ t. h (same i l ∙ t))))

    value-back : (i : ℕ) → i < n → value_at g xs i ≡ get_or values i 0
    value-back i l = elim (ℕ_discrete (g i) 1) [ yes h ↦ there i l h | no h ↦ away i l h ]

pub marks-back : (g : ℕ → ℕ) (marks : List ℕ) (n : ℕ) → length marks ≡ n → ((i : ℕ) → i < n → g i ≡ get_or marks i 0)
    → tab g n ≡ marks
marks-back g marks n e same =
    tab_ext g (λ k. get_or marks k 0) n same ∙ ap (tab (λ k. get_or marks k 0)) (sym e) ∙ tab-of marks 0

-- only the first n points are gathered
gathered_ext : (f g v u : ℕ → ℕ) (n : ℕ) → ((i : ℕ) → i < n → f i ≡ g i) → ((i : ℕ) → i < n → v i ≡ u i)
    → gathered f v n ≡ gathered g u n
unfolding gathered
gathered_ext f g v u zero h k = refl
gathered_ext f g v u (suc n) h k =
    let before : gathered f v n ≡ gathered g u n = gathered_ext f g v u n (λ i l. h i (omega arith)) (λ i l. k i (omega arith)) in
    let a : f n ≡ g n = h n (omega arith) in
    let b : v n ≡ u n = k n (omega arith) in
    λ i. cond (eqb (a i) 1) (before i ++ (b i ∷ [])) (before i)

module _ (f : ℕ → ℕ) (b : Bits f) (xs : List ℕ) where
  gathered-front : (m : ℕ) → count f 0 m ≤ length xs → gathered f (value_at f xs) m ≡ take (count f 0 m) xs
  unfolding gathered count
  gathered-front =
      by-points f b (value_at f xs) (λ m. count f 0 m ≤ length xs → gathered f (value_at f xs) m ≡ take (count f 0 m) xs)
      (λ l. refl)
      (λ m h e l.
      let c : count f 0 (m + 1) ≡ suc (count f 0 m) = count-one f m h ∙ add-one (count f 0 m) in
      gathered_in f b (value_at f xs) m h
      ∙ ap₂ (λ (x : List ℕ) (y : ℕ). x ++ (y ∷ [])) (e (omega arith)) (value_there f xs m h)
      ∙ sym (ap (λ (x : ℕ). take x xs) c ∙ take-suc xs (count f 0 m) 0 (omega arith)))
      (λ m h e l.
      let c : count f 0 (m + 1) ≡ count f 0 m = count_none b m h in
      gathered-out f b (value_at f xs) m h ∙ e (omega arith) ∙ sym (ap (λ (x : ℕ). take x xs) c))

  pub gathered-back : (n : ℕ) → length xs ≡ count f 0 n
      → gathered (mark_of (tab f n)) (value_of (scattered f xs n)) n ≡ xs
  unfolding scattered
  gathered-back n e =
      gathered_ext (mark_of (tab f n)) f (value_of (tab (value_at f xs) n)) (value_at f xs) n (λ i l. get_or-tab f n i 0 l)
      (λ i l. get_or-tab (value_at f xs) n i 0 l)
      ∙ gathered-front n (omega arith) ∙ ap (λ (x : ℕ). take x xs) (sym e) ∙ take-length xs
