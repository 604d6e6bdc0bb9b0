-- Laws of the loop that spreads values to their points from the last to the first.
use mathlib.Core.Path.{◌≡◌, refl, sym, ap, ap₂, ◌∙◌, subst}
use mathlib.Core.List.{List, ◌++◌}
use mathlib.Core.Logic.{◌⊎◌, ⊎_elim}
use Prim.Native.Nat.{ℕ, zero, suc, ◌+◌, ◌-◌, ◌*◌, ◌%◌, ◌^◌, ◌≤◌, ◌<◌, zero-le}
use native.Mathlib.Nat.{zero-div, zero-add, mul-one, mul-zero, mul-le-mul_left, lt_of_le_of_lt, not-suc-le-zero}
use native.Mathlib.Nat.{le_of_suc-le-suc}
use native.Mathlib.Numerals.{add-one}
use native.Mathlib.Decide.{ℕ_discrete}
use native.Mathlib.Omega.{arith}
use borrow.Author.Tests.{eq-eqb, ne_eqb}
use lib.ListN.{length, get_or, set, drop, length-append, length-drop, length-set, get_or-append}
use lib.Seq.{get_or-set_same, get_or-set_other, ext_get_or, get_or-append-add, get_or-drop, drop-append-add, drop-drop}
use Rattle.bits.specs.Bits.{bit_of, bits_in, count}
use Rattle.bits.specs.Tables.{tab}
use Rattle.rules.specs.Points.{value_at}
use Rattle.bits.proofs.Runs.{Bits, bits_in-bits, bits_at, lt_or_ge}
use Rattle.bits.proofs.Fill.{length-tab, get_or-tab, tab_ext}
use Rattle.bits.proofs.Ones.{count-le}
use Rattle.laws.proofs.Gathered.{number_lt}
use Rattle.field.specs.Down.{Down}

pub count_next : (f : ℕ → ℕ) (i : ℕ) → count f 0 (i + 1) ≡ count f 0 i + f i
unfolding count
count_next f i = ap (count f 0) (add-one i) ∙ ap (λ (x : ℕ). count f 0 i + f x) (zero-add i)

-- before the first turn no point is done: the list is as it was
pub down-none : (f : ℕ → ℕ) (n : ℕ) (v : List ℕ) → Down f n v v n
down-none f n v = record { len = refl; under = λ j h. refl; done = λ j h k. absurd (not-suc-le-zero (zero_of j h k)); past = λ j h. refl }
  where
    zero_of : (j : ℕ) → n ≤ j → j < n → 1 ≤ 0
    zero_of j h k = omega arith

pub point_times : (f : ℕ → ℕ) (v : List ℕ) (i : ℕ) → f i < 2 → get_or v (count f 0 i) 0 * f i ≡ value_at f v i
unfolding value_at
point_times f v i h = elim (ℕ_discrete (f i) 1) [
  | yes e ↦ ap (λ (x : ℕ). get_or v (count f 0 i) 0 * x) e ∙ mul-one (get_or v (count f 0 i) 0)
      ∙ sym (rw (eq-eqb (f i) 1 e))
  | no e ↦ ap (λ (x : ℕ). get_or v (count f 0 i) 0 * x) (none e) ∙ mul-zero (get_or v (count f 0 i) 0)
      ∙ sym (rw (ne_eqb (f i) 1 e))
]
  where
    none : (f i ≡ 1 → ⊥) → f i ≡ 0
    none e = omega arith

pub down_turn : {f : ℕ → ℕ} → Bits f → (n : ℕ) (v out : List ℕ) (i c x : ℕ) → i < n → n ≤ length v → c ≡ count f 0 i
    → x ≡ get_or out c 0 * f i
    → Down f n v out (i + 1) → Down f n v (set out i x) i
down_turn {f} b n v out i c x l m e h d = record {
  len = length-set out i x ∙ d.len;
  under = λ j k. get_or-set_other out i j x 0 (λ z. absurd (less j k z)) ∙ d.under j (omega arith);
  done = λ j k q. elim (ℕ_discrete j i) [
    | yes z ↦ ap (λ (y : ℕ). get_or (set out i x) y 0) z
        ∙ get_or-set_same out i x 0 (subst (λ (y : ℕ). i < y) (sym d.len) (omega arith)) ∙ here
        ∙ ap (value_at f v) (sym z)
    | no z ↦ get_or-set_other out i j x 0 z ∙ d.done j (more j k z) q
  ];
  past = λ j k. get_or-set_other out i j x 0 (λ z. absurd (less' j k z)) ∙ d.past j k;
}
  where
    less : (j : ℕ) → j < i → j ≡ i → ⊥
    less j k z = omega arith

    less' : (j : ℕ) → n ≤ j → j ≡ i → ⊥
    less' j k z = omega arith

    more : (j : ℕ) → i ≤ j → (j ≡ i → ⊥) → i + 1 ≤ j
    more j k z = omega arith

    here : x ≡ value_at f v i
    here =
        let s : c < i + 1 = omega (arith, count-le b 0 i) in
        h ∙ ap (λ (y : ℕ). y * f i) (d.under c s ∙ ap (λ (y : ℕ). get_or v y 0) e) ∙ point_times f v i (b i)

pub down-all : (f : ℕ → ℕ) (n : ℕ) (v out : List ℕ) → n ≤ length v → Down f n v out 0
    → out ≡ tab (value_at f v) n ++ drop n v
down-all f n v out l d = ext_get_or 0 out (T ++ drop n v) same
    (λ i h. ⊎_elim
    (λ k. d.done i zero-le k
    ∙ sym (get_or-append T (drop n v) 0 i (subst (λ (y : ℕ). i < y) (sym lt) k) ∙ get_or-tab (value_at f v) n i 0 k))
    (λ k. d.past i k
    ∙ sym (ap (λ (y : ℕ). get_or (T ++ drop n v) y 0) (split i k) ∙ get_or-append-add T (drop n v) (i - n) 0
    ∙ get_or-drop n v (i - n) 0 ∙ ap (λ (y : ℕ). get_or v y 0) (over i k)))
    (lt_or_ge i n))
  where
    T : List ℕ
    T = tab (value_at f v) n

    lt : length T ≡ n
    lt = length-tab (value_at f v) n

    over : (i : ℕ) → n ≤ i → n + (i - n) ≡ i
    over i k = omega arith

    split : (i : ℕ) → n ≤ i → i ≡ length T + (i - n)
    split i k = sym (ap (λ (y : ℕ). y + (i - n)) lt ∙ over i k)

    same : length out ≡ length (T ++ drop n v)
    same = d.len ∙ sym (length-append T (drop n v) ∙ ap₂ (λ (x y : ℕ). x + y) lt (length-drop n v) ∙ back)
      where
        back : n + (length v - n) ≡ length v
        back = omega arith

pub times_fits : (v k : ℕ) → v < 2 ^ 32 → k < 2 → v * k < 2 ^ 32
times_fits v k h l = lt_of_le_of_lt (subst (λ (y : ℕ). v * k ≤ y) (mul-one v) (mul-le-mul_left v (le k l))) h
  where
    le : (k : ℕ) → k < 2 → k ≤ 1
    le k l = omega arith

module _ (bm : List ℕ) (i i' c k : ℕ) (e : i' + 1 ≡ i) (h : c ≡ count (bits_in 8 bm) 0 i) (b : k ≡ bits_in 8 bm i') where
  next-count : c ≡ count (bits_in 8 bm) 0 i' + k
  next-count =
      h ∙ ap (count (bits_in 8 bm) 0) (sym e) ∙ count_next (bits_in 8 bm) i'
      ∙ ap (λ (x : ℕ). count (bits_in 8 bm) 0 i' + x) (sym b)

  pub step_count : (k ≤ c) × (c - k ≡ count (bits_in 8 bm) 0 i') × (c - k ≤ i')
  step_count =
      let q = next-count in
      let r = count-le (bits_in-bits 8 bm) 0 i' in
      (omega arith, omega arith, omega arith)

  pub down_step : (n : ℕ) (out : List ℕ) (x : ℕ) → i ≤ n → n ≤ length out → x ≡ get_or out (c - k) 0 * k
      → (v : List ℕ) → Down (bits_in 8 bm) n v out i → Down (bits_in 8 bm) n v (set out i' x) i'
  down_step n out x l m z v d =
      down_turn (bits_in-bits 8 bm) n v out i' (c - k) x (omega arith) (subst (λ (y : ℕ). n ≤ y) d.len m)
      step_count.1
      (z ∙ ap (λ (y : ℕ). get_or out (c - k) 0 * y) b) (subst (Down (bits_in 8 bm) n v out) (sym e) d)

-- from point `top` down to point i each has its value, and d values are left
abbrev pub Settled : List ℕ → ℕ → ℕ → List ℕ → List ℕ → ℕ → ℕ → Type 0
Settled bm n top out₀ out i d =
    (d ≡ count (bits_in 8 bm) 0 i) × (length out ≡ length out₀)
    × ((v : List ℕ) → Down (bits_in 8 bm) n v out₀ top → Down (bits_in 8 bm) n v out i)

module _ (bm : List ℕ) (n top i i' d k : ℕ) (out₀ out : List ℕ) (e : i' + 1 ≡ i) (l : i ≤ n) (m : n ≤ length out₀)
    (b : k ≡ bits_in 8 bm i') (s : Settled bm n top out₀ out i d) where
  pub settle_asks : ((k < 2) × ((k ≤ d) × (d - k ≤ i'))) × (i' < length out)
  settle_asks =
      let t = step_count bm i i' d k e s.0 b in
      let u = bits_in-bits 8 bm i' in
      ((omega arith, (t.0, t.2)), omega arith)

  pub settle_turn : (r : ℕ) (o : List ℕ) → r ≡ d - k → o ≡ set out i' (get_or out (d - k) 0 * k)
      → Settled bm n top out₀ o i' r
  settle_turn r o f g = (
    f ∙ (step_count bm i i' d k e s.0 b).1,
    ap length g ∙ length-set out i' _ ∙ s.1,
    λ v q. subst (λ (x : List ℕ). Down (bits_in 8 bm) n v x i') (sym g)
        (down_step bm i i' d k e s.0 b n out _ l (subst (λ (x : ℕ). n ≤ x) (sym s.1) m) refl v (s.2 v q)),
  )

-- the points of octet g: point j, whose bit is k
module _ (bm : List ℕ) (n g j d k : ℕ) (out₀ out : List ℕ) (some : 0 < j) (few : j ≤ 8) (l : g * 8 + 8 ≤ n) (m : n ≤ length out₀)
    (b : k ≡ bits_in 8 bm (g * 8 + (j - 1))) (s : Settled bm n (g * 8 + 8) out₀ out (g * 8 + j) d) where
  pub octet_asks : ((k < 2) × ((k ≤ d) × (d - k ≤ g * 8 + (j - 1)))) × (g * 8 + (j - 1) < length out)
  octet_asks = settle_asks bm n (g * 8 + 8) (g * 8 + j) (g * 8 + (j - 1)) d k out₀ out (omega arith) (omega arith) m b s

  pub octet_turn : (r : ℕ) (o : List ℕ) → r ≡ d - k → o ≡ set out (g * 8 + (j - 1)) (get_or out (d - k) 0 * k)
      → (j - 1 ≤ 8) × Settled bm n (g * 8 + 8) out₀ o (g * 8 + (j - 1)) r
  octet_turn r o f e = (
    omega arith,
    settle_turn bm n (g * 8 + 8) (g * 8 + j) (g * 8 + (j - 1)) d k out₀ out (omega arith) (omega arith)
        m b s r o f e,
  )

pub settled_octet : (bm : List ℕ) (n g j d : ℕ) (out₀ out : List ℕ) → j ≡ 0
    → Settled bm n (g * 8 + 8) out₀ out (g * 8 + j) d
    → (d ≡ count (bits_in 8 bm) 0 (g * 8))
    × ((v : List ℕ) → Down (bits_in 8 bm) n v out₀ (g * 8 + 8) → Down (bits_in 8 bm) n v out (g * 8))
settled_octet bm n g j d out₀ out z s =
    let e : g * 8 + j ≡ g * 8 = omega arith in
    (s.0 ∙ ap (count (bits_in 8 bm) 0) e, λ v q. subst (Down (bits_in 8 bm) n v out) e (s.2 v q))

-- the value of a present point lies among the first: values put before others spread as by themselves
pub spread-front : {f : ℕ → ℕ} → Bits f → (xs v : List ℕ) (p : ℕ) → length xs ≡ count f 0 p → p ≤ length v
    → tab (value_at f (xs ++ drop (length xs) v)) p ++ drop p (xs ++ drop (length xs) v) ≡ tab (value_at f xs) p
    ++ drop p v
unfolding value_at
spread-front {f} b xs v p e l = ap₂ (λ (x y : List ℕ). x ++ y) (tab_ext (value_at f w) (value_at f xs) p at) rest
  where
    w : List ℕ
    w = xs ++ drop (length xs) v

    at : (k : ℕ) → k < p → value_at f w k ≡ value_at f xs k
    at k h = elim (ℕ_discrete (f k) 1) [
      | yes t ↦ rw (eq-eqb (f k) 1 t)
          (get_or-append xs (drop (length xs) v) 0 (count f 0 k)
          (subst (λ (y : ℕ). count f 0 k < y) (sym e) (number_lt f k p t h)))
      | no t ↦ rw (ne_eqb (f k) 1 t)
    ]

    le : length xs ≤ p
    le = subst (λ (y : ℕ). y ≤ p) (sym e) (count-le b 0 p)

    back : length xs + (p - length xs) ≡ p
    back = omega (arith, le)

    rest : drop p w ≡ drop p v
    rest =
        ap (λ (y : ℕ). drop y w) (sym back) ∙ drop-append-add xs (drop (length xs) v) (p - length xs)
        ∙ drop-drop (p - length xs) (length xs) v ∙ ap (λ (y : ℕ). drop y v) back

pub bit-none : (j : ℕ) → bit_of 8 0 j ≡ 0
unfolding bit_of
bit-none j = ap (λ (x : ℕ). x % 2) (zero-div (2 ^ (8 - 1 - j)))

pub bit-all : (j : ℕ) → j < 8 → bit_of 8 255 j ≡ 1
unfolding bit_of
bit-all zero h = refl
bit-all (suc zero) h = refl
bit-all (suc (suc zero)) h = refl
bit-all (suc (suc (suc zero))) h = refl
bit-all (suc (suc (suc (suc zero)))) h = refl
bit-all (suc (suc (suc (suc (suc zero))))) h = refl
bit-all (suc (suc (suc (suc (suc (suc zero)))))) h = refl
bit-all (suc (suc (suc (suc (suc (suc (suc zero))))))) h = refl
bit-all (suc (suc (suc (suc (suc (suc (suc (suc j)))))))) h =
    absurd (not-suc-le-zero
    (le_of_suc-le-suc
    (le_of_suc-le-suc
    (le_of_suc-le-suc
    (le_of_suc-le-suc (le_of_suc-le-suc (le_of_suc-le-suc (le_of_suc-le-suc (le_of_suc-le-suc h)))))))))

-- the bits of an octet that is 0, or 255
pub octet-none : (bm : List ℕ) (g j : ℕ) → j < 8 → get_or bm g 0 ≡ 0 → 0 ≡ bits_in 8 bm (g * 8 + j)
octet-none bm g j h e = sym (bits_at 8 bm g j h ∙ ap (λ (x : ℕ). bit_of 8 x j) e ∙ bit-none j)

pub octet-all : (bm : List ℕ) (g j : ℕ) → j < 8 → get_or bm g 0 ≡ 255 → 1 ≡ bits_in 8 bm (g * 8 + j)
octet-all bm g j h e = sym (bits_at 8 bm g j h ∙ ap (λ (x : ℕ). bit_of 8 x j) e ∙ bit-all j h)
