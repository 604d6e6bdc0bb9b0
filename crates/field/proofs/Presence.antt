-- Presence by each kind of bitmap is what the loops read: all ones, or bits of the message or of the store; by
-- agreement below n.
use mathlib.Core.Path.{◌≡◌, refl, sym, ap, ap₂, ◌∙◌, subst}
use mathlib.Core.Bool.{cond}
use mathlib.Core.List.{List, ◌++◌}
use Prim.Native.Nat.{ℕ, zero, suc, ◌+◌, ◌-◌, ◌*◌, ◌≤◌, ◌<◌}
use native.Mathlib.Nat.{zero-add}
use native.Mathlib.Numerals.{add-one}
use native.Mathlib.Omega.{arith}
use lib.Dec.{eqb}
use lib.ListN.{length, get_or, take, drop, length-drop}
use lib.Seq.{take-length}
use Rattle.rules.specs.declared.{Part.Part, Bitmap.Bitmap, Bitmap.TheVariants.Without, Bitmap.TheVariants.Carried}
use Rattle.rules.specs.declared.{Bitmap.TheVariants.Stored}
use Rattle.bits.specs.Bits.{bits_in, count, runs, octets_for}
use Rattle.bits.proofs.Cut.{bits-take}
use Rattle.bits.proofs.Fill.{tab_ext, tab-of}
use Rattle.bits.proofs.Ones.{count_ext}
use Rattle.bits.proofs.Trip.{length_runs}
use Rattle.rules.specs.Places.{after}
use Rattle.rules.specs.Bitmap.{present_by, bitmap_octets, in_force}
use Rattle.rules.specs.Points.{value_at, scattered}
use Rattle.marks.specs.Marks.{marked_by}
use Rattle.marks.proofs.Bitmaps.{marked_ext}

-- two ways to say presence that agree below n
module _ (f g : ℕ → ℕ) (n : ℕ) (same : (j : ℕ) → j < n → f j ≡ g j) where
  count_same : (i : ℕ) → i ≤ n → count f 0 i ≡ count g 0 i
  count_same i l = count_ext f g 0 0 i (λ j k. ap f (zero-add j) ∙ same j (omega arith) ∙ ap g (sym (zero-add j)))

  scattered-same : (xs : List ℕ) → scattered f xs n ≡ scattered g xs n
  unfolding scattered value_at
  scattered-same xs =
      tab_ext (value_at f xs) (value_at g xs) n
      (λ i l. ap₂ (λ (x y : ℕ). cond (eqb x 1) (get_or xs y 0) 0) (same i l) (count_same i (omega arith)))

  pub count_by : (m : ℕ) → m ≡ count g 0 n → m ≡ count f 0 n
  count_by m e = e ∙ sym (count_same n (omega arith))

  pub lists-by : (xs v w a b : List ℕ) → a ≡ scattered f xs n ++ v → b ≡ marked_by f n w
      → (a ≡ scattered g xs n ++ v) × (b ≡ marked_by g n w)
  lists-by xs v w a b d e = (d ∙ ap (λ (x : List ℕ). x ++ v) (scattered-same xs), e ∙ marked_ext f g n w same)

abbrev always : ℕ → ℕ
always i = 1

count-always : (n : ℕ) → count always 0 n ≡ n
unfolding count
count-always zero = refl
count-always (suc n) = add-one (count always 0 n) ∙ ap suc (count-always n)

-- where every point is present each has its own value
own-values : (xs : List ℕ) → xs ≡ scattered always xs (length xs)
unfolding scattered value_at
own-values xs =
    sym (tab-of xs 0)
    ∙ tab_ext (λ i. get_or xs i 0) (value_at always xs) (length xs)
    (λ i l. ap (λ (x : ℕ). get_or xs x 0) (sym (count-always i)))

-- the octets from a place on, as a part
abbrev rest : List ℕ → ℕ → List ℕ
rest s a = take (length s - a) (drop a s)

rest-is : (s : List ℕ) (a : ℕ) → rest s a ≡ drop a s
rest-is s a = ap (λ (x : ℕ). take x (drop a s)) (sym (length-drop a s)) ∙ take-length (drop a s)

module _ (s store : List ℕ) (b : Bitmap) (p : Part) (n m : ℕ)
    (counted : m ≡ count (present_by b (bitmap_octets s store (in_force b p n))) 0 n) (room : after (in_force b p n).part ≤ length (cond (in_force b p n).stored store s)) where
  abbrev by : Bitmap → ℕ → ℕ
  by x = present_by x (bitmap_octets s store (in_force x p n))

  module _ (e : b ≡ Without) where
    agrees : (j : ℕ) → j < n → always j ≡ by b j
    unfolding present_by
    agrees = subst (λ (x : Bitmap). (j : ℕ) → j < n → always j ≡ by x j) (sym e) plain
      where
        plain : (j : ℕ) → j < n → always j ≡ by Without j
        plain j l = refl

    every : m ≡ n
    every = count_by always (by b) n agrees m counted ∙ count-always n

    pub without : (at bits : ℕ) (v w x y : List ℕ) → x ≡ runs (bits_in 8 s) at bits n ++ v → y ≡ marked_by always n w
        → (x ≡ scattered (by b) (runs (bits_in 8 s) at bits m) n ++ v) × (y ≡ marked_by (by b) n w)
    without at bits v w x y d c =
        let xs = runs (bits_in 8 s) at bits m in
        let l : length xs ≡ n = length_runs (bits_in 8 s) at bits m ∙ every in
        lists-by always (by b) n agrees xs v w x y
        (d ∙ ap (λ (k : ℕ). runs (bits_in 8 s) at bits k ++ v) (sym every)
        ∙ ap (λ (z : List ℕ). z ++ v) (own-values xs ∙ ap (scattered always xs) l)) c

  module _ (e : b ≡ Carried) where
    abbrev a : ℕ
    a = p.start + 6

    lies : a + octets_for n ≤ length s
    unfolding in_force
    lies = subst (λ (x : Bitmap). after (in_force x p n).part ≤ length (cond (in_force x p n).stored store s)) e room

    pub starts : a ≤ length s
    starts = omega (arith, lies)

    carried-agrees : (j : ℕ) → j < n → bits_in 8 (rest s a) j ≡ by b j
    unfolding present_by bitmap_octets in_force
    carried-agrees = subst (λ (x : Bitmap). (j : ℕ) → j < n → bits_in 8 (rest s a) j ≡ by x j) (sym e) plain
      where
        plain : (j : ℕ) → j < n → bits_in 8 (rest s a) j ≡ by Carried j
        plain j l = ap (λ (x : List ℕ). bits_in 8 x j) (rest-is s a)
            ∙ sym (bits-take (octets_for n) (drop a s) j (omega arith))

    pub carried_asks : (m ≡ count (bits_in 8 (rest s a)) 0 n) × (n ≤ length (rest s a) * 8)
    carried_asks = (
      count_by (bits_in 8 (rest s a)) (by b) n carried-agrees m counted,
      subst (λ (x : List ℕ). n ≤ length x * 8) (sym (rest-is s a)) (omega (arith, lies, length-drop a s)),
    )

    pub carried : (xs v w x y : List ℕ) → x ≡ scattered (bits_in 8 (rest s a)) xs n ++ v
        → y ≡ marked_by (bits_in 8 (rest s a)) n w
        → (x ≡ scattered (by b) xs n ++ v) × (y ≡ marked_by (by b) n w)
    carried xs v w x y = lists-by (bits_in 8 (rest s a)) (by b) n carried-agrees xs v w x y

  module _ (k : ℕ) (e : b ≡ Stored k) where
    holds : octets_for n ≤ length store
    unfolding in_force
    holds = let q = subst (λ (x : Bitmap). after (in_force x p n).part ≤ length (cond (in_force x p n).stored store s)) e room in omega (arith, q)

    stored-agrees : (j : ℕ) → j < n → bits_in 8 store j ≡ by b j
    unfolding present_by bitmap_octets in_force
    stored-agrees = subst (λ (x : Bitmap). (j : ℕ) → j < n → bits_in 8 store j ≡ by x j) (sym e) plain
      where
        plain : (j : ℕ) → j < n → bits_in 8 store j ≡ by (Stored k) j
        plain j l = sym (bits-take (octets_for n) store j (omega arith))

    pub stored_asks : (m ≡ count (bits_in 8 store) 0 n) × (n ≤ length store * 8)
    stored_asks = (count_by (bits_in 8 store) (by b) n stored-agrees m counted, omega (arith, holds))

    pub stored : (xs v w x y : List ℕ) → x ≡ scattered (bits_in 8 store) xs n ++ v → y ≡ marked_by (bits_in 8 store) n w
        → (x ≡ scattered (by b) xs n ++ v) × (y ≡ marked_by (by b) n w)
    stored xs v w x y = lists-by (bits_in 8 store) (by b) n stored-agrees xs v w x y
