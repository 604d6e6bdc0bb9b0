-- R's size over 16^70 and over 16^5: with A from 65 to 75 a factor of 16^65 cancels; with a lower A the size is below
-- 16^70, with a higher one at least 16^76.
use mathlib.Core.Path.{◌≡◌, refl, sym, ap, ap₂, ◌∙◌, subst}
use mathlib.Core.Bool.{Bool, true, false, not, ◌||◌, or-true}
use mathlib.Core.Logic.{⊎_elim}
use Prim.Native.Nat.{ℕ, zero, suc, ◌+◌, ◌-◌, ◌*◌, ◌/◌, ◌%◌, ◌^◌, ◌<◌, ◌≤◌}
use native.Mathlib.Nat.{mul_assoc, mul-div-mul_right, mul-lt-mul_of_pos_right, mul-le-mul, mul-le-mul_left}
use native.Mathlib.Nat.{mul-le-mul_right, mod-lt, div-add-mod', mod-eq_of_lt, div-eq_of_lt, zero-mul, add-mul, suc-mul}
use native.Mathlib.Nat.{mul-add-mod_self_right, pow-le-pow_right, pow-suc, lt_of_lt_of_le, lt_of_le_of_lt, one-le-mul}
use native.Mathlib.Nat.{one-le-pow}
use native.Mathlib.Omega.{arith}
use lib.Dec.{ltb, eqb, lit<}
use lib.Pow.{pow-add, shl_exact}
use borrow.Author.Tests.{lt-ltb, le-ltb, eq-eqb, ne_eqb, ltb-false}
use lib.IntN.{pos, neg_ℤ, ◌-ℤ◌}
use mir.Syntax.{w32}
use mir.Val.{to_z, of_z}
use mir.Facts.{to_z_pos}
use Rattle.bits.proofs.Runs.{lt_or_ge}
use Rattle.bits.proofs.Tests.{or_false}
use Rattle.rules.specs.Bounds.{source_most}
use Rattle.rules.specs.Values.{s_of, a_of, b_of, unit, size_of, whole, whole_of}
use Rattle.octets.proofs.Signs.{neg_back}
use Rattle.source.specs.Whole.{SaysWhole, the_whole_bad, whole_from}

-- a common factor c
module _ (c : ℕ) (h : 0 < c) where
  mod_factor : (p u : ℕ) → 0 < u → (p * c) % (u * c) ≡ (p % u) * c
  mod_factor p u k =
      ap (λ (x : ℕ). (x * c) % (u * c)) (sym (div-add-mod' p u))
      ∙ ap (λ (x : ℕ). x % (u * c))
      (add-mul (p / u * u) (p % u) c ∙ ap (λ (x : ℕ). x + p % u * c) (mul_assoc (p / u) u c))
      ∙ mul-add-mod_self_right (p / u) (u * c) (p % u * c)
      ∙ mod-eq_of_lt (mul-lt-mul_of_pos_right (mod-lt p k) h)

  zero_factor : (x : ℕ) → eqb (x * c) 0 ≡ eqb x 0
  zero_factor zero = ap (λ (x : ℕ). eqb x 0) (zero-mul c)
  zero_factor (suc x) =
      ne_eqb (suc x * c) 0 (λ e. let q = suc-mul x c in omega arith) ∙ sym (ne_eqb (suc x) 0 (λ e. omega arith))

  lt_factor : (x y : ℕ) → ltb (x * c) (y * c) ≡ ltb x y
  lt_factor x y = ⊎_elim
      (λ l. lt-ltb (x * c) (y * c) (mul-lt-mul_of_pos_right l h) ∙ sym (lt-ltb x y l))
      (λ l. le-ltb (x * c) (y * c) (mul-le-mul_right c l) ∙ sym (le-ltb x y l))
      (lt_or_ge x y)

-- a number of hex digits is a number of bits
pub sixteen : (k : ℕ) → 2 ^ (4 * k) ≡ 16 ^ k
sixteen zero = refl
sixteen (suc k) =
    let e : 4 * suc k ≡ 4 * k + 4 = omega arith in
    ap (λ (x : ℕ). 2 ^ x) e ∙ pow-add 2 (4 * k) 4 ∙ ap (λ (x : ℕ). x * 16) (sixteen k) ∙ sym (pow-suc 16 k)

-- B × 16^A with a low A and with a high one
low : (a b : ℕ) → b < 16 ^ 6 → a < 65 → b * 16 ^ a < unit
low a b h l =
    lt_of_le_of_lt (mul-le-mul_left b (pow-le-pow_right (lit< tt) {i = a} {j = 64} (omega arith)))
    (mul-lt-mul_of_pos_right {k = 16 ^ 64} h (lit< tt))

high : (a b : ℕ) → 0 < b → 75 < a → source_most * unit < b * 16 ^ a
high a b h l =
    lt_of_lt_of_le {m = 1 * 16 ^ 76} (lit< tt) (mul-le-mul {n₁ = 1} h (pow-le-pow_right (lit< tt) {i = 76} {j = a} l))

-- the whole number, from the parts
bounded : (p : ℕ) → not (eqb (p % 1048576) 0) || ltb (source_most * 1048576) p ≡ false → p / 1048576 ≤ source_most
bounded p h =
    let l : p ≤ source_most * 1048576 = ltb-false _ _ (or_false (not (eqb (p % 1048576) 0)) _ h).1 in
    omega arith

module _ (r : ℕ) where
  pub naught : b_of r ≡ 0 → SaysWhole r 0
  unfolding the_whole_bad whole size_of
  naught e =
      let z : size_of r ≡ 0 = ap (λ (x : ℕ). x * 16 ^ a_of r) e ∙ zero-mul (16 ^ a_of r) in
      record { bad = rw z; size = λ _. rw z }

  none : the_whole_bad r ≡ true → SaysWhole r 1
  none t = record { bad = sym t; size = λ f. absurd (let q : ◌≡◌ {A = ℕ} 0 1 = cc in omega arith) }

  pub small : (b_of r ≡ 0 → ⊥) → a_of r < 65 → SaysWhole r 1
  unfolding the_whole_bad whole size_of
  small h l =
      let t : size_of r < unit = low (a_of r) (b_of r) (mod-lt r (lit< tt)) l in
      let n : 1 ≤ size_of r = one-le-mul (omega arith) (one-le-pow (a_of r) 16 (lit< tt)) in
      none (rw (mod-eq_of_lt t, ne_eqb (size_of r) 0 (λ e. omega arith)))

  pub great : (b_of r ≡ 0 → ⊥) → 75 < a_of r → SaysWhole r 1
  unfolding the_whole_bad size_of
  great h l =
      none (rw (lt-ltb (source_most * unit) (size_of r) (high (a_of r) (b_of r) (omega arith) l)) (or-true (not (whole r))))

  pub middle : 65 ≤ a_of r → a_of r ≤ 75 → SaysWhole r (b_of r * 2 ^ (4 * (a_of r - 65)) % 2 ^ 64)
  unfolding the_whole_bad whole size_of
  middle h l =
      let k = a_of r - 65 in
      let p = b_of r * 16 ^ k in
      let c = 16 ^ 65 in
      let e : a_of r ≡ k + 65 = omega arith in
      let f : b_of r * 2 ^ (4 * k) % 2 ^ 64 ≡ p = shl_exact 24 (4 * k) 64 (mod-lt r (lit< tt)) (omega arith) ∙ ap (λ (x : ℕ). b_of r * x) (sixteen k) in
      let z : size_of r ≡ p * c = ap (λ (x : ℕ). b_of r * 16 ^ x) e ∙ ap (λ (x : ℕ). b_of r * x) (pow-add 16 k 65) ∙ sym (mul_assoc (b_of r) (16 ^ k) c) in
      let w : eqb (p % 1048576) 0 ≡ eqb (size_of r % unit) 0 = sym (ap (λ (x : ℕ). eqb (x % unit) 0) z ∙ ap (λ (x : ℕ). eqb x 0) (mod_factor c (lit< tt) p 1048576 (lit< tt)) ∙ zero_factor c (lit< tt) (p % 1048576)) in
      let o : ltb (source_most * 1048576) p ≡ ltb (source_most * unit) (size_of r) = sym (ap (ltb (source_most * unit)) z ∙ lt_factor c (lit< tt) (source_most * 1048576) p) in
      subst (SaysWhole r) (sym f) (record {
        bad = ap₂ (λ (x y : Bool). not x || y) w o;
        size = λ _. sym (ap (λ (x : ℕ). x / unit) z ∙ mul-div-mul_right p 1048576 (lit< tt));
      })

  pub number-none : the_whole_bad r ≡ true → pos 0 ≡ whole_from r
  unfolding whole_from
  number-none t = rw t

  module _ (p : ℕ) (h : SaysWhole r p) where
    module _ (t : the_whole_bad r ≡ false) where
      pub size-most : p / 1048576 ≤ source_most
      size-most = bounded p (h.bad ∙ t)

      pub number-plus : r < 2147483648 → to_z w32 (p / 1048576) ≡ whole_from r
      unfolding whole_from whole_of
      number-plus l =
          let s : eqb (s_of r) 0 ≡ true = eq-eqb _ _ (div-eq_of_lt l) in
          rw (t, s) (to_z_pos w32 (omega (arith, size-most)) ∙ ap pos (h.size t))

      pub number-minus : 2147483648 ≤ r → to_z w32 (of_z w32 (pos 0 -ℤ to_z w32 (p / 1048576))) ≡ whole_from r
      unfolding whole_from whole_of
      number-minus l =
          let s : eqb (s_of r) 0 ≡ false = ne_eqb (s_of r) 0 (λ e. omega arith) in
          rw (t, s) (neg_back (p / 1048576) (omega (arith, size-most)) ∙ ap (λ (x : ℕ). neg_ℤ (pos x)) (h.size t))
