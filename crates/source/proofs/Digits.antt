-- A whole number spelt as R: B is moved up a hex digit at a time until its first one is not 0, and what is left of A
-- counts the digits.
use mathlib.Core.Path.{◌≡◌, refl, sym, ap, ap₂, ◌∙◌, subst}
use mathlib.Core.Bool.{Bool, true, false}
use mathlib.Core.Logic.{⊎_elim}
use Prim.Native.Nat.{ℕ, suc, ◌+◌, ◌-◌, ◌*◌, ◌^◌, ◌<◌, ◌≤◌}
use native.Mathlib.Nat.{mul_assoc, mul-one, pow-suc, mul-lt-mul_of_pos_right, lt_of_mul-lt-mul_right, one-le-pow}
use native.Mathlib.Nat.{pow-le-pow_right, lt_of_lt_of_le}
use native.Mathlib.Omega.{arith}
use lib.Dec.{T, ltb, lit<, lit≤}
use lib.Pow.{pow-add}
use lib.IntN.{ℤ, pos, negsuc, nat_abs, ◌-ℤ◌, +ℤ_idl}
use lib.Signed.{lt_z}
use mir.Syntax.{w32}
use mir.Val.{SFits, to_z, of_z}
use mir.Facts.{to_z-of_z}
use borrow.Author.Tests.{lt-ltb, ltb-true, ltb-false, eq-eqb, ne_eqb}
use Rattle.bits.specs.Tables.{least_below}
use Rattle.bits.proofs.Below.{least}
use Rattle.bits.proofs.Runs.{lt_or_ge}
use Rattle.rules.specs.Bounds.{source_most}
use Rattle.rules.specs.Numbers.{beyond}
use Rattle.rules.specs.Packing.{spelling_of}
use Rattle.laws.proofs.Whole.{within}
use Rattle.source.specs.Whole.{spelt, spelling_from}

-- the loop: A is a, and B is b
pub record Spells (size a b : ℕ) : Type 0 where
  pub low : 65 ≤ a
  pub high : a ≤ 70
  pub is : b ≡ size * 16 ^ (70 - a)
  pub under : size < 16 ^ (a - 64)

pub begins : (size : ℕ) → size < 16 ^ 6 → Spells size 70 size
begins size h = record { low = lit≤ tt; high = lit≤ tt; is = sym (mul-one size); under = h }

-- a first hex digit that is 0
room : (size k j : ℕ) → size * 16 ^ k < 16 ^ (j + k) → size < 16 ^ j
room size k j h = lt_of_mul-lt-mul_right (16 ^ k) (subst (λ (x : ℕ). size * 16 ^ k < x) (pow-add 16 j k) h)

pub goes_on : (size a b : ℕ) → 1 ≤ size → Spells size a b → b < 1048576 → Spells size (a - 1) (b * 16)
goes_on size a b n h l =
    let e : 5 ≡ a - 65 + (70 - a) = omega (arith, h.low, h.high) in
    let u : size < 16 ^ (a - 65) = room size (70 - a) (a - 65) (subst (λ (x : ℕ). size * 16 ^ (70 - a) < 16 ^ x) e (subst (λ (x : ℕ). x < 1048576) h.is l)) in
    let m : 66 ≤ a = ⊎_elim (λ (z : a < 66). absurd (let q : a - 65 ≡ 0 = omega (arith, h.low) in let v : size < 1 = subst (λ (x : ℕ). size < 16 ^ x) q u in omega arith)) (λ g. g) (lt_or_ge a 66) in
    let d : 70 - (a - 1) ≡ suc (70 - a) = omega (arith, h.high) in
    let f : a - 1 - 64 ≡ a - 65 = omega arith in
    record {
      low = omega arith;
      high = omega (arith, h.high);
      is = ap (λ (x : ℕ). x * 16) h.is ∙ mul_assoc size (16 ^ (70 - a)) 16
          ∙ ap (λ (x : ℕ). size * x) (sym (ap (λ (x : ℕ). 16 ^ x) d ∙ pow-suc 16 (70 - a)));
      under = subst (λ (x : ℕ). size < 16 ^ x) (sym f) u;
    }

module _ (size a b : ℕ) (h : Spells size a b) where
  pub b-less : b < 16777216
  b-less =
      let e : a - 64 + (70 - a) ≡ 6 = omega (arith, h.low, h.high) in
      subst (λ (x : ℕ). x < 16777216) (sym h.is)
      (subst (λ (x : ℕ). size * 16 ^ (70 - a) < x) (sym (pow-add 16 (a - 64) (70 - a)) ∙ ap (λ (x : ℕ). 16 ^ x) e)
      (mul-lt-mul_of_pos_right h.under (one-le-pow (70 - a) 16 (lit< tt))))

  -- the hex digits of the size are a - 64
  digits : 1048576 ≤ b → least_below (λ k. ltb size (16 ^ k)) 6 ≡ a - 64
  digits g =
      let f : ℕ → Bool = λ k. ltb size (16 ^ k) in
      let o = least f 6 in
      let q = least_below f 6 in
      let t : f (a - 64) ≡ true = lt-ltb size (16 ^ (a - 64)) h.under in
      ⊎_elim
      (λ (l : q < a - 64). absurd
      (fewer q (omega (arith, h.high)) l (ltb-true _ _ (o.passes (omega (arith, h.high))))))
      (λ l. ⊎_elim (λ (m : a - 64 < q). absurd (subst T (sym t ∙ o.before (a - 64) m) tt)) (λ m. omega arith)
      (lt_or_ge (a - 64) q))
      (lt_or_ge q (a - 64))
    where
      -- no fewer digits hold it
      fewer : (k : ℕ) → k ≤ 6 → k < a - 64 → size < 16 ^ k → ⊥
      fewer k m l u =
          let e : 70 - a + k ≤ 5 = omega (arith, h.low, h.high) in
          let p : size * 16 ^ (70 - a) < 1048576 =
          lt_of_lt_of_le (mul-lt-mul_of_pos_right u (one-le-pow (70 - a) 16 (lit< tt)))
          (subst (λ (x : ℕ). x ≤ 1048576) (pow-add 16 k (70 - a))
          (pow-le-pow_right (lit< tt) {i = k + (70 - a)} {j = 5} (omega arith))) in
          omega (arith, p, h.is, g)

  pub ends : 1048576 ≤ b → a * 16777216 + b ≡ spelt size
  unfolding spelt
  ends g =
      let e : a ≡ 64 + (a - 64) = omega (arith, h.low) in
      let f : 70 - a ≡ 6 - (a - 64) = omega (arith, h.low) in
      rw (digits g) (ap₂ (λ (x y : ℕ). x * 16777216 + y) e (h.is ∙ ap (λ (x : ℕ). size * 16 ^ x) f))

-- a number by its sign
turned : (z : ℤ) → lt_z z (pos 0) ≡ true → (pos 0 -ℤ z ≡ pos (nat_abs z)) × (1 ≤ nat_abs z)
turned (pos n) l = absurd (omega (arith, ltb-true n 0 l))
turned (negsuc n) l = (+ℤ_idl (pos (suc n)), omega arith)

kept : (z : ℤ) → lt_z (pos 0) z ≡ true → (z ≡ pos (nat_abs z)) × (1 ≤ nat_abs z)
kept (pos n) l = (refl, ltb-true 0 n l)
kept (negsuc n) l = absurd (subst T (sym l) tt)

minus : (z : ℤ) → beyond source_most z ≡ false → lt_z z (pos 0) ≡ true → 2147483648 + spelt (nat_abs z) ≡ spelling_from z
unfolding spelt spelling_from spelling_of
minus (pos n) h l = absurd (omega (arith, ltb-true n 0 l))
minus (negsuc n) h l = rw (h, ne_eqb (suc n) 0 (λ e. omega arith)) (omega arith)

plus : (z : ℤ) → beyond source_most z ≡ false → lt_z (pos 0) z ≡ true → spelt (nat_abs z) ≡ spelling_from z
unfolding spelt spelling_from spelling_of
plus (pos n) h l = rw (h, ne_eqb n 0 (λ e. omega (arith, ltb-true 0 n l))) (omega arith)
plus (negsuc n) h l = absurd (subst T (sym l) tt)

neither : (z : ℤ) → beyond source_most z ≡ false → lt_z z (pos 0) ≡ false → lt_z (pos 0) z ≡ false → 0 ≡ spelling_from z
unfolding spelling_from spelling_of
neither (pos n) h l m = rw (h, eq-eqb n 0 (omega (arith, ltb-false 0 n m)))
neither (negsuc n) h l m = absurd (subst T l tt)

-- the same of a number as code reads it back
module _ (z : ℤ) (f : SFits w32 z) where
  abbrev v : ℤ
  v = to_z w32 (of_z w32 z)

  plain : (P : ℤ → Bool) (t : Bool) → P v ≡ t → P z ≡ t
  plain P t h = sym (ap P (to_z-of_z f)) ∙ h

  pub out : beyond source_most v ≡ true → 0 ≡ spelling_from z
  unfolding spelling_from
  out h = rw (plain (beyond source_most) true h)

  module _ (h : beyond source_most v ≡ false) where
    most : nat_abs z ≤ source_most
    most = within source_most z (plain (beyond source_most) false h)

    module _ (l : lt_z v (pos 0) ≡ true) where
      turned-is : pos 0 -ℤ v ≡ pos (nat_abs z)
      turned-is = ap (λ (x : ℤ). pos 0 -ℤ x) (to_z-of_z f) ∙ (turned z (plain (λ (x : ℤ). lt_z x (pos 0)) true l)).0

      pub turned-fits : SFits w32 (pos 0 -ℤ v)
      turned-fits = rw turned-is (record { sfits = omega (arith, most) })

      pub turned-size : (to_z w32 (of_z w32 (pos 0 -ℤ v)) ≡ pos (nat_abs z)) × ((1 ≤ nat_abs z) × (nat_abs z ≤ source_most))
      turned-size = (to_z-of_z turned-fits ∙ turned-is, ((turned z (plain (λ (x : ℤ). lt_z x (pos 0)) true l)).1, most))

      pub minus_is : (r : ℕ) → r ≡ spelt (nat_abs (to_z w32 (of_z w32 (pos 0 -ℤ v)))) → 2147483648 + r ≡ spelling_from z
      minus_is r e = ap (λ (x : ℕ). 2147483648 + x) (e ∙ ap (λ (x : ℤ). spelt (nat_abs x)) turned-size.0)
          ∙ minus z (plain (beyond source_most) false h) (plain (λ (x : ℤ). lt_z x (pos 0)) true l)

    module _ (l : lt_z (pos 0) v ≡ true) where
      pub plus-is : (r : ℕ) → r ≡ spelt (nat_abs v) → r ≡ spelling_from z
      plus-is r e = e ∙ ap (λ (x : ℤ). spelt (nat_abs x)) (to_z-of_z f)
          ∙ plus z (plain (beyond source_most) false h) (plain (lt_z (pos 0)) true l)

    pub neither-is : lt_z v (pos 0) ≡ false → lt_z (pos 0) v ≡ false → 0 ≡ spelling_from z
    neither-is l m =
        neither z (plain (beyond source_most) false h) (plain (λ (x : ℤ). lt_z x (pos 0)) false l)
        (plain (lt_z (pos 0)) false m)
