-- R's spelling stands for the number, in 32 bits, with a leading hex digit that is not zero: its hex digits are the
-- least that hold it, and powers of 16 carry them to B.
use Prim.Native.Nat.{ℕ, zero, suc, ◌+◌, ◌-◌, ◌*◌, ◌/◌, ◌^◌, ◌≤◌, ◌<◌}
use mathlib.Core.Bool.{Bool, true, false, cond}
use mathlib.Core.Path.{◌≡◌, refl, sym, subst, ◌∙◌, ap}
use native.Mathlib.Omega.{arith}
use native.Mathlib.Nat.{mul_assoc, mul-div_cancel, mul-le-mul_right, mul-lt-mul_of_pos_right, one-le-pow}
use native.Mathlib.Nat.{not-suc-le-zero}
use borrow.Author.Tests.{ltb-true, ltb-false, eq-eqb}
use lib.Dec.{ltb, eqb, lit<, eqb-suc-zero}
use lib.Pow.{pow-add}
use lib.IntN.{ℤ, pos, negsuc, neg_ℤ, nat_abs}
use Rattle.rules.specs.Bounds.{source_most}
use Rattle.rules.specs.Values.{s_of, a_of, b_of, size_of, unit, whole_of}
use Rattle.rules.specs.Packing.{negative, spelling_of}
use Rattle.theorems.specs.Checks.{SpelledExactly}
use Rattle.bits.proofs.Below.{Least, least}

-- the hex digits of m: m fills h of them and no fewer
record Digits (m h : ℕ) : Type 0 where
  some : 0 < h
  most : h ≤ 6
  over : m < 16 ^ h
  least : 16 ^ (h - 1) ≤ m

digits_cases : (m h : ℕ) → 0 < m → m < 16 ^ 6 → Least (λ k. ltb m (16 ^ k)) 6 h → (t : Bool) → ltb h 6 ≡ t → m < 16 ^ h
digits_cases m h p q l true e = ltb-true m (16 ^ h) (l.passes (ltb-true h 6 e))
digits_cases m h p q l false e =
    let same : 6 ≡ h = omega (arith, l.within, ltb-false h 6 e) in
    subst (λ (k : ℕ). m < 16 ^ k) same q

digits_of : (m h : ℕ) → 0 < m → m < 16 ^ 6 → Least (λ k. ltb m (16 ^ k)) 6 h → Digits m h
digits_of m zero p q l = absurd (omega (arith, digits_cases m zero p q l (ltb zero 6) refl))
digits_of m (suc h) p q l =
    let e : suc h - 1 ≡ h = omega arith in
    record { some = omega arith; most = l.within; over = digits_cases m (suc h) p q l (ltb (suc h) 6) refl; least = subst (λ (k : ℕ). 16 ^ k ≤ m) (sym e) (ltb-false m (16 ^ h) (l.before h (omega arith))) }

-- the fraction B of m
record Fraction (m h b : ℕ) : Type 0 where
  under : b < 2 ^ 24
  lead : 2 ^ 20 ≤ b
  size : b * 16 ^ (64 + h) ≡ m * unit

power : (i j k : ℕ) → i + j ≡ k → 16 ^ i * 16 ^ j ≡ 16 ^ k
power i j k e = sym (pow-add 16 i j) ∙ ap (λ (x : ℕ). 16 ^ x) e

fraction : (m h : ℕ) → Digits m h → Fraction m h (m * 16 ^ (6 - h))
fraction m h d =
    let p : 16 ^ h * 16 ^ (6 - h) ≡ 2 ^ 24 = power h (6 - h) 6 (omega (arith, d.most)) in
    let q : 16 ^ (h - 1) * 16 ^ (6 - h) ≡ 2 ^ 20 = power (h - 1) (6 - h) 5 (omega (arith, d.most, d.some)) in
    let r : 16 ^ (6 - h) * 16 ^ (64 + h) ≡ unit = power (6 - h) (64 + h) 70 (omega (arith, d.most)) in
    record {
      under = subst (λ (x : ℕ). m * 16 ^ (6 - h) < x) p
          (mul-lt-mul_of_pos_right d.over (one-le-pow (6 - h) 16 (lit< tt)));
      lead = subst (λ (x : ℕ). x ≤ m * 16 ^ (6 - h)) q (mul-le-mul_right (16 ^ (6 - h)) d.least);
      size = mul_assoc m (16 ^ (6 - h)) (16 ^ (64 + h)) ∙ ap (λ (x : ℕ). m * x) r;
    }

-- the three fields of s, A and B together
record Fields (s a b r : ℕ) : Type 0 where
  s-is : s_of r ≡ s
  a-is : a_of r ≡ a
  b-is : b_of r ≡ b
  fits : r < 2 ^ 32

fields : (s a b : ℕ) → s ≤ 1 → a < 2 ^ 7 → b < 2 ^ 24 → Fields s a b (s * 2 ^ 31 + a * 2 ^ 24 + b)
fields s a b p q r = record { s-is = omega arith; a-is = omega arith; b-is = omega arith; fits = omega arith }

-- what a spelling r says: its sign, its size, its width and its leading digit
record Spelling (s m r : ℕ) : Type 0 where
  s-is : s_of r ≡ s
  size_is : size_of r ≡ m * unit
  fits : r < 2 ^ 32
  lead : 0 < m → 2 ^ 20 ≤ b_of r

spelled : (s m h : ℕ) → s ≤ 1 → Digits m h → Spelling s m (s * 2 ^ 31 + (64 + h) * 2 ^ 24 + m * 16 ^ (6 - h))
unfolding size_of
spelled s m h p d =
    let f = fraction m h d in
    let g = fields s (64 + h) (m * 16 ^ (6 - h)) p (omega (arith, d.most)) f.under in
    record {
      s-is = g.s-is;
      size_is = ap (λ (x : ℕ). x * 16 ^ a_of (s * 2 ^ 31 + (64 + h) * 2 ^ 24 + m * 16 ^ (6 - h))) g.b-is
          ∙ ap (λ (x : ℕ). m * 16 ^ (6 - h) * 16 ^ x) g.a-is ∙ f.size;
      fits = g.fits;
      lead = λ _. subst (λ (x : ℕ). 2 ^ 20 ≤ x) (sym g.b-is) f.lead;
    }

zero-spelling : Spelling 0 0 0
unfolding size_of
zero-spelling = record { s-is = refl; size_is = refl; fits = lit< tt; lead = λ l. absurd (not-suc-le-zero l) }

spelling : (z : ℤ) → nat_abs z ≤ source_most → Spelling (negative z) (nat_abs z) (spelling_of z)
unfolding spelling_of
spelling (pos zero) l = zero-spelling
spelling (pos (suc n)) l =
    simp (eqb-suc-zero n)
    (spelled 0 (suc n) _ (omega arith)
    (digits_of (suc n) _ (omega arith) (omega arith) (least (λ k. ltb (suc n) (16 ^ k)) 6)))
spelling (negsuc n) l =
    simp (eqb-suc-zero n)
    (spelled 1 (suc n) _ (omega arith)
    (digits_of (suc n) _ (omega arith) (omega arith) (least (λ k. ltb (suc n) (16 ^ k)) 6)))

sized : (s m r : ℕ) → Spelling s m r → whole_of r ≡ cond (eqb s 0) (pos m) (neg_ℤ (pos m))
unfolding whole_of
sized s m r h =
    let e : size_of r / unit ≡ m = ap (λ (x : ℕ). x / unit) h.size_is ∙ mul-div_cancel m (lit< tt) in
    ap (λ (x : ℕ). cond (eqb x 0) (pos (size_of r / unit)) (neg_ℤ (pos (size_of r / unit)))) h.s-is
    ∙ ap (λ (x : ℕ). cond (eqb s 0) (pos x) (neg_ℤ (pos x))) e

signs : (z : ℤ) → cond (eqb (negative z) 0) (pos (nat_abs z)) (neg_ℤ (pos (nat_abs z))) ≡ z
signs (pos n) = refl
signs (negsuc n) = refl

zero_is : (z : ℤ) → nat_abs z ≡ 0 → spelling_of z ≡ 0
unfolding spelling_of
zero_is z e = simp (eq-eqb (nat_abs z) 0 e)

pub spelled_exactly : SpelledExactly
spelled_exactly z l =
    let h = spelling z l in
    record { whole = h.size_is; is = sized (negative z) (nat_abs z) (spelling_of z) h ∙ signs z; fits = h.fits; lead = h.lead; zero = zero_is z }
