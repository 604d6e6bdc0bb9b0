-- Refusal 17 in unsigned numbers: V, R and what the message says, lifted by one number, are as far apart as before; and
-- a distance is over a bound where one of two sums is below the other.
use mathlib.Core.Path.{◌≡◌, refl, sym, ap, ap₂, ◌∙◌}
use mathlib.Core.Bool.{◌||◌}
use mathlib.Core.Logic.{⊎_elim}
use Prim.Native.Nat.{ℕ, zero, suc, ◌+◌, ◌-◌, ◌*◌, ◌^◌, ◌%◌, ◌<◌, ◌≤◌}
use native.Mathlib.Nat.{mul-le-mul, pow-le-pow_right}
use native.Mathlib.Omega.{arith}
use lib.Dec.{T, ltb, lit<}
use lib.IntN.{ℤ, pos, negsuc, neg_ℤ, nat_abs, ◌+ℤ◌, ◌-ℤ◌, +ℤ_assoc, +ℤ_comm, +ℤ-neg_ℤ_cancel, neg_ℤ-+ℤ}
use lib.Signed.{mag, non_neg}
use borrow.Author.Tests.{lt-ltb, le-ltb}
use mir.Syntax.{w32, w64}
use mir.Val.{Fits, SFits, to_z, of_z}
use mir.Facts.{to_z-of_z, sfits_widen}
use Rattle.bits.proofs.Runs.{lt_or_ge, one_shl}
use Rattle.rules.specs.Bounds.{step_most}
use Rattle.rules.specs.Checking.{far_from}

-- lifted by 2^31
abbrev up : ℤ → ℕ
up (pos a) = a + 2147483648
up (negsuc a) = 2147483648 - suc a

up_is : (v : ℤ) → mag v < 2147483648 → v +ℤ pos 2147483648 ≡ pos (up v)
up_is (pos a) h = refl
up_is (negsuc a) h = rw (le-ltb 2147483648 (suc a) h)

up_lt : (v : ℤ) → mag v < 2147483648 → up v < 4294967296
up_lt (pos a) h = omega arith
up_lt (negsuc a) h = omega arith

-- the same as code has it
module _ (v : ℤ) (f : SFits w32 v) where
  abbrev wide : ℤ
  wide = to_z w64 (of_z w64 (to_z w32 (of_z w32 v)))

  pub wide_fits : SFits w64 (to_z w32 (of_z w32 v))
  wide_fits = rw (to_z-of_z f) (sfits_widen {w = w32} {w' = w64} tt f)

  lift_is : wide +ℤ pos 2147483648 ≡ pos (up v)
  lift_is = ap (λ (x : ℤ). x +ℤ pos 2147483648) (to_z-of_z wide_fits ∙ to_z-of_z f) ∙ up_is v f.sfits

  pub lift_fits : SFits w64 (wide +ℤ pos 2147483648)
  lift_fits = rw lift_is (record { sfits = omega (arith, up_lt v f.sfits) })

  word-is : to_z w64 (of_z w64 (wide +ℤ pos 2147483648)) ≡ pos (up v)
  word-is = to_z-of_z lift_fits ∙ lift_is

  pub word_fits : T (non_neg (to_z w64 (of_z w64 (wide +ℤ pos 2147483648))))
      × Fits w64 (nat_abs (to_z w64 (of_z w64 (wide +ℤ pos 2147483648))))
  word_fits = rw word-is (tt, record { fits = omega (arith, up_lt v f.sfits) })

  pub lifts : (pos (nat_abs (to_z w64 (of_z w64 (wide +ℤ pos 2147483648)))) ≡ v +ℤ pos 2147483648)
      × (nat_abs (to_z w64 (of_z w64 (wide +ℤ pos 2147483648))) < 4294967296)
  lifts = rw word-is (sym (up_is v f.sfits), up_lt v f.sfits)

  pub back : to_z w32 (of_z w32 v) +ℤ pos 2147483648 ≡ v +ℤ pos 2147483648
  back = ap (λ (x : ℤ). x +ℤ pos 2147483648) (to_z-of_z f)

-- 2^E
pub step_is : (e : ℕ) → e ≤ step_most → ((1 * 2 ^ e) % 2 ^ 64 ≡ 2 ^ e) × ((1 * 2 ^ e) % 2 ^ 64 ≤ 16777216)
step_is e h = let p = one_shl 64 e (omega arith) in rw p (refl, pow-le-pow_right (lit< tt) {i = e} {j = step_most} h)

-- X × 2^E
pub product : (x p : ℕ) → x < 4294967296 → p ≤ 16777216 → x * p ≤ 72057594037927936
product x p h l = mul-le-mul {n₂ = 4294967296} {m₂ = 16777216} (omega arith) l

-- the distance of two numbers
apart : (a c : ℕ) → nat_abs (pos a -ℤ pos c) ≡ a - c + (c - a)
apart a zero = omega arith
apart a (suc c) = ⊎_elim
    (λ (l : a < suc c). rw (lt-ltb a (suc c) l) (omega arith))
    (λ (l : suc c ≤ a). rw (le-ltb a (suc c) l) (omega arith))
    (lt_or_ge a (suc c))

over : (a c s : ℕ) → ltb (a * 2 + s) (c * 2) || ltb (c * 2 + s) (a * 2) ≡ ltb s (2 * (a - c + (c - a)))
over a c s = ⊎_elim
    (λ (l : a * 2 + s < c * 2). rw (lt-ltb _ _ l) (sym (lt-ltb s (2 * (a - c + (c - a))) (omega arith))))
    (λ (l : c * 2 ≤ a * 2 + s). rw (le-ltb (a * 2 + s) (c * 2) l) (⊎_elim
    (λ (m : c * 2 + s < a * 2). lt-ltb _ _ m ∙ sym (lt-ltb s (2 * (a - c + (c - a))) (omega arith)))
    (λ (m : a * 2 ≤ c * 2 + s). le-ltb (c * 2 + s) (a * 2) m ∙ sym (le-ltb s (2 * (a - c + (c - a))) (omega arith)))
    (lt_or_ge (c * 2 + s) (a * 2))))
    (lt_or_ge (a * 2 + s) (c * 2))

-- both lifted by k
shifted : (v r y k : ℤ) → v +ℤ k -ℤ (r +ℤ k +ℤ y) ≡ v -ℤ r -ℤ y
shifted v r y k =
    ap (λ (x : ℤ). v +ℤ k +ℤ x)
    (neg_ℤ-+ℤ (r +ℤ k) y ∙ ap (λ (x : ℤ). x +ℤ neg_ℤ y) (neg_ℤ-+ℤ r k ∙ +ℤ_comm (neg_ℤ r) (neg_ℤ k)))
    ∙ sym (+ℤ_assoc (v +ℤ k) (neg_ℤ k +ℤ neg_ℤ r) (neg_ℤ y))
    ∙ ap (λ (x : ℤ). x +ℤ neg_ℤ y)
    (sym (+ℤ_assoc (v +ℤ k) (neg_ℤ k) (neg_ℤ r)) ∙ ap (λ (x : ℤ). x +ℤ neg_ℤ r) (+ℤ-neg_ℤ_cancel v k))

pub out-by : (v r : ℤ) (x e a b p g s : ℕ) → pos a ≡ v +ℤ pos 2147483648 → pos b ≡ r +ℤ pos 2147483648 → p ≡ 2 ^ e
    → g ≡ a * 2 → s ≡ (b + x * p) * 2
    → ltb (g + p) s || ltb (s + p) g ≡ far_from v r x e
unfolding far_from
out-by v r x e a b p g s ea eb ep eg es =
    ap₂ (λ (m n : ℕ). ltb (m + p) n || ltb (n + p) m) eg es
    ∙ over a (b + x * p) p
    ∙ ap (λ (n : ℕ). ltb p (2 * n))
    (sym (apart a (b + x * p))
    ∙ ap nat_abs (ap₂ (λ (m n : ℤ). m -ℤ (n +ℤ pos (x * p))) ea eb ∙ shifted v r (pos (x * p)) (pos 2147483648)))
    ∙ ap (λ (q : ℕ). ltb q (2 * nat_abs (v -ℤ r -ℤ pos (x * q)))) ep
