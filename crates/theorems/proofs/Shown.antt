-- The two doubles of a display are exactly R and 2^E: each pattern's sign, exponent's field and digits are read off it,
-- and the fraction they make is the one asked for.
use mathlib.Core.Path.{◌≡◌, refl, sym, ap, ◌∙◌}
use mathlib.Core.Bool.{Bool, false}
use Prim.Native.Nat.{ℕ, zero, suc, ◌+◌, ◌-◌, ◌*◌, ◌/◌, ◌%◌, ◌^◌, ◌≤◌, ◌<◌}
use native.Mathlib.Nat.{mul_assoc, mul-one, one-mul, mul_right_comm, eq_of_mul-eq-mul_right, pow-suc}
use native.Mathlib.Omega.{arith}
use lib.Dec.{leb, eqb}
use lib.IntN.{pos, negsuc}
use lib.Pow.{pow-add, pow_pos}
use lib.Count.{count_leading_zeros}
use borrow.Author.Tests.{le-leb, lt-leb, ne_eqb}
use lib.Ieee.{Float, nan, inf, fin, binary64, up, down, of_fields, of_bits}
use lib.Ieee.Exact.{HasValue, odd_sign}
use Rattle.rules.specs.Values.{s_of, a_of, b_of, size_of, unit}
use Rattle.rules.specs.Display.{the_ref_bits, the_step_bits, shown_reference, shown_step}
use Rattle.theorems.specs.Reads.{ShownExactly}
use Rattle.laws.proofs.Lead.{lead, some}

-- a sign, a field from 1 to 2046 and 52 digits are read as those
fields : (s : Bool) (x t n : ℕ) → x < 2046 → leb (2 ^ 63) n ≡ s → n % 2 ^ 63 / 2 ^ 52 ≡ suc x → n % 2 ^ 52 ≡ t
    → HasValue (of_bits binary64 n) s ((2 ^ 52 + t) * 2 ^ x) (2 ^ 1074)
unfolding of_bits of_fields
fields s x t n hx e₁ e₂ e₃ =
    simp (e₁, e₂, e₃, ne_eqb (suc x) 2047 (λ e. omega arith)) (odd_sign 53 s (2 ^ 52 + t) x 1074)

-- the same fraction, written otherwise
rescale : (v : Float) (s : Bool) (a c b d : ℕ) → 0 < c → a * d ≡ b * c → HasValue v s a c → HasValue v s b d
rescale nan s a c b d p e h = absurd h
rescale (inf t) s a c b d p e h = absurd h
rescale (fin t m x) s a c b d p e (q, r) = (
  q,
  eq_of_mul-eq-mul_right c p (m * up x * d) (b * down x)
      (mul_right_comm (m * up x) d c ∙ ap (λ (k : ℕ). k * d) r ∙ mul_right_comm a (down x) d
      ∙ ap (λ (k : ℕ). k * down x) e ∙ mul_right_comm b c (down x)),
)

sixteen : (a : ℕ) → 16 ^ a ≡ 2 ^ (4 * a)
sixteen zero = refl
sixteen (suc a) =
    pow-suc 16 a ∙ ap (λ (k : ℕ). k * 16) (sixteen a) ∙ sym (pow-add 2 (4 * a) 4) ∙ ap (λ (k : ℕ). 2 ^ k) (omega arith)

sign : (s r k : ℕ) → s < 2 → r ≡ s * 2 ^ 63 + k → k < 2 ^ 63 → leb (2 ^ 63) r ≡ eqb s 1
sign zero r k hs e h = lt-leb (2 ^ 63) r (omega arith)
sign (suc zero) r k hs e h = le-leb (2 ^ 63) r (omega arith)
sign (suc (suc s)) r k hs e h = absurd (omega arith)

-- R, for a B that is not 0: (−1)^s × B × 16^A / 2^280
ref_exact : (s a b : ℕ) → s < 2 → a < 128 → 0 < b → b < 2 ^ 24
    → HasValue (of_bits binary64 (the_ref_bits s a b)) (eqb s 1) (b * 16 ^ a) (2 ^ 280)
ref_exact s a b hs ha nz hb =
    let z = count_leading_zeros 32 b in
    let l = lead b (λ e. omega arith) hb in
    let m = b * 2 ^ (21 + z) in
    let lo : 2 ^ 52 ≤ m = l.low in
    let hi : m < 2 ^ 53 = l.high in
    let least : 8 ≤ z = l.least in
    let most : z ≤ 31 = l.most in
    let x = 4 * a + 773 - z in
    let is : the_ref_bits s a b ≡ s * 2 ^ 63 + (x * 2 ^ 52 + m) = some s a b (λ e. omega arith) in
    let back : 2 ^ 52 + (m - 2 ^ 52) ≡ m = omega arith in
    let all : 21 + z + x ≡ 4 * a + 794 = omega arith in
    let even : (2 ^ 52 + (m - 2 ^ 52)) * 2 ^ x * 2 ^ 280 ≡ b * 16 ^ a * 2 ^ 1074 =
    ap (λ (k : ℕ). k * 2 ^ x * 2 ^ 280) back
    ∙ ap (λ (k : ℕ). k * 2 ^ 280)
    (mul_assoc b (2 ^ (21 + z)) (2 ^ x)
    ∙ ap (λ (k : ℕ). b * k)
    (sym (pow-add 2 (21 + z) x) ∙ ap (λ (k : ℕ). 2 ^ k) all ∙ pow-add 2 (4 * a) 794
    ∙ ap (λ (k : ℕ). k * 2 ^ 794) (sym (sixteen a))))
    ∙ ap (λ (k : ℕ). k * 2 ^ 280) (sym (mul_assoc b (16 ^ a) (2 ^ 794)))
    ∙ mul_assoc (b * 16 ^ a) (2 ^ 794) (2 ^ 280) in
    rescale (of_bits binary64 (the_ref_bits s a b)) (eqb s 1) ((2 ^ 52 + (m - 2 ^ 52)) * 2 ^ x) (2 ^ 1074) (b * 16 ^ a)
    (2 ^ 280) (pow_pos 1074) even
    (fields (eqb s 1) x (m - 2 ^ 52) (the_ref_bits s a b) (omega arith)
    (sign s (the_ref_bits s a b) (x * 2 ^ 52 + m) hs is (omega arith)) (omega arith) (omega arith))

reference-exact : (r : ℕ) → r < 2 ^ 32 → 0 < b_of r → HasValue (shown_reference r) (eqb (s_of r) 1) (size_of r) unit
unfolding shown_reference size_of
reference-exact r h n = ref_exact (s_of r) (a_of r) (b_of r) (omega arith) (omega arith) n (omega arith)

reference-zero : (r : ℕ) → b_of r ≡ 0 → shown_reference r ≡ of_bits binary64 0
unfolding shown_reference the_ref_bits
reference-zero r e = ap (λ (b : ℕ). of_bits binary64 (the_ref_bits (s_of r) (a_of r) b)) e

-- an exponent's field alone, k from 1 to 2046, is 2^(k − 1,023): here as the fraction n / d
power-exact : (k n d : ℕ) → 1 ≤ k → k ≤ 2046 → 2 ^ (51 + k) * d ≡ n * 2 ^ 1074
    → HasValue (of_bits binary64 (k * 2 ^ 52)) false n d
power-exact k n d least most e =
    let all : 52 + (k - 1) ≡ 51 + k = omega arith in
    let p : (2 ^ 52 + 0) * 2 ^ (k - 1) ≡ 2 ^ (51 + k) = sym (pow-add 2 52 (k - 1)) ∙ ap (λ (x : ℕ). 2 ^ x) all in
    rescale (of_bits binary64 (k * 2 ^ 52)) false ((2 ^ 52 + 0) * 2 ^ (k - 1)) (2 ^ 1074) n d (pow_pos 1074)
    (ap (λ (x : ℕ). x * d) p ∙ e)
    (fields false (k - 1) 0 (k * 2 ^ 52) (omega arith) (lt-leb (2 ^ 63) (k * 2 ^ 52) (omega arith)) (omega arith)
    (omega arith))

step-up : (e : ℕ) → e ≤ 1023 → HasValue (shown_step (pos e)) false (2 ^ e) 1
unfolding shown_step the_step_bits
step-up e h =
    let all : 51 + (1023 + e) ≡ e + 1074 = omega arith in
    power-exact (1023 + e) (2 ^ e) 1 (omega arith) (omega arith)
    (mul-one (2 ^ (51 + (1023 + e))) ∙ ap (λ (x : ℕ). 2 ^ x) all ∙ pow-add 2 e 1074)

step_down : (e : ℕ) → e < 1022 → HasValue (shown_step (negsuc e)) false 1 (2 ^ (e + 1))
unfolding shown_step the_step_bits
step_down e h =
    let all : 51 + (1022 - e) + (e + 1) ≡ 1074 = omega arith in
    power-exact (1022 - e) 1 (2 ^ (e + 1)) (omega arith) (omega arith)
    (sym (pow-add 2 (51 + (1022 - e)) (e + 1)) ∙ ap (λ (x : ℕ). 2 ^ x) all ∙ sym (one-mul (2 ^ 1074)))

pub shown_exactly : ShownExactly
shown_exactly = (reference-exact, reference-zero, step-up, step_down)
