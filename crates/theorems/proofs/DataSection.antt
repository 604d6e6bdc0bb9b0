-- The data section: laid it reads back without a stain, and laid from what was read without a stain it is the section
-- read; by its list of fields, and bit by bit.
use Prim.Native.Nat.{ℕ, ◌+◌, ◌-◌, ◌*◌, ◌/◌, ◌%◌, ◌^◌, ◌≤◌, ◌<◌}
use mathlib.Core.Bool.{true, false}
use mathlib.Core.Path.{◌≡◌, refl, sym, ap, ap₂, ◌∙◌}
use mathlib.Core.List.{List, [], ◌++◌, append-nil}
use mathlib.Core.Logic.{⊎_elim}
use native.Mathlib.Omega.{arith}
use native.Mathlib.Nat.{zero-add, le_refl}
use borrow.Author.Tests.{ne_eqb, eqb-false}
use lib.ListN.{length, take, drop}
use lib.Seq.{take-length}
use Rattle.bits.specs.Bits.{bits_in, runs, Wide}
use Rattle.bits.proofs.Runs.{bits_in-bits, lt_or_ge}
use Rattle.bits.proofs.Trip.{length_runs, runs_ext, bits-runs, bits-past, runs_own, wide_runs}
use Rattle.bits.proofs.Cut.{cut, bits-drop, octets-here}
use Rattle.bits.proofs.Marks.{zeros_of}
use Rattle.bits.proofs.Ones.{count-zero}
use Rattle.rules.specs.declared.{Packing.Packing, Scale.Scale}
use Rattle.rules.specs.Bounds.{bds_least, points_most, the_bits_most}
use Rattle.rules.specs.Numbers.{laid, octet, number, sign}
use Rattle.rules.specs.Values.{the_packing_at, scale_at, the_length_bad, values_at, bds_of}
use Rattle.rules.specs.RoundTrip.{minus_zero, data_padding_set}
use Rattle.laws.proofs.Rows.{not_eq, is_eq}
use Rattle.laws.proofs.Fields.{Fit, Back, all_back, after-fields, laid-append, stands, here, one}
use Rattle.laws.proofs.Lengths.{data_len, unused, data_fields, data_bits, bds-laid, bds-length}
use Rattle.laws.specs.Signs.{SignFree}
use Rattle.laws.proofs.Signs.{signed-read, spelled-lt, plus, signed-here}
use Rattle.theorems.proofs.Laid.{Sec, whole_sec, part_is}

-- what the writer's rows 11 and 13 and the fields' types leave
pub record DataOk (p : Packing) (c : Scale) (xs : List ℕ) : Type 0 where
  pub flags : p.flags < 16
  pub bits : p.bits < 256
  pub e : SignFree 2 c.e
  pub r : c.r < 2 ^ 32
  pub few : length xs * p.bits ≤ points_most * the_bits_most
  pub wide : Wide p.bits xs

data_fit : (p : Packing) (c : Scale) (xs : List ℕ) → DataOk p c xs → Fit (data_fields p c (length xs * p.bits))
data_fit p c xs o = (
  omega (arith, o.few),
  (omega (arith, o.flags), (spelled-lt 2 (sign 2 + sign 2) c.e refl o.e, (o.r, (o.bits, tt)))),
)

pub bds_sec : (p : Packing) (c : Scale) (xs : List ℕ) → DataOk p c xs → Sec true bds_least (bds_of p c xs)
bds_sec p c xs o =
    let b = all_back (bds_of p c xs) 0 0 (data_fields p c (length xs * p.bits)) (data_bits p xs) (bds-laid p c xs) (data_fit p c xs o) in
    let l = bds-length p c xs in
    whole_sec bds_least (bds_of p c xs) (b.0 ∙ sym l) (omega (arith, l))
    (ne_eqb (length (bds_of p c xs) % 2) 1 (λ q. omega (arith, l)))

-- the halves of octet 4
high_half : (f u x : ℕ) → u < 16 → x ≡ f * 16 + u → x / 16 ≡ f
high_half f u x h e = omega arith

low_half : (f u x : ℕ) → u < 16 → x ≡ f * 16 + u → x % 16 ≡ u
low_half f u x h e = omega arith

module _ (s : List ℕ) (k : ℕ) (p : Packing) (c : Scale) (xs rest : List ℕ) (h : drop k s ≡ bds_of p c xs ++ rest)
    (o : DataOk p c xs) where
  abbrev t : ℕ
  t = length xs * p.bits

  standing : drop (k + 0) s ≡ laid (data_fields p c t) (data_bits p xs ++ rest)
  standing = stands s k (data_fields p c t) (data_bits p xs) rest (h ∙ ap (λ (x : List ℕ). x ++ rest) (bds-laid p c xs))

  fields : Back s k 0 (data_fields p c t)
  fields = all_back s k 0 (data_fields p c t) (data_bits p xs ++ rest) standing (data_fit p c xs o)

  bit-back : (i : ℕ) → i < (data_len t - 11) * 8 → bits_in 8 s ((k + 11) * 8 + i) ≡ bits_in p.bits xs i
  bit-back i l =
      bits-drop (k + 11) s i
      ∙ ap (λ (x : List ℕ). bits_in 8 x i) (after-fields s k 0 (data_fields p c t) (data_bits p xs ++ rest) standing)
      ∙ bits-runs (bits_in-bits p.bits xs) 0 8 (data_len t - 11) rest i l ∙ ap (bits_in p.bits xs) (zero-add i)

  pub packing-back : the_packing_at s k ≡ p
  unfolding the_packing_at
  packing-back = λ i. record {
    flags = high_half p.flags (unused t) _ (omega arith) (fields.2.1 refl) i;
    bits = fields.2.2.2.2.1 refl i;
  }

  pub scale_back : scale_at s k ≡ c
  unfolding scale_at
  scale_back = λ i. record { e = signed-read 2 _ c.e fields.2.2.0 o.e i; r = fields.2.2.2.0 i }

  pub length_none : the_length_bad s (part_is k (bds_of p c xs)) (length xs) p ≡ false
  unfolding the_length_bad
  length_none =
      let u = low_half p.flags (unused t) (octet s k 4) (omega arith) (fields.2.1 refl) in
      not_eq (8 * (length (bds_of p c xs) - 11)) (t + octet s k 4 % 16) (omega (arith, bds-length p c xs, u))

  pub values-back : values_at s k p.bits (length xs) ≡ xs
  unfolding values_at
  values-back =
      runs_ext (bits_in 8 s) (bits_in p.bits xs) ((k + 11) * 8) 0 p.bits (length xs)
      (λ i l. bit-back i (omega arith) ∙ ap (bits_in p.bits xs) (sym (zero-add i)))
      ∙ runs_own p.bits xs (length xs) o.wide (le_refl (length xs)) ∙ take-length xs

  pub scale-clean : minus_zero s k 5 6 ≡ false
  scale-clean = plus 2 (number s k 5 6) c.e fields.2.2.0 o.e

  pub data_clean : data_padding_set s k (length (bds_of p c xs)) t ≡ false
  data_clean =
      let l = bds-length p c xs in
      not_eq _ _ (count-zero (bits_in 8 s) ((k + 11) * 8 + t) (8 * (length (bds_of p c xs) - 11) - t) (λ i q.
      let e : (k + 11) * 8 + t + i ≡ (k + 11) * 8 + (t + i) = omega arith in
      ap (bits_in 8 s) e ∙ bit-back (t + i) (omega arith) ∙ bits-past p.bits xs (t + i) o.wide (omega arith)))

-- a section's length is forced: even, with 0 to 15 bits left over
data-len : (len t u : ℕ) → bds_least ≤ len → (len % 2 ≡ 1 → ⊥) → 8 * (len - 11) ≡ t + u → u < 16 → data_len t ≡ len
data-len len t u a b c d = omega arith

halves : (x len t q : ℕ) → q ≡ len → 8 * (len - 11) ≡ t + x % 16 → x ≡ x / 16 * 16 + (8 * (q - 11) - t)
halves x len t q e h = omega arith

-- and laid again from what was read
pub data_here : (s : List ℕ) (k len m : ℕ) → Wide 8 s → k + len ≤ length s → bds_least ≤ len → (len % 2 ≡ 1 → ⊥)
    → number s k 1 3 ≡ len
    → 8 * (len - 11) ≡ m * octet s k 11 + octet s k 4 % 16 → minus_zero s k 5 6 ≡ false
    → data_padding_set s k len (m * octet s k 11) ≡ false
    → bds_of (the_packing_at s k) (scale_at s k) (values_at s k (octet s k 11) m) ++ drop (k + len) s ≡ drop k s
unfolding the_packing_at scale_at values_at
data_here s k len m w l least even e1 rule nz pad =
    let n = octet s k 11 in
    let p = the_packing_at s k in
    let c = scale_at s k in
    let at = (k + 11) * 8 in
    let b = bits_in-bits 8 s in
    let xs = runs (bits_in 8 s) at n m in
    let t = length xs * n in
    let te : t ≡ m * n = ap (λ (x : ℕ). x * n) (length_runs (bits_in 8 s) at n m) in
    let rule' : 8 * (len - 11) ≡ t + octet s k 4 % 16 = omega (arith, rule, te) in
    let le : data_len t ≡ len = data-len len t (octet s k 4 % 16) least even rule' (omega arith) in
    let bits : (i : ℕ) → i < (len - 11) * 8 → bits_in n xs i ≡ bits_in 8 s (at + i) = λ i h. ⊎_elim
    (λ q. ap (λ (x : List ℕ). bits_in n x i) (sym (append-nil xs)) ∙ bits-runs b at n m [] i q)
    (λ q.
    let f : at + m * n + (i - m * n) ≡ at + i = omega arith in
    bits-past n xs i (wide_runs b at n m) (omega (arith, te))
    ∙ sym (zeros_of (bits_in 8 s) _ _ (is_eq _ _ pad) (i - m * n) (omega arith)) ∙ ap (bits_in 8 s) f)
    (lt_or_ge i (m * n)) in
    let tail : data_bits p xs ≡ take (len - 11) (drop (k + 11) s) =
    ap (λ (x : ℕ). runs (bits_in n xs) 0 8 (x - 11)) le
    ∙ octets-here s (k + 11) (len - 11) (bits_in n xs) w (omega arith) bits in
    let f : k + len ≡ k + 11 + (len - 11) = omega arith in
    ap (λ (x : List ℕ). x ++ drop (k + len) s) (bds-laid p c xs)
    ∙ laid-append (data_fields p c t) (data_bits p xs) (drop (k + len) s)
    ∙ here s k (data_fields p c t) (data_bits p xs ++ drop (k + len) s) w (omega arith) (
      e1 ∙ sym le,
      (
        one s w (k + 3)
            ∙ halves (octet s k 4) len t (data_len t) le rule',
        (signed-here 2 _ (eqb-false _ _ nz), (refl, (one s w (k + 10), tt))),
      ),
    )
    (ap₂ (λ (x : List ℕ) (y : ℕ). x ++ drop y s) tail f ∙ cut s (k + 11) (len - 11))
