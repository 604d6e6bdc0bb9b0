-- The ones of octets that are joined to one number in either order, and of parts of a count that stand one after
-- another; by the laws of one octet more and of counts that join.
use mathlib.Core.Path.{◌≡◌, refl, sym, ap, ap₂, ◌∙◌}
use mathlib.Core.Bool.{Bool, true, false, cond}
use mathlib.Core.List.{List}
use Prim.Native.Nat.{ℕ, zero, suc, ◌<◌, ◌≤◌, ◌+◌, ◌-◌, ◌*◌, ◌/◌, ◌%◌, ◌^◌}
use native.Mathlib.Nat.{add-zero}
use native.Mathlib.Omega.{arith}
use lib.Dec.{ltb}
use lib.ListN.{get_or}
use lib.Count.{ones, ones_cat}
use Rattle.bits.specs.Bits.{bit_of, bits_in, run, count, Wide}
use Rattle.bits.proofs.Runs.{bits_in-bits}
use Rattle.bits.proofs.Ones.{count-le, count-octet, count-split, ones-run}

-- four octets, the last one first
pub four-ones : (s : List ℕ) (k : ℕ) → Wide 8 s
    → ones (((get_or s (k + 3) 0 * 256 + get_or s (k + 2) 0) * 256 + get_or s (k + 1) 0) * 256 + get_or s k 0)
    ≡ count (bits_in 8 s) (k * 8) 32
unfolding count
four-ones s k w =
    let a = get_or s k 0 in
    let b = get_or s (k + 1) 0 in
    let c = get_or s (k + 2) 0 in
    let d = get_or s (k + 3) 0 in
    let first : ones (get_or s (k + 0) 0) ≡ ones a = ap (λ (x : ℕ). ones (get_or s x 0)) (add-zero k) in
    omega (
      arith,
      ones_cat 8 ((d * 256 + c) * 256 + b) a (w k),
      ones_cat 8 (d * 256 + c) b (w (k + 1)),
      ones_cat 8 d c (w (k + 2)),
      first,
      count-octet s k 0 (w (k + 0)),
      count-octet s k 1 (w (k + 1)),
      count-octet s k 2 (w (k + 2)),
      count-octet s k 3 (w (k + 3)),
    )

-- j octets from octet k on, and the n bits after them
pub then : (s : List ℕ) (k j n x y : ℕ) → x ≡ count (bits_in 8 s) (k * 8) (j * 8)
    → y ≡ count (bits_in 8 s) ((k + j) * 8) n → x + y ≡ count (bits_in 8 s) (k * 8) (j * 8 + n)
then s k j n x y p q =
    let at : (k + j) * 8 ≡ k * 8 + j * 8 = omega arith in
    ap₂ (λ (a b : ℕ). a + b) p (q ∙ ap (λ (i : ℕ). count (bits_in 8 s) i n) at)
    ∙ sym (count-split (bits_in 8 s) (k * 8) (j * 8) n)

no_ones : (s : List ℕ) (k : ℕ) → 0 ≡ count (bits_in 8 s) k 0
unfolding count
no_ones s k = refl

-- the first w of three words, each counted where it is one of them
module _ (s : List ℕ) (p : ℕ) where
  abbrev word : ℕ → ℕ
  word k = count (bits_in 8 s) ((p + k) * 8) 64

  pub words_taken : (w x y z : ℕ) → w < 4 → x ≡ cond (ltb 0 w) (count (bits_in 8 s) (p * 8) 64) 0
      → y ≡ cond (ltb 1 w) (word 8) 0 → z ≡ cond (ltb 2 w) (word 16) 0
      → x + y + z ≡ count (bits_in 8 s) (p * 8) (w * 64)
  words_taken zero x y z l ex ey ez = omega (arith, no_ones s (p * 8), ex, ey, ez)
  words_taken (suc zero) x y z l ex ey ez = omega (arith, ex, ey, ez)
  words_taken (suc (suc zero)) x y z l ex ey ez = omega (arith, then s p 8 64 x y ex ey, ez)
  words_taken (suc (suc (suc zero))) x y z l ex ey ez =
      then s p 16 64 (x + y) z (then s p 8 64 x y ex ey) ez
  words_taken (suc (suc (suc (suc w)))) x y z l ex ey ez = absurd (not-four w l)
    where
      not-four : (v : ℕ) → suc (suc (suc (suc v))) < 4 → ⊥
      not-four v h = omega arith

-- and the bits left over, of the word after them
pub few-taken : (s : List ℕ) (p n w x v : ℕ) → w * 64 ≤ n → x ≡ count (bits_in 8 s) (p * 8) (w * 64)
    → v ≡ run (bits_in 8 s) ((p + w * 8) * 8) (n - w * 64) → x + ones v ≡ count (bits_in 8 s) (p * 8) n
few-taken s p n w x v h e q =
    let octets : w * 64 ≡ w * 8 * 8 = omega arith in
    let all : w * 8 * 8 + (n - w * 64) ≡ n = omega arith in
    then s p (w * 8) (n - w * 64) x (ones v) (e ∙ ap (count (bits_in 8 s) (p * 8)) octets)
    (ap ones q ∙ ones-run (bits_in-bits 8 s) ((p + w * 8) * 8) (n - w * 64))
    ∙ ap (count (bits_in 8 s) (p * 8)) all

-- a word counted or not has 64 ones at most
pub taken-few : (s : List ℕ) (k x : ℕ) (t : Bool) → x ≡ cond t (count (bits_in 8 s) k 64) 0 → x ≤ 64
taken-few s k x true q = omega (arith, q, count-le (bits_in-bits 8 s) k 64)
taken-few s k x false q = omega (arith, q)

-- a bit as code takes it out of its octet
pub bit_at : (s : List ℕ) (p i x : ℕ) → x ≡ get_or s (p + i / 8) 0 → x / 2 ^ (7 - i % 8) % 2 ≡ bits_in 8 s (p * 8 + i)
unfolding bits_in bit_of
bit_at s p i x e =
    let a : (p * 8 + i) / 8 ≡ p + i / 8 = omega arith in
    let b : (p * 8 + i) % 8 ≡ i % 8 = omega arith in
    ap (λ (y : ℕ). y / 2 ^ (7 - i % 8) % 2) e ∙ sym (ap₂ (λ (y z : ℕ). get_or s y 0 / 2 ^ (7 - z) % 2) a b)
