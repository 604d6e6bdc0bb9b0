-- The bits of an octet as the comparisons that code makes: by arithmetic, and of the four flags by trying each half of
-- an octet.
use Prim.Native.Nat.{ℕ, ◌*◌, ◌/◌, ◌%◌, ◌≤◌, ◌<◌}
use mathlib.Core.Bool.{Bool, true, false, not, ◌||◌}
use mathlib.Core.Path.{◌≡◌, refl, sym, ◌∙◌, ap, ap₂}
use native.Mathlib.Omega.{arith}
use borrow.Author.Tests.{leb-true, leb-false, eq-eqb, ne_eqb}
use lib.Dec.{ltb, leb, eqb}
use Rattle.bits.specs.Tables.{any_below}
use Rattle.bits.proofs.Below.{none_below}
use Rattle.rules.specs.declared.{Packing.Packing}
use Rattle.rules.specs.Bounds.{the_bits_most}
use Rattle.rules.specs.Numbers.{bit}
use Rattle.rules.specs.Table.{or_all, any_of}
use Rattle.rules.specs.Values.{flags_bad, packing_faults}
use Rattle.rules.specs.Writing.{differ}

-- two tests that say the same
tests : (a b u v : ℕ) → (a ≤ b → u ≡ v) → (b < a → u ≡ v → ⊥) → leb a b ≡ eqb u v
tests a b u v above below = go (leb a b) refl
  where
    go : (t : Bool) → leb a b ≡ t → leb a b ≡ eqb u v
    go true e = e ∙ sym (eq-eqb u v (above (leb-true a b e)))
    go false e = e ∙ sym (ne_eqb u v (below (leb-false a b e)))

-- bit 1 is worth 128, bit 2 64 and bit 3 32
pub bit_1 : (x : ℕ) → x < 256 → leb 128 x ≡ bit 1 x
unfolding bit
bit_1 x l = tests 128 x (x / 128 % 2) 1 (λ h. omega (arith, l, h)) (λ h e. omega (arith, l, h, e))

pub bit_2 : (x : ℕ) → leb 64 (x % 128) ≡ bit 2 x
unfolding bit
bit_2 x = tests 64 (x % 128) (x / 64 % 2) 1 (λ h. omega (arith, h)) (λ h e. omega (arith, h, e))

pub bit_3 : (x : ℕ) → leb 32 (x % 64) ≡ bit 3 x
unfolding bit
bit_3 x = tests 32 (x % 64) (x / 32 % 2) 1 (λ h. omega (arith, h)) (λ h e. omega (arith, h, e))

-- of an octet that was read
pub read_1 : (x y : ℕ) → x ≡ y → x < 256 → leb 128 x ≡ bit 1 y
read_1 x y e l = bit_1 x l ∙ ap (bit 1) e

pub read_2 : (x y : ℕ) → x ≡ y → leb 64 (x % 128) ≡ bit 2 y
read_2 x y e = bit_2 x ∙ ap (bit 2) e

-- tests that do not differ are the same
pub alike : (a b : Bool) → differ a b ≡ false → a ≡ b
alike true true e = refl
alike true false e = e
alike false true e = sym e
alike false false e = refl

-- of the four flags bit 3 is worth 2
pub flags-bad : (flags : ℕ) → not (eqb flags 0 || eqb flags 2) ≡ flags_bad flags
unfolding any_below flags_bad bit
flags-bad flags = go (leb 16 flags) refl
  where
    go : (t : Bool) → leb 16 flags ≡ t → not (eqb flags 0 || eqb flags 2) ≡ flags_bad flags
    go true e =
        let l = leb-true 16 flags e in
        ap₂ (λ (a b : Bool). not (a || b)) (ne_eqb flags 0 (λ z. omega (arith, l, z)))
        (ne_eqb flags 2 (λ z. omega (arith, l, z)))
        ∙ sym (ap (λ (t : Bool). t || bit 1 (flags * 16) || bit 2 (flags * 16) || bit 4 (flags * 16)) e)
    go false e =
        alike _ _
        (none_below (λ f. differ (not (eqb f 0 || eqb f 2)) (flags_bad f)) 16 refl flags (leb-false 16 flags e))

-- and so row 11
pub packing-read : (p : Packing)
    → not (eqb p.flags 0 || eqb p.flags 2) || ltb the_bits_most p.bits ≡ any_of (packing_faults p)
unfolding any_of or_all packing_faults
packing-read p = ap (λ (t : Bool). t || ltb the_bits_most p.bits) (flags-bad p.flags)
