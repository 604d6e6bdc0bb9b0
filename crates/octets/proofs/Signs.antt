-- Signs at 32 bits: a magnitude negated fits, and is what the machine reads back.
use Prim.Native.Nat.{ℕ, zero, suc, ◌+◌, ◌-◌, ◌*◌, ◌<◌, ◌^◌}
use mathlib.Core.Bool.{cond}
use lib.Dec.{ltb}
use mathlib.Core.Path.{◌≡◌, sym, ap, ◌∙◌, subst}
use native.Mathlib.Omega.{arith}
use native.Mathlib.Nat.{pow-suc}
use lib.IntN.{ℤ, pos, negsuc, neg_ℤ, nat_abs, ◌-ℤ◌, +ℤ_idl}
use lib.Signed.{mag}
use Rattle.rules.specs.declared.{Signed.Signed}
use Rattle.rules.specs.Numbers.{sign, plain, spelled_value}
use mir.Syntax.{w32}
use mir.Val.{SFits, to_z, of_z}
use mir.Facts.{to_z-of_z, to_z_pos}

pub neg_fits : (m : ℕ) → m < 2147483648 → SFits w32 (neg_ℤ (pos m))
neg_fits zero h = record { sfits = omega arith }
neg_fits (suc m) h = record { sfits = omega arith }

pub neg_of : (m : ℕ) → m < 2147483648 → pos 0 -ℤ to_z w32 m ≡ neg_ℤ (pos m)
neg_of m h = ap (λ (z : ℤ). pos 0 -ℤ z) (to_z_pos w32 h) ∙ +ℤ_idl (neg_ℤ (pos m))

pub neg_sub-fits : (m : ℕ) → m < 2147483648 → SFits w32 (pos 0 -ℤ to_z w32 m)
neg_sub-fits m h = rw (neg_of m h) (neg_fits m h)

pub neg_back : (m : ℕ) → m < 2147483648 → to_z w32 (of_z w32 (pos 0 -ℤ to_z w32 m)) ≡ neg_ℤ (pos m)
neg_back m h = rw (neg_of m h) (to_z-of_z (neg_fits m h))

-- a field that was read and made a signed number, as the machine hands it on
pub back : (half v b : ℕ) (r : ℤ) → v ≡ b → r ≡ cond (ltb v half) (pos v) (neg_ℤ (pos (v - half))) → mag r < 2147483648
    → to_z w32 (of_z w32 r) ≡ cond (ltb b half) (pos b) (neg_ℤ (pos (b - half)))
back half v b r e f h =
    to_z-of_z {w = w32} (record { sfits = h }) ∙ f ∙ ap (λ (x : ℕ). cond (ltb x half) (pos x) (neg_ℤ (pos (x - half)))) e

-- a signed field of a number handed on in 32 bits
pub kept : (z : ℤ) (r : Signed) → r ≡ plain (to_z w32 (of_z w32 z)) → SFits w32 z → r ≡ plain z
kept z r e h = e ∙ ap plain (to_z-of_z h)

-- the spelling of a number whose magnitude leaves the sign bit free has c octets
pub spelled-lt : (c : ℕ) (z : ℤ) → 0 < c → nat_abs z < sign c → spelled_value c z < 2 ^ (c * 8)
spelled-lt c z l h = subst (λ (y : ℕ). spelled_value c z < y) (twice c l) (by z h)
  where
    twice : (c : ℕ) → 0 < c → sign c + sign c ≡ 2 ^ (c * 8)
    twice c l =
        let f : c * 8 ≡ suc (8 * c - 1) = omega arith in
        let g : 2 ^ (8 * c - 1) * 2 ≡ sign c + sign c = omega arith in
        sym g ∙ sym (pow-suc 2 (8 * c - 1)) ∙ ap (λ (x : ℕ). 2 ^ x) (sym f)

    by : (y : ℤ) → nat_abs y < sign c → spelled_value c y < sign c + sign c
    by (pos n) b = omega arith
    by (negsuc n) b = omega arith
