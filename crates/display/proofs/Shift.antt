-- E + 1023 for an exponent E from -1022 to 1023: a number from 1 to 2046, as the machine computes it at 32 bits.
use mathlib.Core.Path.{◌≡◌, refl, ap}
use Prim.Native.Nat.{ℕ, suc, ◌+◌, ◌-◌, ◌*◌, ◌^◌, ◌≤◌}
use native.Mathlib.Omega.{arith}
use borrow.Author.Tests.{le-ltb}
use lib.Dec.{leb→le}
use lib.IntN.{ℤ, pos, negsuc, ◌+ℤ◌}
use lib.Signed.{◌≤ℤ◌}
use mir.Syntax.{w32}
use mir.Val.{SFits, of_z, to_z}
use mir.Facts.{to_z-of_z, to_z_pos}
use Rattle.rules.specs.Display.{the_step_bits}

pub record Shifted (e : ℤ) : Type 0 where
  pub k : ℕ
  pub is : e +ℤ pos 1023 ≡ pos k
  pub least : 1 ≤ k
  pub most : k ≤ 2046
  pub bits : the_step_bits e ≡ k * 2 ^ 52

pub shifted : (e : ℤ) → negsuc 1021 ≤ℤ e → e ≤ℤ pos 1023 → Shifted e
unfolding the_step_bits
shifted (pos n) lo hi =
    let h : n ≤ 1023 = leb→le n 1023 hi.le in
    record { k = n + 1023; is = refl; least = omega arith; most = omega arith; bits = omega arith }
shifted (negsuc n) lo hi =
    let h : n ≤ 1021 = leb→le n 1021 lo.le in
    record {
      k = 1022 - n;
      is = simp (le-ltb 1023 (suc n) (omega arith)) (ap pos (omega arith));
      least = omega arith;
      most = omega arith;
      bits = refl;
    }

-- the machine's word for it
pub word : (e : ℤ) (s : Shifted e) → SFits w32 e → to_z w32 (of_z w32 (to_z w32 (of_z w32 e) +ℤ pos 1023)) ≡ pos s.k
word e s f = simp (to_z-of_z f, s.is) (to_z_pos w32 (omega arith))
