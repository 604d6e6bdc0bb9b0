-- What a put answers and leaves: a number of a few octets, and a signed one by its spelling.
use mathlib.Core.Path.{◌≡◌, refl, sym, ap, ap₂, ◌∙◌, subst}
use mathlib.Core.Bool.{Bool, true, false, cond, ◌&&◌}
use mathlib.Core.List.{List}
use Prim.Native.Nat.{ℕ, suc, ◌+◌, ◌-◌, ◌*◌, ◌^◌, ◌≤◌, ◌<◌}
use native.Mathlib.Omega.{arith}
use borrow.Author.Tests.{lt-ltb, le-ltb, le-leb}
use lib.IntN.{ℤ, pos, negsuc, nat_abs}
use lib.Signed.{lt_z}
use Rattle.bits.specs.Bits.{number_at}
use Rattle.rules.specs.Numbers.{sign, plain, spelled_value}
use Rattle.octets.proofs.Signs.{spelled-lt}
use Rattle.packs.specs.Place.{number_fits, number_put}
use Rattle.puts.specs.Put.{room_at, put_fits, the_put_number, signed_fits, the_put_signed}

-- what `put_number` answers and leaves of a few octets
module _ (out : List ℕ) (p k c x : ℕ) (l : c ≤ 4) where
  pub few-answer : number_fits out p k c x ≡ put_fits out p k c x
  unfolding number_fits put_fits
  few-answer = rw (le-leb c 4 l) refl

  pub few-left : number_put out p k c x ≡ the_put_number out p k c x
  unfolding number_put the_put_number
  few-left = ap (λ (y : Bool). cond y (number_at out (p + (k - 1)) c x) out) few-answer

-- a signed number that is put: its spelling fits where its magnitude does
module _ (out : List ℕ) (p k c half : ℕ) (z : ℤ) (e : half ≡ sign c) where
  spelling : cond (lt_z z (pos 0)) (half + nat_abs z) (nat_abs z) ≡ spelled_value c z
  spelling = by z
    where
      by : (y : ℤ) → cond (lt_z y (pos 0)) (half + nat_abs y) (nat_abs y) ≡ spelled_value c y
      by (pos n) = rw (le-ltb n 0 (omega arith))
      by (negsuc n) = ap (λ (h : ℕ). h + suc n) e

  module _ (l : 0 < c) (m : nat_abs z < half) (x : ℕ) (h : x ≡ cond (lt_z z (pos 0)) (half + nat_abs z) (nat_abs z)) where
    small : nat_abs z < sign c
    small = subst (λ (y : ℕ). nat_abs z < y) e m

    fits : x < 2 ^ (c * 8)
    fits = subst (λ (y : ℕ). y < 2 ^ (c * 8)) (sym (h ∙ spelling)) (spelled-lt c z l small)

    pub signed-answer : put_fits out p k c x ≡ signed_fits out p k c (plain z)
    unfolding put_fits signed_fits
    signed-answer =
        ap (λ (y : Bool). room_at out p k c && y) (lt-ltb x (2 ^ (c * 8)) fits ∙ sym (lt-ltb (nat_abs z) (sign c) small))

    pub signed-left : the_put_number out p k c x ≡ the_put_signed out p k c (plain z)
    unfolding the_put_number the_put_signed
    signed-left = ap₂ (λ (y : Bool) (w : ℕ). cond y (number_at out (p + (k - 1)) c w) out) signed-answer (h ∙ spelling)

  module _ (m : half ≤ nat_abs z) where
    pub unsigned_answer : false ≡ signed_fits out p k c (plain z)
    unfolding signed_fits
    unsigned_answer =
        sym (ap (λ (y : Bool). room_at out p k c && y) (le-ltb (nat_abs z) (sign c) (subst (λ (y : ℕ). y ≤ nat_abs z) e m))
        ∙ and_false (room_at out p k c))
      where
        and_false : (b : Bool) → b && false ≡ false
        and_false true = refl
        and_false false = refl

    pub unsigned_left : out ≡ the_put_signed out p k c (plain z)
    unfolding the_put_signed
    unsigned_left = ap (λ (y : Bool). cond y (number_at out (p + (k - 1)) c (spelled_value c z)) out) unsigned_answer
