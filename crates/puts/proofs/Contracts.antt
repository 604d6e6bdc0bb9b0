-- The contracts together: what was put is read back.
use mathlib.Core.Path.{◌≡◌, refl, sym, ap, ◌∙◌}
use mathlib.Core.Bool.{Bool, true, cond}
use mathlib.Core.List.{List, ◌++◌}
use mathlib.Core.Logic.{⊎_elim}
use Prim.Native.Nat.{ℕ, suc, ◌+◌, ◌-◌, ◌*◌, ◌^◌, ◌≤◌, ◌<◌}
use native.Mathlib.Omega.{arith}
use borrow.Author.Tests.{lt-ltb, le-ltb, le-leb, leb-true, ltb-true}
use lib.Dec.{ltb}
use lib.IntN.{ℤ, pos, negsuc, nat_abs}
use lib.ListN.{length, drop, length-append, length-drop}
use Rattle.bits.specs.Bits.{bits_in, run, number_at}
use Rattle.bits.proofs.Runs.{lt_or_ge}
use Rattle.bits.proofs.Placed.{number-back}
use Rattle.bits.proofs.Kept.{lay}
use Rattle.rules.specs.declared.{Signed.Signed}
use Rattle.rules.specs.Numbers.{sign, plain, magnitude_fits, spelled_value, spelled, signed, octets}
use Rattle.puts.specs.Put.{room_at, put_fits, the_put_number, signed_fits, the_put_signed}
use Rattle.bits.proofs.Tests.{and_left, and_right}
use Rattle.octets.proofs.Signs.{spelled-lt}

-- `put_octet` to `put_four`, then `octet` to `four`
pub put-read : (out : List ℕ) (p k c x : ℕ) → put_fits out p k c x ≡ true
    → run (bits_in 8 (the_put_number out p k c x)) ((p + (k - 1)) * 8) (c * 8) ≡ x
unfolding the_put_number put_fits
put-read out p k c x h =
    let r = leb-true (p + (k - 1 + c)) (length out) (and_left (room_at out p k c) (ltb x (2 ^ (c * 8))) h) in
    let b = ltb-true x (2 ^ (c * 8)) (and_right (room_at out p k c) (ltb x (2 ^ (c * 8))) h) in
    ap (λ (y : Bool). run (bits_in 8 (cond y (number_at out (p + (k - 1)) c x) out)) ((p + (k - 1)) * 8) (c * 8)) h
    ∙ number-back out (p + (k - 1)) c x (omega arith) b

-- a put of the field that follows what is written
module _ (done s : List ℕ) (p k c x : ℕ) (e : length done ≡ p + (k - 1)) (r : p + (k - 1 + c) ≤ length s)
    (b : x < 2 ^ (c * 8)) where
  pub lay-fits : put_fits (done ++ drop (length done) s) p k c x ≡ true
  unfolding put_fits
  lay-fits =
      let l : length (done ++ drop (length done) s) ≡ length s = length-append done (drop (length done) s) ∙ ap (λ (y : ℕ). length done + y) (length-drop (length done) s) ∙ omega arith in
      rw (l, le-leb (p + (k - 1 + c)) (length s) r, lt-ltb x (2 ^ (c * 8)) b) refl

  pub lay-put : the_put_number (done ++ drop (length done) s) p k c x ≡ (done ++ octets c x) ++ drop (length done + c) s
  unfolding the_put_number
  lay-put =
      ap (λ (y : Bool). cond y (number_at (done ++ drop (length done) s) (p + (k - 1)) c x)
      (done ++ drop (length done) s)) lay-fits
      ∙ ap (λ (y : ℕ). number_at (done ++ drop (length done) s) y c x) (sym e) ∙ lay done s (length done) c x refl

-- a sign and a magnitude, spelled and read; and read and spelled, but for minus zero
pub signed-spelled : (c : ℕ) (z : ℤ) → nat_abs z < sign c → signed c (spelled_value c z) ≡ plain z
unfolding signed
signed-spelled c (pos n) h = rw (lt-ltb n (sign c) h) refl
signed-spelled c (negsuc n) h =
    let e : sign c + suc n - sign c ≡ suc n = omega arith in
    rw (le-ltb (sign c + suc n) (sign c) (omega arith), e) refl

pub spelled-signed : (c v : ℕ) → (v ≡ sign c → ⊥) → spelled c (signed c v) ≡ v
unfolding signed
spelled-signed c v h = ⊎_elim
    (λ l. rw (lt-ltb v (sign c) l) refl)
    (λ g. rw (le-ltb v (sign c) g, more v g h) (omega arith))
    (lt_or_ge v (sign c))
  where
    more : (v : ℕ) → sign c ≤ v → (v ≡ sign c → ⊥) → v - sign c ≡ suc (v - sign c - 1)
    more v g h = omega arith

-- `put_signed_two` and `put_signed_three`, then `signed_two` and `signed_three`
pub signed-read : (out : List ℕ) (p k c : ℕ) (z : Signed) → 0 < c → signed_fits out p k c z ≡ true
    → signed c (run (bits_in 8 (the_put_signed out p k c z)) ((p + (k - 1)) * 8) (c * 8)) ≡ z
unfolding the_put_signed signed_fits
signed-read out p k c z l h =
    let r = leb-true (p + (k - 1 + c)) (length out) (and_left (room_at out p k c) (magnitude_fits c z) h) in
    let b = ltb-true (nat_abs z.value) (sign c) (and_right (room_at out p k c) (magnitude_fits c z) h) in
    ap (signed c)
    (ap (λ (y : Bool). run (bits_in 8 (cond y (number_at out (p + (k - 1)) c (spelled c z)) out)) ((p + (k - 1)) * 8)
    (c * 8)) h
    ∙ number-back out (p + (k - 1)) c (spelled c z) (omega arith) (spelled-lt c z.value l b))
    ∙ signed-spelled c z.value b
