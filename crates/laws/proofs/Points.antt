-- What the writer's rows leave of the flags, and of a point.
use Prim.Native.Nat.{ℕ, ◌^◌, ◌≤◌, ◌<◌}
use mathlib.Core.Bool.{Bool, true, false, not, ◌||◌, ◌&&◌}
use mathlib.Core.Path.{◌≡◌, refl, ◌∙◌}
use native.Mathlib.Omega.{arith}
use borrow.Author.Tests.{ltb-false, leb-false, eqb-true, eq-eqb, not-false}
use lib.Dec.{ltb, leb, eqb}
use mathlib.Core.List.{List}
use Rattle.bits.proofs.Tests.{or_false}
use Rattle.bits.proofs.Below.{none_below}
use Rattle.rules.specs.Bitmap.{mark_of, mark_odd}
use Rattle.rules.specs.Values.{flags_bad}
use Rattle.rules.specs.Writing.{point_bad}
use Rattle.laws.proofs.Rows.{and_false, clash, is_eq}
use Rattle.laws.proofs.Flags.{flags-bad}

two : (f : ℕ) (a b : Bool) → eqb f 0 ≡ a → eqb f 2 ≡ b → not (a || b) ≡ false → f ≤ 2
two f true b p q e = omega (arith, eqb-true f 0 p)
two f false true p q e = omega (arith, eqb-true f 2 q)
two f false false p q e = clash true refl e

pub flags-two : (f : ℕ) → flags_bad f ≡ false → f ≤ 2
flags-two f e = two f _ _ refl refl (flags-bad f ∙ e)

-- what row 13 leaves of a point
pub record PointOk (bitmap : Bool) (bits m v : ℕ) : Type 0 where
  pub absent : m ≡ 0 → (bitmap ≡ true) × (v ≡ 0)
  pub value : v < 2 ^ bits

absent_ok : (bitmap : Bool) (mark value : ℕ) → (eqb mark 0 && (not bitmap || not (eqb value 0))) ≡ false → mark ≡ 0
    → (bitmap ≡ true) × (value ≡ 0)
absent_ok bitmap mark value e z =
    let h = or_false (not bitmap) (not (eqb value 0)) (and_false (eqb mark 0) _ (eq-eqb mark 0 z) e) in
    (not-false bitmap h.0, is_eq value 0 h.1)

pub point_ok : (bitmap : Bool) (bits mark value : ℕ) → point_bad bitmap bits mark value ≡ false
    → PointOk bitmap bits mark value
unfolding point_bad
point_ok bitmap bits mark value e =
    let h = or_false (eqb mark 0 && (not bitmap || not (eqb value 0))) (leb (2 ^ bits) value) e in
    record { absent = absent_ok bitmap mark value h.0; value = leb-false (2 ^ bits) value h.1 }

-- what it leaves of the marks
pub even-marks : (marks : List ℕ) (n : ℕ) → mark_odd marks n ≡ false → (i : ℕ) → i < n → mark_of marks i < 2
even-marks marks n e i l =
    omega (arith, ltb-false 1 (mark_of marks i) (none_below (λ i. ltb 1 (mark_of marks i)) n e i l))
