-- 13 at every point, as code judges it: by the marks, by the values beside absent marks, and by the values.
use mathlib.Core.Path.{◌≡◌, refl, sym, ap, ap₂, ◌∙◌}
use mathlib.Core.Bool.{Bool, true, false, not, ◌&&◌, ◌||◌}
use mathlib.Core.List.{List}
use Prim.Native.Nat.{ℕ, zero, suc, ◌^◌}
use lib.Dec.{ltb, leb, eqb}
use lib.ListN.{length}
use Rattle.bits.specs.Tables.{any_below}
use Rattle.bits.proofs.Below.{any_ext, no-below}
use Rattle.rules.specs.Bitmap.{mark_of, value_of}
use Rattle.rules.specs.Writing.{point_bad}
use Rattle.widths.specs.Below.{all_below}
use Rattle.marks.specs.Marks.{strays}
use Rattle.writable.specs.Rows.{the_marks_off, the_points_bad}

-- one test or another at some point is one at some point or the other at some
pub any_or : (f g : ℕ → Bool) (n : ℕ) → any_below (λ i. f i || g i) n ≡ any_below f n || any_below g n
unfolding any_below
any_or f g zero = refl
any_or f g (suc n) =
    ap (λ (x : Bool). x || (f n || g n)) (any_or f g n) ∙ apart (any_below f n) (any_below g n) (f n) (g n)
  where
    apart : (a b c d : Bool) → ((a || b) || (c || d)) ≡ ((a || c) || (b || d))
    apart true b c d = refl
    apart false true true d = refl
    apart false true false d = refl
    apart false false c d = refl

any_and : (b : Bool) (f : ℕ → Bool) (n : ℕ) → any_below (λ i. b && f i) n ≡ b && any_below f n
any_and true f n = refl
any_and false f n = no-below (λ i. false && f i) n (λ i h. refl)

-- at one point
point-split : (b a z v l : Bool) → (a || ((z && (not b || v)) || l)) ≡ (((a || (z && not b)) || (b && (z && v))) || l)
point-split b true z v l = refl
point-split true false true v l = refl
point-split false false true v l = refl
point-split true false false v l = refl
point-split false false false v l = refl

pub points-split : (b : Bool) (bits : ℕ) (values marks : List ℕ) (n : ℕ) → length values ≡ n → (o s t : Bool)
    → o ≡ the_marks_off b marks n
    → s ≡ b && strays values marks n → t ≡ all_below bits values → (o || s) || not t ≡ the_points_bad b bits values marks n
unfolding the_points_bad point_bad the_marks_off strays all_below
points-split b bits values marks n e o s t eo es et =
    let odd : ℕ → Bool = λ i. ltb 1 (mark_of marks i) in
    let bad : ℕ → Bool = λ i. point_bad b bits (mark_of marks i) (value_of values i) in
    let off : ℕ → Bool = λ i. odd i || (eqb (mark_of marks i) 0 && not b) in
    let lost : ℕ → Bool = λ i. eqb (mark_of marks i) 0 && not (eqb (value_of values i) 0) in
    let wide : ℕ → Bool = λ i. leb (2 ^ bits) (value_of values i) in
    let u : not t ≡ any_below wide n = ap not et ∙ twice (any_below wide (length values)) ∙ ap (any_below wide) e in
    ap₂ (λ (x y : Bool). x || y) (ap₂ (λ (x y : Bool). x || y) eo (es ∙ sym (any_and b lost n))) u
    ∙ sym
    (sym (any_or odd bad n)
    ∙ any_ext (λ i. odd i || bad i) (λ i. (off i || (b && lost i)) || wide i) n
    (λ i h. point-split b (odd i) (eqb (mark_of marks i) 0) (not (eqb (value_of values i) 0)) (wide i))
    ∙ any_or (λ i. off i || (b && lost i)) wide n
    ∙ ap (λ (x : Bool). x || any_below wide n) (any_or off (λ i. b && lost i) n))
  where
    twice : (x : Bool) → not (not x) ≡ x
    twice true = refl
    twice false = refl
