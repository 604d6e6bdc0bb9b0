-- What the checker's rows 15 and 16 leave: message and source agree, and R and E lie in their ranges.
use Prim.Native.Nat.{ℕ, ◌+◌, ◌*◌, ◌/◌, ◌%◌, ◌≤◌, ◌<◌}
use mathlib.Core.Bool.{false, not}
use mathlib.Core.Path.{◌≡◌, sym, subst, ◌∙◌, ap}
use mathlib.Core.List.{List}
use native.Mathlib.Nat.{add-zero, div-add-mod', le_of_mul-le-mul_right}
use borrow.Author.Tests.{ltb-false}
use lib.Dec.{eqb, lit<}
use lib.IntN.{nat_abs}
use lib.Signed.{lt_z}
use Rattle.bits.proofs.Tests.{or_false}
use Rattle.bits.proofs.Below.{none_below}
use Rattle.rules.specs.declared.{Scale.Scale}
use Rattle.rules.specs.Bounds.{source_most, step_most}
use Rattle.rules.specs.Table.{any_of}
use Rattle.rules.specs.Bitmap.{Lent}
use Rattle.rules.specs.Values.{unit, size_of, whole}
use Rattle.rules.specs.Reading.{points_in, present_in, decimal_in}
use Rattle.rules.specs.Checking.{Source, present_of, source_differs, scale_faults}
use Rattle.laws.specs.Sources.{Agrees, InRange}
use Rattle.laws.proofs.Rows.{none_of, is_eq}
use Rattle.laws.proofs.Whole.{lt_z_antisym, natural}

-- 15
pub agrees : (s : List ℕ) (lent : Lent) (f : Source) → any_of (source_differs s lent f) ≡ false → Agrees s lent f
unfolding source_differs
agrees s lent f e =
    let h = none_of (source_differs s lent f) e in
    let d = or_false (lt_z (decimal_in s).value f.d) (lt_z f.d (decimal_in s).value) h.1.1.0 in
    record {
      points = is_eq _ _ h.0;
      marks = λ i l. is_eq _ _
          (none_below (λ i. not (eqb (present_in s lent i) (present_of f i))) (points_in s) h.1.0 i l);
      d = lt_z_antisym (decimal_in s).value f.d d.0 d.1;
    }

-- 16: a size that is whole, and its bound
in_parts : (u x most : ℕ) → 0 < u → x % u ≡ 0 → x ≤ most * u → (x ≡ x / u * u) × (x / u ≤ most)
in_parts u x most p e l =
    let q : x ≡ x / u * u = sym (sym (add-zero (x / u * u)) ∙ ap (λ (k : ℕ). x / u * u + k) (sym e) ∙ div-add-mod' x u) in
    (q, le_of_mul-le-mul_right {m = x / u} {n = most} {k = u} (subst (λ (k : ℕ). k ≤ most * u) q l) p)

pub in_range : (c : Scale) → any_of (scale_faults c) ≡ false → InRange c
unfolding scale_faults whole
in_range c e =
    let h = none_of (scale_faults c) e in
    let n = natural step_most c.e.value h.0 h.1.0 in
    let p = in_parts unit (size_of c.r) source_most (lit< tt) (is_eq _ _ h.1.1.0) (ltb-false (source_most * unit) (size_of c.r) h.1.1.1.0) in
    record { e = nat_abs c.e.value; is = n.0; small = n.1; m = size_of c.r / unit; whole = p.0; bound = p.1 }
