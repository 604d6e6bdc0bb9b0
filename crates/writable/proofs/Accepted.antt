-- What the rows leave of the parts once none of them but 14 can apply: each field's bound, and each point's.
use Rattle.std.specs.Prelude.{Option, Ok}
use mathlib.Core.Path.{◌≡◌, sym, ◌∙◌, subst}
use mathlib.Core.Bool.{Bool, false, ◌&&◌}
use mathlib.Core.List.{List}
use mathlib.Core.Logic.{⊎_elim}
use Prim.Native.Nat.{ℕ, ◌^◌, ◌≤◌, ◌<◌}
use native.Mathlib.Omega.{arith}
use borrow.Author.Tests.{ltb-false, eqb-true, not-false}
use lib.Dec.{ltb, eqb}
use lib.Pow.{pow_pos}
use lib.ListN.{length, get_or, get_or-eq_default}
use Rattle.bits.proofs.Runs.{lt_or_ge}
use Rattle.bits.proofs.Below.{none_below}
use Rattle.rules.specs.declared.{Form.Form, Scale.Scale, Packing.Packing, Grid.Grid}
use Rattle.rules.specs.Bounds.{pds_least, pds_most, points_most, the_bits_most, exponent_most}
use Rattle.rules.specs.Table.{any_of}
use Rattle.rules.specs.Answers.{judged}
use Rattle.rules.specs.Grid.{grid_or_zeros, grid_faults, points_of}
use Rattle.rules.specs.Bitmap.{Lent, the_bitmap_given, mark_of, value_of}
use Rattle.rules.specs.Values.{packing_faults}
use Rattle.rules.specs.Writing.{pds_faults, lists_fit, point_bad}
use Rattle.bits.proofs.Tests.{both, or_right}
use Rattle.laws.proofs.Whole.{within}
use Rattle.laws.specs.Signs.{SignFree}
use Rattle.reply.proofs.Judged.{passed}
use Rattle.laws.proofs.Grids.{grid-points}
use Rattle.laws.proofs.Rows.{none_of}
use Rattle.laws.proofs.Points.{flags-two, point_ok as point_kept, even-marks}
use Rattle.writable.specs.Rows.{front_rows, exponent_faults, middle_rows, early_rows, the_points_bad, list_faults, own_rows}
use Rattle.writable.specs.Listed.{Listed}

-- 13 at one point
pub record PointOk (bits m v : ℕ) : Type 0 where
  pub mark : m < 2
  pub away : m ≡ 0 → v ≡ 0
  pub value : v < 2 ^ bits

point_ok : (bitmap : Bool) (bits mark value : ℕ) → mark < 2 → point_bad bitmap bits mark value ≡ false
    → PointOk bits mark value
point_ok bitmap bits mark value m e =
    let p = point_kept bitmap bits mark value e in
    record { mark = m; away = λ z. (p.absent z).1; value = p.value }

-- what 11 leaves
pub record ScaleOk (scale : Scale) (packing : Packing) : Type 0 where
  pub e : SignFree 2 scale.e
  pub flags : packing.flags ≤ 2
  pub bits : packing.bits ≤ the_bits_most

pub scale_ok : (scale : Scale) (packing : Packing) → any_of (exponent_faults scale packing) ≡ false
    → ScaleOk scale packing
unfolding exponent_faults packing_faults
scale_ok scale packing h =
    let d = none_of (exponent_faults scale packing) h in
    record {
      e = omega (arith, within exponent_most scale.e.value d.0);
      flags = flags-two packing.flags d.1.0;
      bits = ltb-false the_bits_most packing.bits d.1.1.0;
    }

pub record Accepted (pds : List ℕ) (form : Form) (scale : Scale) (values marks : List ℕ) (found : Option Grid) (n : ℕ) : Type 0 where
  pub pds-most : length pds ≤ pds_most
  pub points-most : points_of (grid_or_zeros found) ≤ points_most
  pub grid : any_of (grid_faults (grid_or_zeros found)) ≡ false
  pub scaled : any_of (exponent_faults scale form.packing) ≡ false
  pub values-long : length values ≡ n
  pub marks-long : length marks ≡ n
  pub point : (i : ℕ) → i < n → PointOk form.packing.bits (mark_of marks i) (value_of values i)

pub accepted-of : (pds : List ℕ) (form : Form) (scale : Scale) (lent : Lent) (values marks : List ℕ) (found : Option Grid) (n : ℕ) (u : Unit {0})
    → Ok u ≡ judged (own_rows pds form scale lent values marks found n)
    → Accepted pds form scale values marks found n
unfolding own_rows early_rows front_rows middle_rows list_faults pds_faults lists_fit the_points_bad
accepted-of pds form scale lent values marks found n u e =
    let p = passed (own_rows pds form scale lent values marks found n) u e in
    let g = p.1.1.1 in
    let a = none_of (pds_faults pds) p.0 in
    let q = none_of (list_faults pds form values marks n) g.1.1.1.0 in
    let fit = not-false (eqb (length values) n && eqb (length marks) n) q.0 in
    record {
      pds-most = ltb-false pds_most (length pds)
          (or_right (ltb (length pds) pds_least) (ltb pds_most (length pds)) a.1.0);
      points-most = grid-points (grid_or_zeros found) g.0;
      grid = g.0;
      scaled = g.1.1.0;
      values-long = eqb-true (length values) n (both (eqb (length values) n) (eqb (length marks) n) fit).0;
      marks-long = eqb-true (length marks) n (both (eqb (length values) n) (eqb (length marks) n) fit).1;
      point = λ i l. point_ok (the_bitmap_given form.bitmap) form.packing.bits (mark_of marks i) (value_of values i)
          (even-marks marks n q.1.0 i l)
          (none_below
          (λ i. point_bad (the_bitmap_given form.bitmap) form.packing.bits (mark_of marks i) (value_of values i)) n
          q.1.1.0 i l);
    }

-- the lists past their end hold zeros
pub listed_of : (values marks : List ℕ) (bits n : ℕ) → length values ≡ n → length marks ≡ n → n ≤ points_most
    → ((i : ℕ) → i < n → PointOk bits (mark_of marks i) (value_of values i)) → Listed values marks bits
listed_of values marks bits n ev em h p = record {
  same = em ∙ sym ev;
  few = subst (λ (x : ℕ). x ≤ points_most) (sym ev) h;
  mark = λ i. ⊎_elim (λ (l : i < n). (p i l).mark)
      (λ (g : n ≤ i). subst (λ (x : ℕ). x < 2) (sym (past marks em i g)) (omega arith)) (lt_or_ge i n);
  away = λ i. ⊎_elim (λ (l : i < n) z. (p i l).away z) (λ (g : n ≤ i) z. past values ev i g) (lt_or_ge i n);
  value = λ i. ⊎_elim (λ (l : i < n). (p i l).value)
      (λ (g : n ≤ i). subst (λ (x : ℕ). x < 2 ^ bits) (sym (past values ev i g)) (pow_pos bits)) (lt_or_ge i n);
}
  where
    past : (xs : List ℕ) → length xs ≡ n → (i : ℕ) → n ≤ i → get_or xs i 0 ≡ 0
    past xs e i g = get_or-eq_default xs 0 (subst (λ (x : ℕ). x ≤ i) (sym e) g)
