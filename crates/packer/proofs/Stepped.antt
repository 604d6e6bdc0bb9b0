-- The list of X, point by point, where every point is present, and as the writer's rows judge it; and the packer's
-- first rows.
use Rattle.std.specs.Prelude.{Option, Result}
use mathlib.Core.Path.{◌≡◌, sym, ap, ap₂, ◌∙◌, subst}
use mathlib.Core.Bool.{Bool, cond}
use mathlib.Core.List.{List}
use mathlib.Core.Logic.{⊎_elim}
use Prim.Native.Nat.{ℕ, zero, suc, ◌+◌, ◌^◌, ◌<◌}
use native.Mathlib.Nat.{zero-add, eq-or-lt_of_le, le_of_suc-le-suc, not-suc-le-zero}
use native.Mathlib.Omega.{arith}
use lib.IntN.{ℤ, pos, nat_abs, ◌-ℤ◌}
use lib.Signed.{mag}
use lib.ListN.{length, get_or}
use mir.Syntax.{w32}
use mir.Val.{to_z, of_z}
use mir.Facts.{to_z-of_z}
use borrow.Author.Tests.{eq-eqb}
use Rattle.bits.specs.Bits.{count, packed_into}
use Rattle.bits.specs.Tables.{tab}
use Rattle.bits.proofs.Runs.{Bits}
use Rattle.bits.proofs.Fill.{length-tab, get_or-tab, tab_ext, tab-of}
use Rattle.bits.proofs.Ones.{count-le}
use Rattle.rules.specs.declared.{Refusal.Refusal, Signed.Signed, Packing.Packing, Form.Form, Scale.Scale, Grid.Grid}
use Rattle.rules.specs.Numbers.{decimal_at}
use Rattle.rules.specs.Table.{refusal, any_of, first, first_or}
use Rattle.rules.specs.Answers.{judged}
use Rattle.rules.specs.Bitmap.{Lent, mark_of, value_of}
use Rattle.rules.specs.Points.{gathered}
use Rattle.rules.specs.Values.{packing_faults}
use Rattle.rules.specs.Writing.{pds_faults}
use Rattle.rules.specs.Checking.{source_faults, the_decimal_differs}
use Rattle.writable.specs.Listed.{Listed}
use Rattle.writable.specs.Rows.{own_rows, mark_rows}
use Rattle.writable.proofs.Marked.{rows-marked}
use Rattle.framing.proofs.Gathered.{gathered-all}
use Rattle.rules.specs.Packing.{stepped}
use Rattle.packer.specs.Scaled.{scaled_by, scaled_from, pack_rows}
use Rattle.steps.specs.Steps.{step_of}

-- with as many ones as points each point is one
ones-all : (f : ℕ → ℕ) → Bits f → (n : ℕ) → count f 0 n ≡ n → (i : ℕ) → i < n → f i ≡ 1
unfolding count
ones-all f b zero e i l = absurd (not-suc-le-zero l)
ones-all f b (suc n) e i l =
    let h : f (0 + n) < 2 = b (0 + n) in
    let k = count-le b 0 n in
    let z : f n ≡ 1 = ap f (sym (zero-add n)) ∙ omega arith in
    ⊎_elim (λ p. ap f p ∙ z) (λ q. ones-all f b n (omega arith) i q) (eq-or-lt_of_le (le_of_suc-le-suc l))

module _ (numbers : List ℤ) (marks : List ℕ) (r : ℤ) (e : ℕ) where
  pub length-scaled : length (scaled_from numbers marks r e) ≡ length numbers
  unfolding scaled_from
  length-scaled = length-tab _ (length numbers)

  pub scaled_at : (i : ℕ) → i < length numbers
      → value_of (scaled_from numbers marks r e) i ≡ scaled_by (get_or numbers i (pos 0)) (mark_of marks i) r e
  unfolding scaled_from
  scaled_at i l = get_or-tab (λ k. scaled_by (get_or numbers k (pos 0)) (mark_of marks k) r e) (length numbers) i 0 l

  -- at a present point
  pub scaled-present : (i : ℕ) → i < length numbers → mark_of marks i ≡ 1
      → step_of numbers r e i ≡ value_of (scaled_from numbers marks r e) i
  unfolding step_of
  scaled-present i l h =
      sym (scaled_at i l
      ∙ ap (λ (t : Bool). cond t (stepped e (nat_abs (get_or numbers i (pos 0) -ℤ r))) 0) (eq-eqb (mark_of marks i) 1 h))

  -- where every point is present, the list is that of all X
  module _ (bits : ℕ) (p : Listed (scaled_from numbers marks r e) marks bits)
      (all : length numbers ≡ count (mark_of marks) 0 (length numbers)) where
    scaled-all : tab (value_of (scaled_from numbers marks r e)) (length numbers) ≡ scaled_from numbers marks r e
    scaled-all =
        ap (tab (value_of (scaled_from numbers marks r e))) (sym length-scaled) ∙ tab-of (scaled_from numbers marks r e) 0

    steps_all : tab (step_of numbers r e) (length numbers) ≡ scaled_from numbers marks r e
    steps_all =
        tab_ext (step_of numbers r e) (value_of (scaled_from numbers marks r e)) (length numbers)
        (λ i l. scaled-present i l (ones-all (mark_of marks) p.mark (length numbers) (sym all) i l))
        ∙ scaled-all

    pub every-wide : (k : ℕ) → get_or (tab (step_of numbers r e) (length numbers)) k 0 < 2 ^ bits
    every-wide k = subst (λ (x : List ℕ). get_or x k 0 < 2 ^ bits) (sym steps_all) (p.value k)

    pub every-is : tab (step_of numbers r e) (length numbers)
        ≡ gathered (mark_of marks) (value_of (scaled_from numbers marks r e)) (length numbers)
    every-is =
        steps_all
        ∙ sym (gathered-all (mark_of marks) p.mark (value_of (scaled_from numbers marks r e)) (length numbers) (sym all)
        ∙ scaled-all)

-- R as code reads it back
module _ (numbers : List ℤ) (marks : List ℕ) (r : ℤ) (e : ℕ) (h : mag r < 2 ^ 31) where
  back : scaled_from numbers marks (to_z w32 (of_z w32 r)) e ≡ scaled_from numbers marks r e
  back = ap (λ (x : ℤ). scaled_from numbers marks x e) (to_z-of_z {w = w32} {z = r} (record { sfits = h }))

  pub listed_back : (bits : ℕ) → Listed (scaled_from numbers marks r e) marks bits
      → Listed (scaled_from numbers marks (to_z w32 (of_z w32 r)) e) marks bits
  listed_back bits p = subst (λ (x : List ℕ). Listed x marks bits) (sym back) p

  pub packed-back : (bits n : ℕ) (d : List ℕ)
      → packed_into bits (gathered (mark_of marks) (value_of (scaled_from numbers marks (to_z w32 (of_z w32 r)) e)) n) d
      ≡ packed_into bits (gathered (mark_of marks) (value_of (scaled_from numbers marks r e)) n) d
  packed-back bits n d = ap (λ (x : List ℕ). packed_into bits (gathered (mark_of marks) (value_of x) n) d) back

-- the rows by the marks alone are those of the list of X
pub as-listed : (pds : List ℕ) (form : Form) (scale : Scale) (lent : Lent) (numbers : List ℤ) (marks : List ℕ) (r : ℤ) (e : ℕ)
    → Listed (scaled_from numbers marks r e) marks form.packing.bits → (found : Option Grid) (n : ℕ) (x : Result (Unit {0}) Refusal)
    → x ≡ judged (mark_rows pds form scale lent (length numbers) marks found n)
    → x ≡ judged (own_rows pds form scale lent (scaled_from numbers marks r e) marks found n)
as-listed pds form scale lent numbers marks r e p found n x h =
    h ∙ ap judged
    (rows-marked pds form scale lent (scaled_from numbers marks r e) marks found n (length numbers) p
    (sym (length-scaled numbers marks r e)))

-- 5, 18, 15 and 11, one under another
pub judged-source : (pds : List ℕ) (packing : Packing) (numbers : List ℤ) (marks : List ℕ) (d d' : ℤ) → d' ≡ d
    → (own : Signed) → own ≡ decimal_at pds 0 → (k : ℤ) → k ≡ own.value
    → (t15 : Bool) → t15 ≡ the_decimal_differs k d' → (t11 : Bool) → t11 ≡ any_of (packing_faults packing) → (x11 : Refusal)
    → x11 ≡ cond t11 (refusal 11) (refusal 0)
    → (x15 : Refusal) → x15 ≡ cond t15 (refusal 15) x11 → (t5 : Bool) → t5 ≡ any_of (pds_faults pds)
    → (t18 : Bool) → ((d : ℤ) → t18 ≡ any_of (source_faults (record { numbers = numbers; marks = marks; d = d })))
    → (x18 : Refusal) → x18 ≡ cond t18 (refusal 18) x15
    → (x : Refusal) → x ≡ cond t5 (refusal 5) x18
    → x ≡ first (pack_rows pds packing (record { numbers = numbers; marks = marks; d = d }))
unfolding first first_or pack_rows
judged-source pds packing numbers marks d d' ed own eo k ek t15 e15 t11 e11 x11 ex11 x15 ex15 t5 e5 t18 e18 x18 ex18 x ex =
    ex ∙ ap₂ (λ (t : Bool) (y : Refusal). cond t (refusal 5) y) e5
    (ex18 ∙ ap₂ (λ (t : Bool) (y : Refusal). cond t (refusal 18) y) (e18 d)
    (ex15 ∙ ap₂ (λ (t : Bool) (y : Refusal). cond t (refusal 15) y)
    (e15 ∙ ap₂ the_decimal_differs (ek ∙ ap (λ (o : Signed). o.value) eo) ed)
    (ex11 ∙ ap (λ (t : Bool). cond t (refusal 11) (refusal 0)) e11)))
