-- The rows by the marks alone: they are those of any values as many as the marks, 0 at absent points and below 2^N.
use Rattle.std.specs.Prelude.{Option}
use mathlib.Core.Path.{◌≡◌, refl, sym, ap, ap₂, ◌∙◌, subst}
use mathlib.Core.Bool.{Bool, true, false, not, ◌&&◌, ◌||◌}
use mathlib.Core.List.{List, [], ◌∷◌, ◌++◌}
use mathlib.Core.Logic.{⊎_elim}
use Prim.Native.Nat.{ℕ, zero, suc, ◌^◌, ◌≤◌, ◌<◌}
use native.Mathlib.Omega.{arith}
use borrow.Author.Tests.{lt-leb, lt-ltb, eqb-true, eq-eqb, ne_eqb}
use lib.Dec.{ltb, leb, eqb}
use lib.Pow.{pow_pos}
use lib.ListN.{length, get_or-eq_default}
use Rattle.bits.specs.Bits.{bits_in}
use Rattle.bits.specs.Tables.{any_below}
use Rattle.bits.proofs.Runs.{lt_or_ge}
use Rattle.bits.proofs.Fill.{length-tab, get_or-tab}
use Rattle.bits.proofs.Below.{any_ext}
use Rattle.marks.specs.Marks.{the_all_present}
use Rattle.rules.specs.declared.{Bitmap.Bitmap, Bitmap.TheVariants.Without, Bitmap.TheVariants.Carried, Grid.Grid}
use Rattle.rules.specs.declared.{Bitmap.TheVariants.Stored, Form.Form, Scale.Scale}
use Rattle.rules.specs.Table.{row, any_of}
use Rattle.rules.specs.Places.{the_has_grid, the_has_bitmap}
use Rattle.rules.specs.Bitmap.{Lent, lent_faults, the_bitmap_given, mark_of, marks_long, mark_odd, value_of}
use Rattle.rules.specs.Writing.{lists_fit, stored_faults, the_grid_given, point_bad, differ}
use Rattle.writable.specs.Rows.{front_rows, exponent_faults, middle_rows, early_rows, any_bad, the_points_bad, list_faults}
use Rattle.writable.specs.Rows.{own_rows, zeros, the_marks_off, mark_rows}
use Rattle.writable.specs.Listed.{Listed}
use Rattle.writable.proofs.Points.{any_or}

-- where points may be absent, a mark above 1; elsewhere one other than 1
or_nothing : (a b : Bool) → (a || (b && false)) ≡ a
or_nothing true b = refl
or_nothing false true = refl
or_nothing false false = refl

not-one : (x : ℕ) → (ltb 1 x || (eqb x 0 && true)) ≡ not (eqb x 1)
not-one zero = refl
not-one (suc zero) = refl
not-one (suc (suc x)) = rw (lt-ltb 1 (suc (suc x)) (omega arith), ne_eqb (suc (suc x)) 1 (λ e. two x e))
  where
    two : (x : ℕ) → suc (suc x) ≡ 1 → ⊥
    two x e = omega arith

twice : (y : Bool) → not (not y) ≡ y
twice true = refl
twice false = refl

pub off-odd : (marks : List ℕ) (n : ℕ) → mark_odd marks n ≡ the_marks_off true marks n
unfolding the_marks_off
off-odd marks n = any_ext _ _ n (λ i l. sym (or_nothing (ltb 1 (mark_of marks i)) (eqb (mark_of marks i) 0)))

pub off_gap : (marks : List ℕ) (n : ℕ) → not (the_all_present marks n) ≡ the_marks_off false marks n
unfolding the_all_present the_marks_off
off_gap marks n =
    twice (any_below (λ i. not (eqb (mark_of marks i) 1)) n)
    ∙ any_ext (λ i. not (eqb (mark_of marks i) 1)) (λ i. ltb 1 (mark_of marks i) || (eqb (mark_of marks i) 0 && true)) n
    (λ i l. sym (not-one (mark_of marks i)))

-- 13 at a point
or_none : (b : Bool) → ((b || false) || false) ≡ b
or_none true = refl
or_none false = refl

point-marked : (gaps : Bool) (bits mark value : ℕ) → (mark ≡ 0 → value ≡ 0) → value < 2 ^ bits
    → point_bad gaps bits mark value ≡ (eqb mark 0 && not gaps)
unfolding point_bad
point-marked gaps bits mark value z v = go (eqb mark 0) refl
  where
    go : (t : Bool) → eqb mark 0 ≡ t
        → ((t && (not gaps || not (eqb value 0))) || leb (2 ^ bits) value) ≡ (t && not gaps)
    go true e = rw (lt-leb (2 ^ bits) value v, eq-eqb value 0 (z (eqb-true mark 0 e))) (or_none (not gaps))
    go false e = rw (lt-leb (2 ^ bits) value v)

any_marked : (gaps : Bool) (bits : ℕ) (values marks : List ℕ) (n : ℕ)
    → ((i : ℕ) → mark_of marks i ≡ 0 → value_of values i ≡ 0) → ((i : ℕ) → value_of values i < 2 ^ bits)
    → any_bad gaps bits values marks n ≡ any_below (λ i. eqb (mark_of marks i) 0 && not gaps) n
any_marked gaps bits values marks n z v =
    any_ext (λ i. point_bad gaps bits (mark_of marks i) (value_of values i)) (λ i. eqb (mark_of marks i) 0 && not gaps) n
    (λ i k. point-marked gaps bits (mark_of marks i) (value_of values i) (z i) (v i))

points-marked : (gaps : Bool) (bits : ℕ) (values marks : List ℕ) (n : ℕ)
    → ((i : ℕ) → mark_of marks i ≡ 0 → value_of values i ≡ 0) → ((i : ℕ) → value_of values i < 2 ^ bits)
    → the_points_bad gaps bits values marks n ≡ the_marks_off gaps marks n
unfolding the_points_bad the_marks_off
points-marked gaps bits values marks n z v =
    ap (λ (x : Bool). mark_odd marks n || x) (any_marked gaps bits values marks n z v)
    ∙ sym (any_or (λ i. ltb 1 (mark_of marks i)) (λ i. eqb (mark_of marks i) 0 && not gaps) n)

-- zeros are such values
pub length_zeros : (long : ℕ) → length (zeros long) ≡ long
length_zeros long = length-tab (λ _. 0) long

zero-at : (long i : ℕ) → value_of (zeros long) i ≡ 0
zero-at long i = ⊎_elim
    (λ (l : i < long). get_or-tab (λ _. 0) long i 0 l)
    (λ (g : long ≤ i). get_or-eq_default (zeros long) 0 (subst (λ (x : ℕ). x ≤ i) (sym (length_zeros long)) g))
    (lt_or_ge i long)

zero-lt : (bits long i : ℕ) → value_of (zeros long) i < 2 ^ bits
zero-lt bits long i = subst (λ (x : ℕ). x < 2 ^ bits) (sym (zero-at long i)) (pow_pos bits)

pub zeros-marked : (gaps : Bool) (bits long : ℕ) (marks : List ℕ) (n : ℕ)
    → the_points_bad gaps bits (zeros long) marks n ≡ the_marks_off gaps marks n
zeros-marked gaps bits long marks n =
    points-marked gaps bits (zeros long) marks n (λ i _. zero-at long i) (zero-lt bits long)

-- of a list of values only its length counts for 10, and for 13 what the points make of it
stored-alike : (b : Bitmap) (lent : Lent) (values us marks : List ℕ) (n : ℕ) → length values ≡ length us
    → stored_faults b lent values marks n ≡ stored_faults b lent us marks n
unfolding stored_faults lists_fit
stored-alike Without lent values us marks n e = refl
stored-alike Carried lent values us marks n e = refl
stored-alike (Stored k) lent values us marks n e =
    ap (λ (x : ℕ).
    (eqb x n && eqb (length marks) n && any_below (λ i. not (eqb (bits_in 8 lent.octets i) (mark_of marks i))) n)
    ∷ lent_faults lent k n) e

lists-alike : (pds : List ℕ) (form : Form) (values us marks : List ℕ) (n : ℕ) → length values ≡ length us
    → any_bad (the_bitmap_given form.bitmap) form.packing.bits values marks n
    ≡ any_bad (the_bitmap_given form.bitmap) form.packing.bits us marks n
    → list_faults pds form values marks n ≡ list_faults pds form us marks n
unfolding list_faults lists_fit
lists-alike pds form values us marks n e p =
    ap₂ (λ (x : ℕ) (t : Bool). not (eqb x n && eqb (length marks) (marks_long n)) ∷ mark_odd marks n ∷ t
    ∷ differ (the_has_grid pds 0) (the_grid_given form.grid) ∷ differ (the_has_bitmap pds 0) (the_bitmap_given form.bitmap) ∷ []) e
    p

pub rows-marked : (pds : List ℕ) (form : Form) (scale : Scale) (lent : Lent) (values marks : List ℕ) (found : Option Grid) (n long : ℕ)
    → Listed values marks form.packing.bits → long ≡ length values
    → mark_rows pds form scale lent long marks found n ≡ own_rows pds form scale lent values marks found n
unfolding mark_rows own_rows early_rows middle_rows
rows-marked pds form scale lent values marks found n long p e =
    let l : length (zeros long) ≡ length values = length_zeros long ∙ e in
    let gaps = the_bitmap_given form.bitmap in
    let bits = form.packing.bits in
    let t = any_marked gaps bits (zeros long) marks n (λ i _. zero-at long i) (zero-lt bits long) ∙ sym (any_marked gaps bits values marks n p.away p.value) in
    ap₂ (λ (s u : List Bool).
    (front_rows pds found ++ (row 10 (any_of s) ∷ row 11 (any_of (exponent_faults scale form.packing)) ∷ []))
    ++ (row 13 (any_of u) ∷ []))
    (stored-alike form.bitmap lent (zeros long) values marks n l)
    (lists-alike pds form (zeros long) values marks n l t)
