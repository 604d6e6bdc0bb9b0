-- What the parts are that the writer accepts: its eight rows as named facts, there and back, and what each leaves.
-- Nothing else looks at its table by position.
use Prim.Native.Nat.{ℕ, ◌^◌, ◌≤◌, ◌<◌}
use mathlib.Core.Bool.{true, false, not}
use mathlib.Core.Path.{◌≡◌, refl, sym, subst}
use mathlib.Core.List.{List, ◌∷◌}
use mathlib.Core.Logic.{⊎_elim}
use native.Mathlib.Omega.{arith}
use native.Mathlib.Nat.{mul-le-mul}
use borrow.Author.Tests.{ltb-false, eqb-true, not-false}
use lib.Pow.{pow_pos}
use lib.ListN.{length, get_or-eq_default}
use lib.Dec.{T, ltb, eqb}
use Rattle.bits.specs.Bits.{bits_in}
use Rattle.bits.proofs.Runs.{Bits, lt_or_ge}
use Rattle.bits.proofs.Ones.{count-le}
use Rattle.bits.proofs.Below.{none_below}
use Rattle.rules.specs.declared.{Bitmap.Bitmap, Bitmap.TheVariants.Without, Bitmap.TheVariants.Carried}
use Rattle.rules.specs.declared.{Bitmap.TheVariants.Stored}
use Rattle.rules.specs.Bounds.{pds_least, pds_most, points_most, the_bits_most, exponent_most}
use Rattle.rules.specs.Numbers.{beyond}
use Rattle.rules.specs.Table.{refusal, accepted, any_of}
use Rattle.rules.specs.Places.{the_has_grid, the_has_bitmap}
use Rattle.rules.specs.Time.{time_faults}
use Rattle.rules.specs.Grid.{the_grid_missing, grid_or_zeros, grid_faults}
use Rattle.rules.specs.Bitmap.{Lent, the_bitmap_given, mark_of, marks_long, value_of, lent_faults}
use Rattle.rules.specs.Points.{gathered}
use Rattle.rules.specs.Values.{packing_faults}
use Rattle.rules.specs.Writing.{Parts, grid_for, points_for, pds_faults, lists_fit, stored_faults, the_grid_given, point_bad}
use Rattle.rules.specs.Writing.{parts_faults, message, write_table, write_refusal}
use Rattle.laws.specs.Tables.{Clear}
use Rattle.theorems.specs.Returns.{NumberFits}
use Rattle.bits.proofs.Tests.{both}
use Rattle.laws.proofs.Grids.{grid-points}
use Rattle.laws.proofs.Rows.{NoneOf, clear, accepts, none_of, any_none, and_false, clash, is_eq, inside}
use Rattle.laws.proofs.Whole.{within}
use Rattle.theorems.proofs.Laid.{Sec, whole_sec}
use Rattle.laws.proofs.Gathered.{length-gathered, wide-gathered}
use Rattle.laws.proofs.Points.{flags-two, PointOk, point_ok, even-marks}
use Rattle.laws.proofs.Flags.{alike}
use Rattle.theorems.proofs.DataSection.{DataOk}
use Rattle.theorems.proofs.BitmapSection.{MapOk}

pub record Offer (w : Parts) (out : List ℕ) : Type 0 where
  pub pds : any_of (pds_faults w.pds) ≡ false
  pub time : any_of (time_faults w.pds 0) ≡ false
  pub found : the_grid_missing (grid_for w) ≡ false
  pub grid : any_of (grid_faults (grid_or_zeros (grid_for w))) ≡ false
  pub stored : any_of (stored_faults w.form.bitmap w.lent w.values w.marks (points_for w)) ≡ false
  pub packing : any_of (beyond exponent_most w.scale.e.value ∷ packing_faults w.form.packing) ≡ false
  pub parts : any_of (parts_faults w) ≡ false
  pub room : ltb (length out) (length (message w)) ≡ false

pub rows : (w : Parts) (out : List ℕ) → T (accepted (write_refusal w out)) → Clear (write_table w out)
unfolding write_refusal write_table
rows w out t = clear (write_table w out) tt t

pub offered : (w : Parts) (out : List ℕ) → T (accepted (write_refusal w out)) → Offer w out
unfolding write_table
offered w out t =
    let a = rows w out t in
    let b = a.1.1.1.1 in
    record { pds = a.0; time = a.1.0; found = a.1.1.0; grid = a.1.1.1.0; stored = b.0; packing = b.1.0; parts = b.1.1.0; room = b.1.1.1.0 }

pub unoffered : (w : Parts) (out : List ℕ) → Offer w out → write_refusal w out ≡ refusal 0
unfolding write_refusal write_table
unoffered w out h =
    accepts (write_table w out)
    (h.pds, (h.time, (h.found, (h.grid, (h.stored, (h.packing, (h.parts, (h.room, tt))))))))

map_of : (m : Bitmap) (lent : Lent) (values marks : List ℕ) (n : ℕ) → NumberFits m → lists_fit values marks n ≡ true
    → any_of (stored_faults m lent values marks n) ≡ false
    → ((i : ℕ) → i < n → (mark_of marks i < 2) × (mark_of marks i ≡ 0 → the_bitmap_given m ≡ true))
    → MapOk m lent (mark_of marks) n
unfolding stored_faults
map_of Without lent values marks n f t e p = λ i l. one (mark_of marks i) (p i l).0 (λ z. clash false ((p i l).1 z) refl)
  where
    one : (x : ℕ) → x < 2 → (x ≡ 0 → ⊥) → x ≡ 1
    one x l h = omega arith
map_of Carried lent values marks n f t e p = tt
map_of (Stored j) lent values marks n f t e p =
    let h = none_of _ e in
    let g = and_false (lists_fit values marks n) _ t h.0 in (
      f,
      any_none (lent_faults lent j n) h.1,
      λ i l. is_eq _ _
          (none_below (λ i. not (eqb (bits_in 8 lent.octets i) (mark_of marks i))) n g i l),
    )

pub packing-none : (w : Parts) (out : List ℕ) → Offer w out → any_of (packing_faults w.form.packing) ≡ false
packing-none w out o =
    any_none (packing_faults w.form.packing)
    (none_of (beyond exponent_most w.scale.e.value ∷ packing_faults w.form.packing) o.packing).1

module _ (w : Parts) (out : List ℕ) (nf : NumberFits w.form.bitmap) (rf : w.scale.r < 2 ^ 32)
    (o : Offer w out) where
  pub pds_sec : Sec true pds_least w.pds
  unfolding pds_faults
  pds_sec =
      let h = none_of _ o.pds in
      whole_sec pds_least w.pds (is_eq _ _ h.1.1.0) (inside pds_least pds_most (length w.pds) h.1.0).0
      h.0

  pub pds-most : length w.pds ≤ pds_most
  unfolding pds_faults
  pds-most = (inside pds_least pds_most (length w.pds) (none_of _ o.pds).1.0).1

  pub points-most : points_for w ≤ points_most
  unfolding points_for
  points-most = grid-points (grid_or_zeros (grid_for w)) o.grid

  pack-none : NoneOf (beyond exponent_most w.scale.e.value ∷ packing_faults w.form.packing)
  pack-none = none_of (beyond exponent_most w.scale.e.value ∷ packing_faults w.form.packing) o.packing

  flags-lt : w.form.packing.flags < 16
  unfolding packing_faults
  flags-lt = omega (arith, flags-two w.form.packing.flags pack-none.1.0)

  pub bits_most : w.form.packing.bits ≤ the_bits_most
  unfolding packing_faults
  bits_most = ltb-false the_bits_most w.form.packing.bits pack-none.1.1.0

  fit : lists_fit w.values w.marks (points_for w) ≡ true
  unfolding parts_faults
  fit = not-false (lists_fit w.values w.marks (points_for w)) (none_of _ o.parts).0

  pub values-long : length w.values ≡ points_for w
  unfolding lists_fit
  values-long =
      eqb-true _ _
      (both (eqb (length w.values) (points_for w)) (eqb (length w.marks) (marks_long (points_for w))) fit).0

  pub marks-long : length w.marks ≡ marks_long (points_for w)
  unfolding lists_fit
  marks-long =
      eqb-true _ _
      (both (eqb (length w.values) (points_for w)) (eqb (length w.marks) (marks_long (points_for w))) fit).1

  point : (i : ℕ) → i < points_for w
      → PointOk (the_bitmap_given w.form.bitmap) w.form.packing.bits (mark_of w.marks i) (value_of w.values i)
  unfolding parts_faults
  point i l =
      point_ok _ _ _ _
      (none_below
      (λ i. point_bad (the_bitmap_given w.form.bitmap) w.form.packing.bits (mark_of w.marks i)
      (value_of w.values i)) (points_for w) (none_of _ o.parts).1.1.0 i l)

  mark-lt : (i : ℕ) → i < points_for w → mark_of w.marks i < 2
  unfolding parts_faults
  mark-lt = even-marks w.marks (points_for w) (none_of _ o.parts).1.0

  pub absent-zero : (i : ℕ) → i < points_for w → mark_of w.marks i ≡ 0 → value_of w.values i ≡ 0
  absent-zero i l z = ((point i l).absent z).1

  pub has-grid : the_has_grid w.pds 0 ≡ the_grid_given w.form.grid
  unfolding parts_faults
  has-grid = alike _ _ (none_of _ o.parts).1.1.1.0

  pub has-bitmap : the_has_bitmap w.pds 0 ≡ the_bitmap_given w.form.bitmap
  unfolding parts_faults
  has-bitmap = alike _ _ (none_of _ o.parts).1.1.1.1.0

  -- a list n long is 0 past its end
  past : (xs : List ℕ) (top i : ℕ) → length xs ≡ points_for w → 0 < top → (i < points_for w → value_of xs i < top)
      → value_of xs i < top
  past xs top i e p h = ⊎_elim h
      (λ g. subst (λ (x : ℕ). x < top) (sym (get_or-eq_default xs 0 (subst (λ (x : ℕ). x ≤ i) (sym e) g))) p)
      (lt_or_ge i (points_for w))

  pub mark-bits : Bits (mark_of w.marks)
  mark-bits i = past w.marks 2 i marks-long (omega arith) (mark-lt i)

  pub map_ok : MapOk w.form.bitmap w.lent (mark_of w.marks) (points_for w)
  map_ok =
      map_of w.form.bitmap w.lent w.values w.marks (points_for w) nf fit o.stored
      (λ i l. (mark-lt i l, λ z. ((point i l).absent z).0))

  pub data_ok : DataOk w.form.packing w.scale (gathered (mark_of w.marks) (value_of w.values) (points_for w))
  data_ok =
      let f = mark_of w.marks in
      let v = value_of w.values in
      let n = points_for w in
      let bits = w.form.packing.bits in
      let c : length (gathered f v n) ≤ points_most = omega (arith, length-gathered f mark-bits v n, count-le mark-bits 0 n, points-most) in
      record {
        flags = flags-lt;
        bits = omega (arith, bits_most);
        e = omega (arith, within exponent_most w.scale.e.value pack-none.0);
        r = rf;
        few = mul-le-mul c bits_most;
        wide = wide-gathered f mark-bits v bits
            (λ i. past w.values (2 ^ bits) i values-long (pow_pos bits) (λ l. (point i l).value)) n;
      }
