-- The writer accepts the parts that reading a taken message gives, into room for what it writes: each of its rows from
-- the reader's.
use Rattle.std.specs.Prelude.{None, Option, Some}
use Prim.Native.Nat.{ℕ, ◌+◌, ◌*◌, ◌%◌, ◌^◌, ◌≤◌, ◌<◌}
use mathlib.Core.Bool.{Bool, true, false, not, ◌&&◌, cond}
use mathlib.Core.Path.{◌≡◌, refl, sym, subst, ◌∙◌, ap}
use mathlib.Core.List.{List, [], ◌∷◌}
use native.Mathlib.Omega.{arith}
use borrow.Author.Tests.{eqb-true, eq-eqb, ne_eqb, le-ltb, lt-leb}
use lib.Dec.{T, eqb}
use lib.IntN.{nat_abs}
use lib.ListN.{length, get_or, take, drop, length-drop}
use lib.Seq.{get_or-take, get_or-drop, length-take-le}
use Rattle.bits.specs.Bits.{octets_for}
use Rattle.bits.proofs.Runs.{Bits, bits_in-bits, run-lt}
use Rattle.bits.proofs.Fill.{length-tab, get_or-tab}
use Rattle.bits.proofs.Below.{no-below}
use Rattle.bits.proofs.Cut.{bits-take, run-part}
use Rattle.bits.proofs.Marks.{wide-tab}
use Rattle.rules.specs.declared.{Part.Part, Grid.Grid}
use Rattle.rules.specs.declared.{Bitmap.Bitmap, Bitmap.TheVariants.Without}
use Rattle.rules.specs.declared.{Bitmap.TheVariants.Carried, Bitmap.TheVariants.Stored}
use Rattle.rules.specs.Bounds.{pds_least, pds_most, exponent_most}
use Rattle.rules.specs.Numbers.{number, sign, signed, beyond}
use Rattle.rules.specs.Table.{accepted, any_of}
use Rattle.rules.specs.Places.{pds_start, the_has_grid, the_section_at, places_of}
use Rattle.rules.specs.Grid.{the_grid_at, the_grid_missing, grid_or_zeros, grid_faults, points_of}
use Rattle.rules.specs.Bitmap.{Lent, bitmap_faults, the_bitmap_given, in_force, bitmap_octets, present_by, mark_of, value_of}
use Rattle.rules.specs.Points.{value_at, scattered, gathered}
use Rattle.rules.specs.Values.{scale_at, packing_faults}
use Rattle.rules.specs.Reading.{grid_in, grid_of, points_in, bitmap_in, in_force_in, present_in, present_count, packing_in}
use Rattle.rules.specs.Reading.{the_scale_in, data_in, values_in, marks_in}
use Rattle.rules.specs.Writing.{Parts, grid_for, points_for, pds_faults, lists_fit, stored_faults, the_grid_given, point_bad}
use Rattle.rules.specs.Writing.{differ, parts_faults, message, write_refusal}
use Rattle.rules.specs.RoundTrip.{parts_in}
use Rattle.laws.specs.Taken.{Taken}
use Rattle.bits.proofs.Tests.{or_none}
use Rattle.laws.proofs.Rows.{none_of, any_none, gated, not_eq, outside-no, taken-by}
use Rattle.laws.proofs.Judged.{Judged, judged}
use Rattle.laws.proofs.Bounded.{kind}
use Rattle.laws.proofs.Data.{data_length, data_wide}
use Rattle.laws.proofs.Sections.{Sections, sections}
use Rattle.laws.proofs.Whole.{beyond-no}
use Rattle.laws.proofs.Signs.{signed-size}
use Rattle.theorems.proofs.Laid.{grid-same, bitmap-same, time-same}
use Rattle.theorems.proofs.GridSection.{from-same}
use Rattle.laws.proofs.Gathered.{gathered-back, value-away, value-lt}
use Rattle.theorems.proofs.BitmapSection.{present-bits, present-absent}
use Rattle.theorems.proofs.Offered.{unoffered}

-- the writer's row 10, of a bitmap that the reader took
stored-none : (m : Bitmap) (s : List ℕ) (lent : Lent) (p : Part) (values marks : List ℕ) (n : ℕ)
    → any_of (bitmap_faults s lent p m n) ≡ false
    → ((i : ℕ) → i < n → mark_of marks i ≡ present_by m (bitmap_octets s lent.octets (in_force m p n)) i)
    → any_of (stored_faults m lent values marks n) ≡ false
unfolding bitmap_faults present_by bitmap_octets in_force stored_faults
stored-none Without s lent p values marks n h same = any_none [] tt
stored-none Carried s lent p values marks n h same = any_none [] tt
stored-none (Stored j) s lent p values marks n h same =
    let g = none_of (bitmap_faults s lent p (Stored j) n) h in
    any_none _ (
      gated (lists_fit values marks n) _
          (λ q. no-below _ n
          (λ i l. not_eq _ _ (sym (same i l ∙ bits-take (octets_for n) lent.octets i (omega arith))))),
      g.1.1,
    )

-- its row 13, at a point
point-none : (bitmap : Bool) (bits mark value : ℕ) → (mark ≡ 0 → bitmap ≡ true) → (mark ≡ 0 → value ≡ 0)
    → value < 2 ^ bits → point_bad bitmap bits mark value ≡ false
unfolding point_bad
point-none bitmap bits mark value b c d =
    or_none _ _ (gated (eqb mark 0) _ (λ q. let z = eqb-true mark 0 q in or_none _ _ (ap not (b z)) (not_eq value 0 (c z)))) (lt-leb (2 ^ bits) value d)

differ-none : (a b : Bool) → a ≡ b → differ a b ≡ false
differ-none a true e = ap (λ (x : Bool). differ x true) e
differ-none a false e = ap (λ (x : Bool). differ x false) e

grid-given : (b : Bool) (g : Grid) → b ≡ the_grid_given (cond b (Some g) None)
grid-given true g = refl
grid-given false g = refl

module _ (s : List ℕ) (lent : Lent) (t : Taken s lent) where
  abbrev pub w : Parts
  w = parts_in s lent

  abbrev P : Part
  P = (places_of s).pds

  abbrev n : ℕ
  n = points_in s

  at : Sections s
  at = sections s lent t

  j : Judged s lent
  j = judged s lent t

  -- the PDS, cut out
  pub pds-is : w.pds ≡ take P.len (drop pds_start s)
  unfolding parts_in places_of the_section_at
  pds-is = refl

  fits : 8 + P.len ≤ length s
  fits = omega (arith, at.at-gds, at.at-bms, at.at-bds, at.end)

  pds-length : length w.pds ≡ P.len
  pds-length =
      ap length pds-is
      ∙ length-take-le P.len (drop 8 s) (subst (λ (x : ℕ). P.len ≤ x) (sym (length-drop 8 s)) (omega (arith, fits)))

  pub pds-octet : (i : ℕ) → i < pds_least → get_or s (pds_start + i) 0 ≡ get_or w.pds i 0
  pds-octet i l =
      sym (ap (λ (x : List ℕ). get_or x i 0) pds-is
      ∙ get_or-take P.len (drop 8 s) i 0 (omega (arith, at.pds.least refl)) ∙ get_or-drop 8 s i 0)

  -- the grid, and its points
  pub grid-for : grid_for w ≡ grid_of s
  unfolding grid_for grid_of parts_in
  grid-for = sym (from-same (grid_in s) s 8 w.pds (pds-octet 6 (omega arith)))

  pub points-for : points_for w ≡ n
  unfolding points_for points_in
  points-for = ap (λ (f : Option Grid). points_of (grid_or_zeros f)) grid-for

  present : Bits (present_in s lent)
  unfolding present_in
  present = present-bits (bitmap_in s) (bitmap_octets s lent.octets (in_force_in s))

  pub marks-is : (i : ℕ) → i < n → mark_of w.marks i ≡ present_in s lent i
  unfolding parts_in marks_in
  marks-is i l = get_or-tab (present_in s lent) n i 0 l

  pub marks-bits : Bits (mark_of w.marks)
  unfolding parts_in marks_in
  marks-bits = wide-tab (present_in s lent) n present

  pub by_map : (i : ℕ) → i < n
      → mark_of w.marks i
      ≡ present_by (bitmap_in s) (bitmap_octets s lent.octets (in_force (bitmap_in s) (places_of s).bms n)) i
  unfolding present_in in_force_in
  by_map i l = marks-is i l

  -- the values
  abbrev pub xs : List ℕ
  xs = data_in s lent

  values-is : (i : ℕ) → i < n → value_of w.values i ≡ value_at (present_in s lent) xs i
  unfolding parts_in values_in scattered
  values-is i l = get_or-tab (value_at (present_in s lent) xs) n i 0 l

  pub packed-is : gathered (mark_of w.marks) (value_of w.values) n ≡ xs
  unfolding parts_in values_in marks_in present_count
  packed-is = gathered-back (present_in s lent) present xs n (data_length s lent)

  -- the writer's rows
  row5 : any_of (pds_faults w.pds) ≡ false
  unfolding pds_faults
  row5 =
      let c = at.pds in
      let says : number s pds_start 1 3 ≡ P.len = ap (λ (x : ℕ). number s x 1 3) (sym at.at-pds) ∙ sym c.says in
      any_none _ (
        ne_eqb (length w.pds % 2) 1 (λ q. c.even refl (ap (λ (x : ℕ). x % 2) (sym pds-length) ∙ q)),
        (
          outside-no pds_least pds_most (length w.pds) (omega (arith, pds-length, c.least refl))
              (omega (arith, pds-length, at.most)),
          (
            not_eq _ _
                (ap (λ (x : List ℕ). number x 0 1 3) pds-is ∙ run-part s 8 P.len 0 24 (omega (arith, c.least refl))
                ∙ says ∙ sym pds-length),
            tt,
          ),
        ),
      )

  row11 : any_of (beyond exponent_most (the_scale_in s).e.value ∷ packing_faults (packing_in s)) ≡ false
  unfolding the_scale_in scale_at
  row11 =
      let v = number s (places_of s).bds.start 5 6 in
      let h : nat_abs (signed 2 v).value < sign 2 = signed-size 2 v (run-lt (bits_in-bits 8 s) (((places_of s).bds.start + 4) * 8) 16) in
      any_none _
      (beyond-no exponent_most (signed 2 v).value (omega arith), none_of (packing_faults (packing_in s)) j.packing)

  lists-fit : lists_fit w.values w.marks (points_for w) ≡ true
  unfolding parts_in values_in marks_in scattered lists_fit
  lists-fit =
      let a = eq-eqb (length w.values) (points_for w) (length-tab (value_at (present_in s lent) xs) n ∙ sym points-for) in
      let b = eq-eqb (length w.marks) (points_for w) (length-tab (present_in s lent) n ∙ sym points-for) in
      λ i. a i && b i

  absent : (i : ℕ) → present_in s lent i ≡ 0 → the_bitmap_given (bitmap_in s) ≡ true
  unfolding present_in
  absent i = present-absent (bitmap_in s) (bitmap_octets s lent.octets (in_force_in s)) i

  point : (i : ℕ) → i < n
      → point_bad (the_bitmap_given (bitmap_in s)) (packing_in s).bits (mark_of w.marks i) (value_of w.values i) ≡ false
  point i l =
      let e = marks-is i l in
      let v = values-is i l in
      point-none _ _ _ _ (λ z. absent i (sym e ∙ z))
      (λ z. v ∙ value-away (present_in s lent) xs i (apart (present_in s lent i) (sym e ∙ z)))
      (subst (λ (x : ℕ). x < 2 ^ (packing_in s).bits) (sym v)
      (value-lt (present_in s lent) xs (packing_in s).bits (data_wide s lent) i))
    where
      apart : (x : ℕ) → x ≡ 0 → x ≡ 1 → ⊥
      apart x e f = omega arith

  row13 : any_of (parts_faults w) ≡ false
  unfolding parts_faults parts_in grid_in
  row13 = any_none _ (
    ap not lists-fit,
    (
      no-below _ (points_for w) (λ i l. le-ltb 1 (mark_of w.marks i) (omega (arith, marks-bits i))),
      (
        no-below _ (points_for w) (λ i l. point i (subst (λ (x : ℕ). i < x) points-for l)),
        (
          differ-none _ _
              (sym (grid-same s pds_start w.pds pds-octet)
              ∙ grid-given (the_has_grid s pds_start) (the_grid_at s (places_of s).gds)),
          (differ-none _ _ (sym (bitmap-same s pds_start w.pds pds-octet) ∙ kind s), tt),
        ),
      ),
    ),
  )

  pub reoffered : (out : List ℕ) → length (message w) ≤ length out → T (accepted (write_refusal w out))
  unfolding parts_in
  reoffered out room = taken-by _ (unoffered w out (record {
    pds = row5;
    time = ap any_of (sym (time-same s pds_start w.pds pds-octet)) ∙ j.time;
    found = ap the_grid_missing grid-for ∙ j.found;
    grid = ap (λ (f : Option Grid). any_of (grid_faults (grid_or_zeros f))) grid-for ∙ j.grid;
    stored =
        ap (λ (k : ℕ). any_of (stored_faults (bitmap_in s) lent w.values w.marks k)) points-for
        ∙ stored-none (bitmap_in s) s lent (places_of s).bms w.values w.marks n j.bitmap by_map;
    packing = row11;
    parts = row13;
    room = le-ltb (length out) (length (message w)) room;
  }))
