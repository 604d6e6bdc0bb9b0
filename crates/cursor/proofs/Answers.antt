-- What is answered of a message: refused by its own rows, by 24 or by 25, or what stands at the place; an index filled
-- or not. From the header and the rows after the message's own.
use Rattle.std.specs.Prelude.{Err, None, Ok, Option, Result, Some}
use mathlib.Core.Path.{◌≡◌, refl, sym, ap, ◌∙◌, subst}
use mathlib.Core.Bool.{Bool, true, false, cond}
use mathlib.Core.List.{List, ◌++◌}
use Prim.Native.Nat.{ℕ, ◌+◌, ◌*◌, ◌^◌, ◌≤◌, ◌<◌}
use native.Mathlib.Omega.{arith}
use borrow.Author.Tests.{eqb-true, le-leb, le-ltb, ltb-false}
use lib.Dec.{T, eqb, ltb}
use lib.ListN.{length, get_or, drop}
use Rattle.rules.specs.declared.{Refusal.Refusal, Places.Places, Shape.Shape, GridPoint.GridPoint, Grid.Grid}
use Rattle.rules.specs.declared.{Spot.Spot}
use Rattle.rules.specs.declared.{Header.Header}
use Rattle.rules.specs.Answers.{said_by, header_reply, entries_reply}
use Rattle.reply.proofs.Judged.{reply_is, passed_as, stopped-as}
use Rattle.bits.specs.Bits.{bits_in, run}
use Rattle.bits.specs.Tables.{tab}
use Rattle.bits.proofs.Fill.{length-tab, tab_ext}
use Rattle.bits.proofs.Ones.{count_ext}
use Rattle.rules.specs.Bounds.{message_most, bms_head, bds_head}
use Rattle.rules.specs.Table.{refusal, accepted, answered, first_or, filled}
use Rattle.rules.specs.Places.{places_of}
use Rattle.rules.specs.Chart.{the_point_on, pointed}
use Rattle.rules.specs.Grid.{grid_or_zeros, shape_of}
use Rattle.rules.specs.Bitmap.{Lent}
use Rattle.rules.specs.Reading.{parsed_of, found_by, found_in, own_refusal, header_of, bitmap_in, in_force_in, points_in}
use Rattle.rules.specs.Reading.{grid_of, present_in, present_count, packing_in, data_in}
use Rattle.rules.specs.Cursor.{the_groups_for, ones_before, entries_in, index_table}
use Rattle.rules.specs.Cursor.{index_refusal, index_of, the_index_after, index_bad, shape_in, off_chart, cursor_table}
use Rattle.rules.specs.Cursor.{cursor_refusal, cursor_number, under_at, cursor_of}
use Rattle.laws.specs.Taken.{Taken}
use Rattle.laws.proofs.Rows.{inside}
use Rattle.laws.proofs.Judged.{judged}
use Rattle.laws.proofs.Sections.{sections, reads-inside}
use Rattle.laws.proofs.Grids.{grid-points}
use Rattle.laws.proofs.Charts.{found}
use Rattle.laws.proofs.Cursors.{number-below}
use Rattle.laws.proofs.Data.{data_narrow, size-most, data_at, data_inside}
use Rattle.runs.specs.Take.{fetched}
use Rattle.bitreader.specs.Taken.{the_value_place}
use Rattle.bitreader.proofs.Places.{value-begins}
use Rattle.bitmap.specs.Held.{held}
use Rattle.bitmap.proofs.Laws.{held-is}
use Rattle.message.proofs.Said as S
use Rattle.message.proofs.Stages.{own_first, one_more}
use Rattle.cursor.specs.Looked.{looked_at}
use Rattle.cursor.proofs.Looks.{looked_ext}

-- value d of a taken message, as the bit reader takes it
module _ (s : List ℕ) (lent : Lent) (t : Taken s lent) (d : ℕ) (l : d < present_count s lent) where
  abbrev bits : ℕ
  bits = (packing_in s).bits

  abbrev start : ℕ
  start = (places_of s).bds.start

  begins : the_value_place start bits d ≡ (start + bds_head) * 8 + d * bits
  begins =
      value-begins start bits d
      (omega (
        arith,
        data_inside s lent t d l,
        (reads-inside s lent t).bds,
        (reads-inside s lent t).end,
        size-most s lent t,
      ))

  pub value-is : fetched s (the_value_place start bits d) bits ≡ get_or (data_in s lent) d 0
  unfolding fetched
  value-is =
      ap (λ (b : Bool). cond b (run (bits_in 8 s) (the_value_place start bits d) bits) 0)
      (le-leb bits 32 (omega (arith, data_narrow s lent t)))
      ∙ ap (λ (p : ℕ). run (bits_in 8 s) p bits) begins ∙ sym (data_at s lent d l)

-- presence in a taken message, as code reads it
held_in : (s : List ℕ) (lent : Lent) (j : ℕ) → j < points_in s
    → held (bitmap_in s) s lent.octets ((places_of s).bms.start + bms_head) j ≡ present_in s lent j
unfolding present_in in_force_in
held_in s lent j l = held-is (bitmap_in s) s lent.octets (places_of s).bms (points_in s) j l

-- where its bitmap would stand is no large number
pub early : (s : List ℕ) (lent : Lent) (h : Header) → Ok h ≡ header_reply (header_of s lent)
    → h.places.bms.start ≤ message_most
early s lent h e =
    let t : Taken s lent = subst T (sym (S.taken s lent h e)) tt in
    let p = sections s lent t in
    subst (λ (x : Places). x.bms.start ≤ message_most) (sym (S.places-of s lent h e))
    (omega (arith, p.at-bds, p.end, size-most s lent t))

module _ (s : List ℕ) (lent : Lent) (index : List ℕ) (c : Spot) where
  abbrev off : Bool
  off = off_chart (pointed (shape_in s) c)

  abbrev bad : Bool
  bad = index_bad s lent index (the_point_on (shape_in s) c)

  refusal-by : cursor_refusal s lent index c
      ≡ cond (accepted (own_refusal s lent)) (cond off (refusal 24) (cond bad (refusal 25) (refusal 0)))
      (own_refusal s lent)
  unfolding cursor_refusal cursor_table first_or
  refusal-by = own_first s lent _

  refusing : (r : Refusal) → cursor_refusal s lent index c ≡ r → accepted r ≡ false → Err r ≡ cursor_of s lent index c
  unfolding cursor_of
  refusing r q n =
      sym (ap (λ (x : Refusal). answered x (under_at s lent index (the_point_on (shape_in s) c)) (Err x)) q ∙ rw n)

  accepting : cursor_refusal s lent index c ≡ refusal 0
      → under_at s lent index (the_point_on (shape_in s) c) ≡ cursor_of s lent index c
  unfolding cursor_of
  accepting q =
      sym (ap (λ (x : Refusal). answered x (under_at s lent index (the_point_on (shape_in s) c)) (Err x)) q)

  pub own : (r : Refusal) → Err r ≡ header_reply (header_of s lent) → Err r ≡ cursor_of s lent index c
  own r e =
      let f = S.refused s lent r e in
      ap Err f.1 ∙ refusing (own_refusal s lent) (refusal-by ∙ rw f.0) f.0

  module _ (h : Header) (e : Ok h ≡ header_reply (header_of s lent)) where
    took : accepted (own_refusal s lent) ≡ true
    took = S.taken s lent h e

    taken : Taken s lent
    taken = subst T (sym took) tt

    shape_is : shape_of h.grid ≡ shape_in s
    unfolding shape_in
    shape_is = ap shape_of (S.grid-of s lent h e)

    pub outside : (g : Shape) → g ≡ shape_of h.grid → (p : Option GridPoint) → p ≡ pointed g c → p ≡ None
        → (r : Refusal) → r ≡ refusal 24 → Err r ≡ cursor_of s lent index c
    outside g eg p ep o r q =
        let there : pointed (shape_in s) c ≡ None =
        ap (λ (x : Shape). pointed x c) (sym (eg ∙ shape_is)) ∙ sym ep ∙ o in
        ap Err q ∙ refusing (refusal 24) (refusal-by ∙ rw (took, there)) refl

    module _ (g : Shape) (eg : g ≡ shape_of h.grid) (p : Option GridPoint) (ep : p ≡ pointed g c) (k : GridPoint)
        (o : p ≡ Some k) where
      there : pointed (shape_in s) c ≡ Some k
      there = ap (λ (x : Shape). pointed x c) (sym (eg ∙ shape_is)) ∙ sym ep ∙ o

      below : k.0 < points_in s
      unfolding points_in shape_in
      below = (found (shape_in s) c k there).below

      pub at-point : k.0 < h.points
      at-point = subst (λ (x : ℕ). k.0 < x) (sym (S.points-of s lent h e)) below

      judged-by : (t : Bool) → bad ≡ t → cursor_refusal s lent index c ≡ cond t (refusal 25) (refusal 0)
      judged-by t q = refusal-by ∙ rw (took, there, q)

      point-is : the_point_on (shape_in s) c ≡ k.0
      point-is = (found (shape_in s) c k there).is

      -- what is looked at, by presence as it is defined
      abbrev looked_in : Result (Option ℕ) Refusal
      looked_in =
          looked_at s (present_in s lent) (places_of s).bds.start (packing_in s).bits (points_in s)
          (present_count s lent) index k.0

      value-by : index_bad s lent index k.0 ≡ false → (t : Bool) → eqb (present_in s lent k.0) 1 ≡ t
          → looked_in ≡ under_at s lent index k.0
      unfolding looked_at under_at index_bad
      value-by q true one =
          rw (q, one)
          (ap (λ (x : ℕ). Ok (Some x))
          (value-is s lent taken (cursor_number (present_in s lent) index k.0)
          (number-below (present_in s lent) index (points_in s) (present_count s lent) k.0 below q
          (eqb-true (present_in s lent k.0) 1 one))))
      value-by q false one = rw (q, one) refl

      bad-by : (t : Bool) → index_bad s lent index k.0 ≡ t → looked_in ≡ cursor_of s lent index c
      unfolding looked_at index_bad
      bad-by true q =
          rw q (refusing (refusal 25) (judged-by true (ap (index_bad s lent index) point-is ∙ q)) refl)
      bad-by false q =
          value-by q (eqb (present_in s lent k.0) 1) refl ∙ ap (under_at s lent index) (sym point-is)
          ∙ accepting (judged-by false (ap (index_bad s lent index) point-is ∙ q))

      pub looked : (r : Result (Option ℕ) Refusal)
          → r ≡ looked_at s (held h.bitmap s lent.octets (h.places.bms.start + bms_head))
          h.places.bds.start h.packing.bits h.points h.present index k.0
          → r ≡ cursor_of s lent index c
      unfolding found_in found_by parsed_of
      looked r q =
          q
          ∙ ap
          (λ (x : Header). looked_at s (held x.bitmap s lent.octets (x.places.bms.start + bms_head))
          x.places.bds.start x.packing.bits x.points x.present index k.0)
          (S.said s lent h e)
          ∙ looked_ext s index _ _ _ _ k.0 _ (present_in s lent) below (held_in s lent)
          ∙ bad-by (index_bad s lent index k.0) refl

-- filling: the answer, and the list afterwards
module _ (s : List ℕ) (lent : Lent) (index : List ℕ) where
  abbrev pub Filled : Result ℕ Refusal → List ℕ → Type 0
  Filled a x = (a ≡ entries_reply (index_of s lent index)) × (x ≡ the_index_after s lent index)

  abbrev short : Bool
  short = ltb (length index) (the_groups_for (points_in s))

  index-by : (t : Bool) → short ≡ t
      → index_refusal s lent index
      ≡ cond (accepted (own_refusal s lent)) (cond t (refusal 14) (refusal 0)) (own_refusal s lent)
  unfolding index_refusal index_table
  index-by t e =
      one_more s lent 14 short
      ∙ ap (λ (x : Bool). cond (accepted (own_refusal s lent)) (cond x (refusal 14) (refusal 0)) (own_refusal s lent)) e

  unchanged : (r : Refusal) → index_refusal s lent index ≡ r → accepted r ≡ false → Filled (Err r) index
  unfolding index_of the_index_after filled
  unchanged r e n = (
    sym (ap (λ (x : Refusal). cond (accepted x) (Ok (answered x (the_groups_for (points_in s)) 0)) (Err x)) e ∙ rw n),
    sym (ap (λ (x : Refusal). filled x (entries_in s lent) index) e ∙ rw n),
  )

  pub own_unfilled : (r : Refusal) → Err r ≡ header_reply (header_of s lent) → Filled (Err r) index
  own_unfilled r e =
      let f = S.refused s lent r e in
      let own : index_refusal s lent index ≡ own_refusal s lent = index-by short refl ∙ rw f.0 in
      let u = unchanged (own_refusal s lent) own f.0 in
      (ap Err f.1 ∙ u.0, u.1)

  module _ (h : Header) (e : Ok h ≡ header_reply (header_of s lent)) (k : ℕ) (ek : k ≡ the_groups_for h.points) where
    count-is : k ≡ the_groups_for (points_in s)
    count-is = ek ∙ ap the_groups_for (S.points-of s lent h e)

    index_is : (t : Bool) → ltb (length index) k ≡ t → index_refusal s lent index ≡ cond t (refusal 14) (refusal 0)
    index_is t q =
        index-by t (ap (ltb (length index)) (sym count-is) ∙ q) ∙ rw (S.taken s lent h e)

    pub too_short : (r : Refusal) → reply_is (Err r) (refusal 14) (ltb (length index) k) → Filled (Err r) index
    too_short r q =
        let f = stopped-as (ltb (length index) k) (refusal 14) r q in
        let u = unchanged (refusal 14) (index_is true f.0) refl in
        (ap Err f.1 ∙ u.0, u.1)

    pub fits : (v : Unit {0}) → reply_is (Ok v) (refusal 14) (ltb (length index) k) → k ≤ length index
    fits v q = ltb-false (length index) k (passed_as (ltb (length index) k) (refusal 14) v q)

    -- a message's groups are few
    pub few : k < 2 ^ 24
    unfolding the_groups_for points_in
    few =
        omega (
          arith,
          count-is,
          grid-points (grid_or_zeros (grid_of s)) (judged s lent (subst T (sym (S.taken s lent h e)) tt)).grid,
        )

    abbrev entries_by : Header → List ℕ
    entries_by x = tab (ones_before (held x.bitmap s lent.octets (x.places.bms.start + bms_head))) k

    before-is : (g : ℕ) → g < k
        → ones_before (held (bitmap_in s) s lent.octets ((places_of s).bms.start + bms_head)) g
        ≡ ones_before (present_in s lent) g
    unfolding ones_before the_groups_for
    before-is g l =
        count_ext _ (present_in s lent) 0 0 (g * 256)
        (λ j i. held_in s lent (0 + j) (omega (arith, count-is)))

    entries_are : entries_by h ≡ entries_in s lent
    unfolding found_in found_by parsed_of entries_in
    entries_are =
        ap entries_by (S.said s lent h e) ∙ tab_ext _ (ones_before (present_in s lent)) k before-is
        ∙ ap (tab (ones_before (present_in s lent))) count-is

    pub all-filled : k ≤ length index → (x : List ℕ) → x ≡ entries_by h ++ drop k index → Filled (Ok k) x
    unfolding index_of the_index_after filled entries_in
    all-filled l x q =
        let n = index_is false (le-ltb (length index) k l) in (
          ap Ok count-is
              ∙ sym (ap (λ (y : Refusal). cond (accepted y) (Ok (answered y (the_groups_for (points_in s)) 0)) (Err y)) n),
          q ∙ ap (λ (ys : List ℕ). ys ++ drop k index) entries_are
              ∙ ap (λ (j : ℕ). entries_in s lent ++ drop j index)
              (count-is ∙ sym (length-tab (ones_before (present_in s lent)) (the_groups_for (points_in s))))
              ∙ sym (ap (λ (y : Refusal). filled y (entries_in s lent) index) n),
        )
