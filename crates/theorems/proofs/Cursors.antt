-- R-6: an index filled from a message is not refused, and its entry plus the ones before a place is the count of ones
-- before it; from any index, what is left by passing 25. By the definitions and the laws of counts that join.
use Rattle.std.specs.Prelude.{Err, None, Ok, Option, Result, Some}
use Prim.Native.Nat.{ℕ, ◌+◌, ◌-◌, ◌*◌, ◌%◌, ◌<◌, ◌≤◌}
use mathlib.Core.Path.{◌≡◌, refl, sym, ap, ap₂, ◌∙◌}
use mathlib.Core.Bool.{Bool, true, false, not, cond}
use mathlib.Core.List.{List, [], ◌∷◌, ◌++◌}
use native.Mathlib.Nat.{zero-add}
use native.Mathlib.Omega.{arith}
use borrow.Author.Tests.{le-ltb, ltb-true, ltb-false, eq-eqb, ne_eqb, eqb-true}
use lib.Dec.{T, ltb, eqb}
use lib.ListN.{length, get_or, drop, length-append}
use Rattle.bits.specs.Bits.{count}
use Rattle.bits.specs.Tables.{tab}
use Rattle.bits.proofs.Fill.{length-tab}
use Rattle.bits.proofs.Ones.{count-split, count_mono}
use Rattle.rules.specs.declared.{Refusal.Refusal, Spot.Spot, GridPoint.GridPoint}
use Rattle.rules.specs.Table.{Row, row, refusal, accepted, answered, any_of, first_or, first, filled}
use Rattle.rules.specs.Chart.{the_point_on, pointed}
use Rattle.rules.specs.Bitmap.{Lent, mark_of, value_of, bitmap_octets}
use Rattle.rules.specs.Reading.{message_table, own_refusal, bitmap_in, in_force_in, points_in, present_in, present_count}
use Rattle.rules.specs.Reading.{data_in, read_refusal, the_values_after, the_marks_after}
use Rattle.rules.specs.Cursor.{the_groups_for, group_of, the_group_size, ones_before, ones_in, ones_up_to, entries_in, index_table}
use Rattle.rules.specs.Cursor.{index_refusal, the_index_after, entry_of, the_next_entry, index_faults, index_bad, shape_in, off_chart}
use Rattle.rules.specs.Cursor.{cursor_table, cursor_refusal, cursor_number, under_at, cursor_of}
use Rattle.laws.specs.Taken.{Taken}
use Rattle.laws.specs.Tables.{Clear}
use Rattle.laws.proofs.Rows.{clear, clear-parts, accepts, first-after, numbered-append, taken-by, any_none, not_eq}
use Rattle.laws.proofs.Rows.{is_true, clash}
use Rattle.laws.proofs.Judged.{own-numbered, rows}
use Rattle.laws.proofs.Charts.{Found, found}
use Rattle.laws.proofs.Cursors.{full, rest, in_group, number-below}
use Rattle.theorems.specs.Cursors.{read_at, CursorReads, CursorFromIndex, CursorAsksGroup}
use Rattle.theorems.proofs.Lists.{filled_at}
use Rattle.theorems.proofs.Points.{value-at-point, packed_simply}
use Rattle.theorems.proofs.BitmapSection.{present-bits}

-- a message whose index is filled, or whose cursor is not refused, is taken
index-taken : (s : List ℕ) (lent : Lent) (index : List ℕ) → T (accepted (index_refusal s lent index)) → Taken s lent
unfolding own_refusal index_refusal index_table
index-taken s lent index t =
    let h = clear (index_table s lent index) (numbered-append (message_table s lent) _ (own-numbered s lent) tt) t in
    taken-by _ (accepts (message_table s lent) (clear-parts (message_table s lent) _ h).0)

-- of a taken message the cursor's own rows decide
module _ (s : List ℕ) (lent : Lent) (t : Taken s lent) (index : List ℕ) (c : Spot) where
  abbrev off : Bool
  off = off_chart (pointed (shape_in s) c)

  abbrev bad : Bool
  bad = index_bad s lent index (the_point_on (shape_in s) c)

  by_rows : cursor_refusal s lent index c ≡ cond off (refusal 24) (cond bad (refusal 25) (refusal 0))
  unfolding cursor_refusal cursor_table first first_or
  by_rows = first-after (message_table s lent) (row 24 off ∷ row 25 bad ∷ []) (rows s lent t)

  abbrev answer : Refusal → Result (Option ℕ) Refusal
  answer r = answered r (under_at s lent index (the_point_on (shape_in s) c)) (Err r)

  by_answer : (r : Refusal) → cursor_refusal s lent index c ≡ r → cursor_of s lent index c ≡ answer r
  unfolding cursor_of
  by_answer r e = ap answer e

  outside : pointed (shape_in s) c ≡ None → cursor_of s lent index c ≡ Err (refusal 24)
  outside e = by_answer (refusal 24) (by_rows ∙ rw e)

  module _ (k : GridPoint) (e : pointed (shape_in s) c ≡ Some k) where
    abbrev here : Found (shape_in s) c k.0
    here = found (shape_in s) c k e

    below : k.0 < points_in s
    unfolding points_in shape_in
    below = here.below

    inside : index_bad s lent index k.0 ≡ false → cursor_of s lent index c ≡ under_at s lent index k.0
    inside q =
        by_answer (refusal 0) (by_rows ∙ rw (e, ap (index_bad s lent index) here.is ∙ q))
        ∙ ap (under_at s lent index) here.is

-- an index that was filled
module _ (s : List ℕ) (lent : Lent) (index : List ℕ) (t : T (accepted (index_refusal s lent index))) where
  abbrev p : ℕ → ℕ
  p = present_in s lent

  abbrev n : ℕ
  n = points_in s

  abbrev x : List ℕ
  x = the_index_after s lent index

  entry-is : (g : ℕ) → g < the_groups_for n → entry_of x g ≡ ones_before p g
  unfolding the_index_after entries_in
  entry-is g l = filled_at (index_refusal s lent index) (ones_before p) (the_groups_for n) index g t l

  long : the_groups_for n ≤ length x
  unfolding the_index_after entries_in filled
  long =
      let front = tab (ones_before p) (the_groups_for n) in
      let e : x ≡ front ++ drop (length front) index =
      ap (λ (b : Bool). cond b (front ++ drop (length front) index) index)
      (is_true (accepted (index_refusal s lent index)) t) in
      omega (
        arith,
        ap length e,
        length-append front (drop (length front) index),
        length-tab (ones_before p) (the_groups_for n),
      )

  -- at a point, of the group that it is in
  module _ (i : ℕ) (l : i < n) where
    abbrev g : ℕ
    g = group_of i

    among : g < the_groups_for n
    unfolding the_groups_for
    among = omega arith

    joined : (k : ℕ) → g * 256 + the_group_size n g ≡ k → ones_before p g + ones_in p n g ≡ count p 0 k
    unfolding ones_before ones_in
    joined k e =
        ap (λ (a : ℕ). count p 0 (g * 256) + count p a (the_group_size n g)) (sym (zero-add (g * 256)))
        ∙ sym (count-split p 0 (g * 256) (the_group_size n g)) ∙ ap (count p 0) e

    -- the next group begins where this one ends; the last one ends with the points
    whole_group : g + 1 < the_groups_for n → g * 256 + the_group_size n g ≡ (g + 1) * 256
    unfolding the_groups_for
    whole_group h = go (ltb 256 (n - g * 256)) refl
      where
        go : (b : Bool) → ltb 256 (n - g * 256) ≡ b → g * 256 + the_group_size n g ≡ (g + 1) * 256
        go true e = omega (arith, full n i (ltb-true 256 (n - g * 256) e))
        go false e = omega (arith, ltb-false 256 (n - g * 256) e)

    last_group : the_groups_for n ≤ g + 1 → g * 256 + the_group_size n g ≡ n
    unfolding the_groups_for
    last_group h = go (ltb 256 (n - g * 256)) refl
      where
        go : (b : Bool) → ltb 256 (n - g * 256) ≡ b → g * 256 + the_group_size n g ≡ n
        go true e = omega (arith, ltb-true 256 (n - g * 256) e)
        go false e = omega (arith, rest n i (ltb-false 256 (n - g * 256) e))

    abbrev m : ℕ
    m = present_count s lent

    next-is : (b : Bool) → ltb (g + 1) (the_groups_for n) ≡ b → entry_of x g + ones_in p n g ≡ the_next_entry x n m g
    unfolding the_next_entry present_count ones_before
    next-is true e =
        let h = ltb-true (g + 1) (the_groups_for n) e in
        rw e (ap (λ (a : ℕ). a + ones_in p n g) (entry-is g among) ∙ joined ((g + 1) * 256) (whole_group h)
        ∙ sym (entry-is (g + 1) h))
    next-is false e =
        rw e (ap (λ (a : ℕ). a + ones_in p n g) (entry-is g among)
        ∙ joined n (last_group (ltb-false (g + 1) (the_groups_for n) e)))

    no_more : entry_of x g + ones_in p n g ≤ m
    unfolding present_count
    no_more =
        let k = g * 256 + the_group_size n g in
        omega (arith, entry-is g among, joined k refl, count_mono p 0 k n (in_group n i l).1)

    fits : index_bad s lent x i ≡ false
    unfolding index_bad index_faults
    fits =
        any_none (index_faults x n m g (ones_in p n g)) (
          le-ltb (length x) (the_groups_for n) long,
          (
            not_eq _ _ (next-is (ltb (g + 1) (the_groups_for n)) refl),
            (le-ltb m (entry_of x g + ones_in p n g) no_more, tt),
          ),
        )

    number_is : cursor_number p x i ≡ count p 0 i
    unfolding cursor_number ones_up_to ones_before
    number_is =
        let e : g * 256 + i % 256 ≡ i = omega arith in
        ap₂ (λ (a b : ℕ). a + count p b (i % 256)) (entry-is g among) (sym (zero-add (g * 256)))
        ∙ sym (count-split p 0 (g * 256) (i % 256)) ∙ ap (count p 0) e

-- beside what a full read left
module _ (s : List ℕ) (lent : Lent) (index values marks : List ℕ) (t : T (accepted (index_refusal s lent index)))
    (r : T (accepted (read_refusal s lent values marks))) where
  given : (i : ℕ) → i < points_in s → (b : Bool) → eqb (present_in s lent i) 1 ≡ b
      → under_at s lent (the_index_after s lent index) i
      ≡ cond (eqb (mark_of (the_marks_after s lent values marks) i) 1) (Ok (Some (value_of (the_values_after s lent values marks) i)))
      (Ok None)
  unfolding under_at
  given i l true e =
      let v = value-at-point s lent values marks r i l in
      let one = eqb-true (present_in s lent i) 1 e in
      rw (v.mark, e)
      (ap (λ (x : ℕ). Ok (Some x)) (ap (λ (k : ℕ). get_or (data_in s lent) k 0) (number_is s lent index t i l) ∙ sym (v.here one).2))
  given i l false e = let v = value-at-point s lent values marks r i l in rw (v.mark, e) refl

  at : (c : Spot) (q : Option GridPoint) → pointed (shape_in s) c ≡ q
      → cursor_of s lent (the_index_after s lent index) c
      ≡ read_at (the_values_after s lent values marks) (the_marks_after s lent values marks) q
  at c (Some k) e =
      let took = index-taken s lent index t in
      let l = below s lent took (the_index_after s lent index) c k e in
      inside s lent took (the_index_after s lent index) c k e (fits s lent index t k.0 l)
      ∙ given k.0 l (eqb (present_in s lent k.0) 1) refl
  at c None e = outside s lent (index-taken s lent index t) (the_index_after s lent index) c e

pub cursor-reads : CursorReads
cursor-reads s lent index values marks t r c = at s lent index values marks t r c (pointed (shape_in s) c) refl

-- from any index
module _ (s : List ℕ) (lent : Lent) (index : List ℕ) (c : Spot) (t : T (accepted (cursor_refusal s lent index c))) where
  abbrev rows_after : List Row
  rows_after =
      row 24 (off_chart (pointed (shape_in s) c)) ∷ row 25 (index_bad s lent index (the_point_on (shape_in s) c)) ∷ []

  passes : Clear (message_table s lent) × Clear rows_after
  unfolding cursor_refusal cursor_table
  passes =
      clear-parts (message_table s lent) rows_after
      (clear (message_table s lent ++ rows_after)
      (numbered-append (message_table s lent) rows_after (own-numbered s lent) tt) t)

  cursor-taken : Taken s lent
  unfolding own_refusal
  cursor-taken = taken-by _ (accepts (message_table s lent) passes.0)

  abbrev i : ℕ
  i = the_point_on (shape_in s) c

  place-by : (q : Option GridPoint) → pointed (shape_in s) c ≡ q → off_chart q ≡ false
      → pointed (shape_in s) c ≡ Some (record { 0 = i })
  place-by (Some k) e h =
      e ∙ ap (λ (x : ℕ). Some (record { 0 = x })) (sym (found (shape_in s) c k e).is)
  place-by None e h = clash true refl h

  place : pointed (shape_in s) c ≡ Some (record { 0 = i })
  place = place-by (pointed (shape_in s) c) refl passes.1.0

  point-below : i < points_in s
  point-below = below s lent cursor-taken index c (record { 0 = i }) place

  says : cursor_of s lent index c ≡ under_at s lent index i
  says = inside s lent cursor-taken index c (record { 0 = i }) place passes.1.1.0

  abbrev k : ℕ
  k = entry_of index (group_of i) + ones_up_to (present_in s lent) i

  number_in : present_in s lent i ≡ 1 → k < present_count s lent
  unfolding index_bad cursor_number
  number_in one =
      number-below (present_in s lent) index (points_in s) (present_count s lent) i point-below passes.1.1.0 one

  value-of : present_in s lent i ≡ 1 → cursor_of s lent index c ≡ (Ok (Some (get_or (data_in s lent) k 0)))
  unfolding under_at cursor_number
  value-of one =
      says ∙ ap (λ (b : Bool). cond b (Ok (Some (get_or (data_in s lent) k 0))) (Ok None)) (eq-eqb (present_in s lent i) 1 one)

  absent-of : present_in s lent i ≡ 0 → cursor_of s lent index c ≡ (Ok None)
  unfolding under_at
  absent-of none =
      says
      ∙ ap (λ (b : Bool). cond b (Ok (Some (get_or (data_in s lent) (cursor_number (present_in s lent) index i) 0))) (Ok None))
      (ne_eqb (present_in s lent i) 1 (λ e. omega arith))

  bit-of : present_in s lent i < 2
  unfolding present_in
  bit-of = present-bits (bitmap_in s) (bitmap_octets s lent.octets (in_force_in s)) i

pub cursor-from-index : CursorFromIndex
cursor-from-index s lent index c t = record {
  place = place s lent index c t;
  below = point-below s lent index c t;
  bit = bit-of s lent index c t;
  here = λ e. (
    number_in s lent index c t e,
    value-of s lent index c t e,
    packed_simply s lent (cursor-taken s lent index c t) _ (number_in s lent index c t e),
  );
  away = absent-of s lent index c t;
}

-- of its own group alone
module _ (s : List ℕ) (lent : Lent) (index other : List ℕ) (i : ℕ) where
  abbrev groups : ℕ
  groups = the_groups_for (points_in s)

  module _ (l : groups ≤ length index) (k : groups ≤ length other)
      (e : entry_of index (group_of i) ≡ entry_of other (group_of i))
      (f : group_of i + 1 < groups → entry_of index (group_of i + 1) ≡ entry_of other (group_of i + 1)) where
    next-same : (b : Bool) → ltb (group_of i + 1) groups ≡ b
        → the_next_entry index (points_in s) (present_count s lent) (group_of i)
        ≡ the_next_entry other (points_in s) (present_count s lent) (group_of i)
    unfolding the_next_entry
    next-same true h = rw h (f (ltb-true (group_of i + 1) groups h))
    next-same false h = rw h refl

    abbrev judged : Bool → ℕ → ℕ → Bool
    judged short a b =
        let sum = a + ones_in (present_in s lent) (points_in s) (group_of i) in
        any_of (short ∷ not (eqb sum b) ∷ ltb (present_count s lent) sum ∷ [])

    bad-same : index_bad s lent index i ≡ index_bad s lent other i
    unfolding index_bad index_faults
    bad-same =
        ap₂ (judged (ltb (length index) groups)) e (next-same (ltb (group_of i + 1) groups) refl)
        ∙ ap (λ (b : Bool). judged b (entry_of other (group_of i))
        (the_next_entry other (points_in s) (present_count s lent) (group_of i)))
        (le-ltb (length index) groups l ∙ sym (le-ltb (length other) groups k))

    under_same : under_at s lent index i ≡ under_at s lent other i
    unfolding under_at cursor_number
    under_same =
        ap
        (λ (a : ℕ). cond (eqb (present_in s lent i) 1)
        (Ok (Some (get_or (data_in s lent) (a + ones_up_to (present_in s lent) i) 0))) (Ok None)) e

pub cursor_asks_group : CursorAsksGroup
unfolding cursor_of cursor_refusal cursor_table
cursor_asks_group s lent index other c l k e f =
    let i = the_point_on (shape_in s) c in
    let same : cursor_refusal s lent index c ≡ cursor_refusal s lent other c =
    ap (λ (b : Bool). first (message_table s lent ++ (row 24 (off_chart (pointed (shape_in s) c)) ∷ row 25 b ∷ [])))
    (bad-same s lent index other i l k e f) in
    ap₂ (λ (r : Refusal) (u : Result (Option ℕ) Refusal). answered r u (Err r)) same (under_same s lent index other i l k e f)
