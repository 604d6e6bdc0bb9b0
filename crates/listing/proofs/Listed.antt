-- What `list` writes is the listing: of an input too long, of one that is refused, and of one that is taken, whose
-- lists say what the message says at every point of the chart. By the definition's cases and the agreement of lists
-- below n.
use mathlib.Core.Path.{◌≡◌, refl, sym, ap, ap₂, ◌∙◌, subst}
use mathlib.Core.Bool.{Bool, true, false, ◌||◌, cond}
use mathlib.Core.List.{List, [], ◌∷◌, ◌++◌, append_assoc}
use Prim.Native.Nat.{ℕ, zero, suc, ◌≤◌, ◌<◌}
use native.Mathlib.Nat.{zero-add}
use native.Mathlib.Omega.{arith}
use borrow.Author.Tests.{lt-ltb, le-ltb, ltb-false, eq-eqb, ne_eqb, eqb-true}
use lib.Dec.{T, ltb, eqb}
use lib.ListN.{length, get_or, drop, length-append, length-drop, get_or-append}
use Rattle.bits.specs.Bits.{placed}
use Rattle.bits.specs.Tables.{tab}
use Rattle.bits.proofs.Fill.{length-tab, get_or-tab}
use Rattle.bits.proofs.Placing.{placed-none, placed-front}
use Rattle.message.proofs.Stages.{one_more}
use Rattle.message.proofs.Said.{refused-as, taken-as}
use Rattle.message.proofs.Laws.{by-refusal}
use Rattle.std.specs.Prelude.{Ok, Err}
use Rattle.laws.proofs.Judged.{read-zero}
use Rattle.rules.specs.declared.{Refusal.Refusal, Shape.Shape}
use Rattle.rules.specs.declared.{Header.Header as Said}
use Rattle.rules.specs.Answers.{said_by, header_reply, replied}
use Rattle.rules.specs.Bounds.{listed_most, listed_room}
use Rattle.rules.specs.Table.{row, refusal, first_or, first, accepted, filled}
use Rattle.rules.specs.Grid.{shape_of, points_of}
use Rattle.rules.specs.Bitmap.{Lent, mark_of, value_of}
use Rattle.rules.specs.Points.{scattered}
use Rattle.rules.specs.Chart.{the_points_on, the_rows_on, the_row_long, the_columns_on, the_point_on}
use Rattle.rules.specs.Reading.{points_in, present_in, values_in, marks_in, parsed_of, found_by, found_in, answer_by}
use Rattle.rules.specs.Reading.{own_refusal, message_table, read_table, read_refusal, read_of, the_values_after, the_marks_after}
use Rattle.rules.specs.Listing.{no_store, decimal, hyphen, cell, stop, ended, line, joined_to, row_line, row_lines}
use Rattle.rules.specs.Listing.{the_first_line, refused_line, listing_refusal, listing_of}
use Rattle.listing.specs.Text.{Wrote, counts, scales, text_room, listed}
use Rattle.laws.proofs.Charts.{point-lt}

-- what is written is what is answered
pub answered : (s t u : List ℕ) (r : ℕ) (w : List ℕ) → Wrote t u 0 r w → listed s t ≡ w
    → (r ≡ length (listed s t)) × (u ≡ placed t 0 (listed s t))
answered s t u r w a e = (a.place ∙ zero-add (length w) ∙ ap length (sym e), a.text ∙ ap (placed t 0) (sym e))

pub too_short : (s t : List ℕ) → length t < text_room → (0 ≡ length (listed s t)) × (t ≡ placed t 0 (listed s t))
unfolding listed
too_short s t h = rw (lt-ltb (length t) text_room h) (refl, sym (placed-none t 0))

-- the first line in two halves
pub first_done : (t u : List ℕ) (r : ℕ) (h : Said) (g : Shape) (columns rows : ℕ) → g ≡ shape_of h.grid
    → columns ≡ the_columns_on g → rows ≡ the_rows_on g
    → Wrote t u 0 r
    (counts h.points h.present columns rows
    ++ scales h.d.value h.scale.e.value h.scale.r h.packing.bits)
    → Wrote t u 0 r (the_first_line h)
unfolding the_first_line line joined_to
first_done t u r h g columns rows eg ec er a =
    subst (λ (x : List ℕ). Wrote t u 0 r x) (simp append_assoc)
    (subst (λ (x : ℕ). Wrote t u 0 r
    (counts h.points h.present (the_columns_on (shape_of h.grid)) x
    ++ scales h.d.value h.scale.e.value h.scale.r h.packing.bits))
    (er ∙ ap (λ (x : Shape). the_rows_on x) eg)
    (subst (λ (x : ℕ). Wrote t u 0 r
    (counts h.points h.present x rows
    ++ scales h.d.value h.scale.e.value h.scale.r h.packing.bits))
    (ec ∙ ap (λ (x : Shape). the_columns_on x) eg) a))

-- a text with room
roomy : (s t : List ℕ) → text_room ≤ length t → listed s t ≡ listing_of s
unfolding listed
roomy s t h = rw (le-ltb (length t) text_room h)

pub too_long : (s t : List ℕ) → text_room ≤ length t → listed_most < length s → listed s t ≡ refused_line 1
unfolding listing_of listing_refusal first_or
too_long s t h l = roomy s t h ∙ rw (lt-ltb listed_most (length s) l)

-- parts that agree
joined_ext : (v w : ℕ → List ℕ) (n : ℕ) → ((j : ℕ) → j < n → v j ≡ w j) → joined_to v n ≡ joined_to w n
unfolding joined_to
joined_ext v w zero e = refl
joined_ext v w (suc n) e =
    ap₂ (λ (x y : List ℕ). x ++ y) (joined_ext v w n (λ j l. e j (omega arith))) (e n (omega arith))

rows_ext : (f h : ℕ → ℕ) (x y : List ℕ) (g : Shape) → ((i : ℕ) → i < the_points_on g → f i ≡ h i)
    → ((i : ℕ) → i < the_points_on g → value_of x i ≡ value_of y i)
    → row_lines f x g ≡ row_lines h y g
unfolding row_lines row_line line cell
rows_ext f h x y g e d =
    joined_ext (row_line f x g) (row_line h y g) (the_rows_on g)
    (λ r lr. joined_ext _ _ (the_row_long g r)
    (λ c lc.
    let p = the_point_on g (record { row = r; column = c }) in
    let l = point-lt g (record { row = r; column = c }) lr lc in
    ap₂ (λ (a b : ℕ). ended (cond (eqb a 1) (decimal b) (hyphen ∷ [])) (stop (the_row_long g r) c)) (e p l) (d p l)))

-- lists of as many elements
same-room : (s : List ℕ) (lent : Lent) (a b c d : List ℕ) → length a ≡ length c → length b ≡ length d
    → read_refusal s lent a b ≡ read_refusal s lent c d
unfolding read_refusal read_table
same-room s lent a b c d e f =
    ap₂ (λ (x y : ℕ). first (message_table s lent ++ (row 14 (ltb x (points_in s) || ltb y (points_in s)) ∷ []))) e f

-- the points of a message that is read fit the lists
fits : (own : Refusal) (b t : Bool) → accepted own ≡ b → (cond b (cond t (refusal 14) (refusal 0)) own).number ≡ 0
    → t ≡ false
fits own true true e h = absurd (subst T (sym (eq-eqb 14 0 h)) tt)
fits own true false e h = refl
fits own false t e h = absurd (subst T (sym (eq-eqb own.number 0 h) ∙ e) tt)

or_first : (a b : Bool) → (a || b) ≡ false → a ≡ false
or_first true b e = e
or_first false b e = refl

points-fit : (s : List ℕ) (lent : Lent) (a b : List ℕ) → (read_refusal s lent a b).number ≡ 0 → points_in s ≤ length a
unfolding read_refusal read_table
points-fit s lent a b h =
    let t = ltb (length a) (points_in s) || ltb (length b) (points_in s) in
    let z = ap (λ (x : Refusal). x.number) (sym (one_more s lent 14 t)) ∙ h in
    ltb-false (length a) (points_in s)
    (or_first _ (ltb (length b) (points_in s)) (fits (own_refusal s lent) (accepted (own_refusal s lent)) t refl z))

module _ (s a b : List ℕ) (size : length s ≤ listed_most) (la : length a ≡ listed_room) (lb : length b ≡ listed_room) where
  whole : read_refusal s no_store a b ≡ listing_refusal s
  unfolding listing_refusal first_or
  whole =
      same-room s no_store a b (tab (λ _. 0) listed_room) (tab (λ _. 0) listed_room)
      (la ∙ sym (length-tab (λ _. 0) listed_room)) (lb ∙ sym (length-tab (λ _. 0) listed_room))
      ∙ sym (rw (le-ltb listed_most (length s) size))

  by : header_reply (read_of s no_store a b) ≡ replied (listing_refusal s) (said_by (found_in s no_store))
  unfolding read_of
  by =
      by-refusal s no_store (read_refusal s no_store a b) (read-zero s no_store a b)
      ∙ ap (λ (x : Refusal). replied x (said_by (found_in s no_store))) whole

  pub refused-is : (t : List ℕ) → text_room ≤ length t → (r : Refusal) → Err r ≡ header_reply (read_of s no_store a b)
      → listed s t ≡ refused_line r.number
  unfolding listing_of
  refused-is t room r e =
      let f = refused-as (accepted (listing_refusal s)) r (listing_refusal s) (said_by (found_in s no_store)) (e ∙ by) in
      roomy s t room ∙ rw f.0 (ap (λ (x : Refusal). refused_line x.number) (sym f.1))

  module _ (h : Said) (e : Ok h ≡ header_reply (read_of s no_store a b)) where
    both : (accepted (listing_refusal s) ≡ true) × (h ≡ said_by (found_in s no_store))
    both = taken-as (accepted (listing_refusal s)) (listing_refusal s) (said_by (found_in s no_store)) h (e ∙ by)

    taken : accepted (read_refusal s no_store a b) ≡ true
    taken = ap accepted whole ∙ both.0

    said : h ≡ said_by (found_in s no_store)
    said = both.1

    few : points_in s ≤ listed_room
    few = subst (λ (x : ℕ). points_in s ≤ x) la (points-fit s no_store a b (eqb-true _ _ taken))

    points-of : points_of h.grid ≡ points_in s
    unfolding found_in found_by parsed_of points_in
    points-of = ap (λ (x : Said). points_of x.grid) said

    listing_taken : accepted (listing_refusal s) ≡ true
    listing_taken = both.0

    marks-at : (i : ℕ) → i < points_in s → get_or (marks_in s no_store) i 0 ≡ present_in s no_store i
    unfolding marks_in
    marks-at i l = get_or-tab (present_in s no_store) (points_in s) i 0 l

    marks-long : (i : ℕ) → i < points_in s → i < length (marks_in s no_store)
    unfolding marks_in
    marks-long i l = rw length-tab l

    values-long : (i : ℕ) → i < points_in s → i < length (values_in s no_store)
    unfolding values_in scattered
    values-long i l = rw length-tab l

    module _ (v m : List ℕ) (ev : v ≡ the_values_after s no_store a b) (em : m ≡ the_marks_after s no_store a b) where
      values_are : v ≡ values_in s no_store ++ drop (length (values_in s no_store)) a
      unfolding the_values_after filled
      values_are = ev ∙ rw taken

      marks_are : m ≡ marks_in s no_store ++ drop (length (marks_in s no_store)) b
      unfolding the_marks_after filled
      marks_are = em ∙ rw taken

      pub lists-fit : (points_of h.grid ≤ listed_room) × (listed_room ≤ length v)
      unfolding values_in scattered
      lists-fit =
          let n = few in (
            omega (arith, points-of),
            rw values_are (simp (length-append, length-drop, length-tab) (omega arith)),
          )

      pub listed-is : (t : List ℕ) → text_room ≤ length t
          → listed s t ≡ the_first_line h ++ row_lines (mark_of m) v (shape_of h.grid)
      unfolding listing_of
      listed-is t room =
          let g = shape_of h.grid in
          let n = points-of in
          roomy s t room ∙ rw listing_taken
          (ap (λ (x : Said). the_first_line x ++ row_lines (present_in s no_store) (values_in s no_store) (shape_of x.grid))
          (sym said)
          ∙ ap (λ (x : List ℕ). the_first_line h ++ x)
          (rows_ext (present_in s no_store) (mark_of m) (values_in s no_store) v g
          (λ i l. sym
          (ap (λ (x : List ℕ). get_or x i 0) marks_are
          ∙ get_or-append (marks_in s no_store) _ 0 i (marks-long i (omega arith)) ∙ marks-at i (omega arith)))
          (λ i l. sym
          (ap (λ (x : List ℕ). get_or x i 0) values_are
          ∙ get_or-append (values_in s no_store) _ 0 i (values-long i (omega arith))))))

-- what was put at the front of a text is no longer than the text afterwards
pub within : (t u p : List ℕ) (r : ℕ) → r ≡ length p → u ≡ placed t 0 p → r ≤ length u
within t u p r e f = rw (f, placed-front, length-append) (omega arith)
