-- Document 02, R-6: what the cursor answers, beside a full read, and from any index that is not refused.
use Rattle.std.specs.Prelude.{ℕ, ◌+◌, ◌<◌, ◌≤◌, ◌≡◌, cond, List, T, eqb, length, get_or, Err, None, Ok, Option, Result, Some}
use Rattle.rules.specs.declared.{Spot.Spot, GridPoint.GridPoint, Refusal.Refusal}
use Rattle.rules.specs.Table.{refusal, accepted}
use Rattle.rules.specs.Chart.{the_point_on, pointed}
use Rattle.rules.specs.Bitmap.{Lent, mark_of, value_of}
use Rattle.rules.specs.Reading.{points_in, present_in, present_count, packing_in, data_in, read_refusal, the_values_after}
use Rattle.rules.specs.Reading.{the_marks_after}
use Rattle.rules.specs.Cursor.{the_groups_for, group_of, ones_up_to, index_refusal, the_index_after, entry_of, shape_in, cursor_refusal}
use Rattle.rules.specs.Cursor.{cursor_of}
use Rattle.theorems.specs.Reads.{StandsAt}

-- what lists that a full read left give at a place of the chart: the value of its point, or that its mark is 0; a place
-- outside has none
abbrev pub read_at : List ℕ → List ℕ → Option GridPoint → Result (Option ℕ) Refusal
read_at values marks (Some k) = cond (eqb (mark_of marks k.0) 1) (Ok (Some (value_of values k.0))) (Ok None)
read_at values marks None = Err (refusal 24)

-- "The answer must equal what a full read gives there, for any accepted message and an index filled from it": whatever
-- the lent lists held, at every place inside the chart and outside. So an index filled from the message is never 25
abbrev pub CursorReads : Type 0
CursorReads =
    (s : List ℕ) (lent : Lent) (index values marks : List ℕ) → T (accepted (index_refusal s lent index))
    → T (accepted (read_refusal s lent values marks)) → (c : Spot)
    → cursor_of s lent (the_index_after s lent index) c
    ≡ read_at (the_values_after s lent values marks) (the_marks_after s lent values marks) (pointed (shape_in s) c)

-- "From any index that isn't refused, the value is the one whose data number is its group's entry plus the ones before
-- the place in that group": there is such a value among the m, and its bits lie in the data section
pub record FromIndex (s : List ℕ) (lent : Lent) (index : List ℕ) (c : Spot) (i : ℕ) : Type 0 where
  pub place : pointed (shape_in s) c ≡ Some (record { 0 = i })
  pub below : i < points_in s
  pub bit : present_in s lent i < 2
  pub here : present_in s lent i ≡ 1
      → let k = entry_of index (group_of i) + ones_up_to (present_in s lent) i in
      (k < present_count s lent) × (cursor_of s lent index c ≡ (Ok (Some (get_or (data_in s lent) k 0))))
      × StandsAt s lent k (packing_in s).bits
  pub away : present_in s lent i ≡ 0 → cursor_of s lent index c ≡ (Ok None)

abbrev pub CursorFromIndex : Type 0
CursorFromIndex =
    (s : List ℕ) (lent : Lent) (index : List ℕ) (c : Spot) → T (accepted (cursor_refusal s lent index c))
    → FromIndex s lent index c (the_point_on (shape_in s) c)

-- 25 asks for the place's own group alone: of two indexes with no fewer entries than groups, whose entries of that
-- group and of the next one, where there is one, are the same, the answers are the same, whatever else they hold
abbrev pub CursorAsksGroup : Type 0
CursorAsksGroup =
    (s : List ℕ) (lent : Lent) (index other : List ℕ) (c : Spot)
    → let groups = the_groups_for (points_in s) in
    let g = group_of (the_point_on (shape_in s) c) in
    groups ≤ length index → groups ≤ length other → entry_of index g ≡ entry_of other g
    → (g + 1 < groups → entry_of index (g + 1) ≡ entry_of other (g + 1))
    → cursor_of s lent index c ≡ cursor_of s lent other c
