-- Document 00, demand 1, and document 01, "How tight the contracts are": every input gets one definite reply, and a
-- refusal changes nothing.
use Rattle.std.specs.Prelude.{ℕ, ◌<◌, ◌≡◌, ◌⊎◌, true, false, cond, List, [], ◌∷◌, ◌++◌, T, eqb, length, take, drop, Err}
use Rattle.std.specs.Float.{binary64}
use Rattle.std.specs.Float.Ieee.{of_bits}
use Rattle.rules.specs.declared.{Refusal.Refusal, Form.Form, Spot.Spot}
use Rattle.rules.specs.Table.{Row, given, refusal, accepted, first, filled}
use Rattle.rules.specs.Bitmap.{Lent, no_bitmap}
use Rattle.rules.specs.Points.{the_data_number, outside}
use Rattle.rules.specs.Reading.{message_table, own_refusal, found_in, refused_by, header_of, read_table, read_refusal, read_of}
use Rattle.rules.specs.Reading.{the_scale_in, in_force_in, bitmap_of, present_in, points_in, numbering_of}
use Rattle.rules.specs.Chart.{the_point_on}
use Rattle.rules.specs.Cursor.{the_groups_for, index_table, index_refusal, index_of, shape_in, cursor_table, cursor_refusal}
use Rattle.rules.specs.Cursor.{under_at, cursor_of}
use Rattle.rules.specs.Display.{display_table, display_of, shown_reference, shown_step}
use Rattle.rules.specs.Writing.{Parts, message, write_table, write_refusal, write_of, length_of}
use Rattle.rules.specs.Checking.{Source, check_table}
use Rattle.rules.specs.Packing.{packed_parts, pack_table, pack_refusal, pack_of}
use Rattle.laws.specs.Tables.{Clear}

-- r is the reply of the first row that applies
pub record Stops (rows : List Row) (r : Refusal) : Type 0 where
  pub above : List Row
  pub below : List Row
  pub clear : Clear above
  pub here : rows ≡ above ++ (given r true ∷ below)

-- "The first that applies in number order is given": of any table whose rows are in that order. "0 is acceptance"
abbrev pub RefusalFirst : Type 0
RefusalFirst = (rows : List Row) → (Clear rows × (first rows ≡ refusal 0)) ⊎ Stops rows (first rows)

-- the numbers of a table's rows; one of a list of numbers
abbrev pub numbers : List Row → List ℕ
numbers [] = []
numbers (given r test ∷ rows) = r.number ∷ numbers rows

abbrev pub Among : ℕ → List ℕ → Type 0
Among n [] = ⊥
Among n (x ∷ xs) = (n ≡ x) ⊎ Among n xs

-- "refused with a number fixed by the rules": acceptance, or the number of one of the rows
abbrev pub ReplyAmong : Type 0
ReplyAmong = (rows : List Row) → Among (first rows).number (0 ∷ numbers rows)

-- the rows at one section of the walk (R-2): "a length whose own octets don't fit is 22", and 20 to 22
abbrev pub section_numbers : List ℕ
section_numbers = 22 ∷ 20 ∷ 21 ∷ 22 ∷ []

-- the reader's rows are 1 to 12, with the walk's 20 to 23 "section by section from the front, where 5 stood"; R-6: "the
-- message's own, then 24 for a place outside the chart, then 25", and filling an index "14 if too short"; "Checker:
-- 1 to 12, then 18, 15, 16, 17"; "The writer never gives 1 to 4, 8 or 12"; "Packer: 5, 18, 15 .., 11, 19, then the rest
-- of the writer's"
pub record RowNumbers : Type 0 where
  pub reader : (s : List ℕ) (lent : Lent)
      → numbers (message_table s lent) ≡ 1 ∷ 2 ∷ 3 ∷ 4
      ∷ section_numbers ++ (section_numbers ++ (section_numbers ++ (section_numbers
      ++ (23 ∷ 6 ∷ 7 ∷ 8 ∷ 9 ∷ 10 ∷ 11 ∷ 12 ∷ []))))
  pub lists : (s : List ℕ) (lent : Lent) (values marks : List ℕ)
      → numbers (read_table s lent values marks) ≡ numbers (message_table s lent) ++ (14 ∷ [])
  pub display : (s : List ℕ) (lent : Lent) → numbers (display_table s lent) ≡ numbers (message_table s lent) ++ (16 ∷ [])
  pub index : (s : List ℕ) (lent : Lent) (index : List ℕ)
      → numbers (index_table s lent index) ≡ numbers (message_table s lent) ++ (14 ∷ [])
  pub cursor : (s : List ℕ) (lent : Lent) (index : List ℕ) (c : Spot)
      → numbers (cursor_table s lent index c) ≡ numbers (message_table s lent) ++ (24 ∷ 25 ∷ [])
  pub checker : (s : List ℕ) (lent : Lent) (f : Source)
      → numbers (check_table s lent f) ≡ numbers (message_table s lent) ++ (18 ∷ 15 ∷ 16 ∷ 17 ∷ [])
  pub writer : (w : Parts) (out : List ℕ) → numbers (write_table w out) ≡ 5 ∷ 6 ∷ 7 ∷ 9 ∷ 10 ∷ 11 ∷ 13 ∷ 14 ∷ []
  pub packer : (pds : List ℕ) (form : Form) (lent : Lent) (f : Source) (out : List ℕ)
      → numbers (pack_table pds form lent f out) ≡ 5 ∷ 18 ∷ 15 ∷ 11 ∷ 19
      ∷ numbers (write_table (packed_parts pds form lent f) out)

-- the packer's own 5 and 11 have passed where "the rest of the writer's" are asked, so that the writer's never apply:
-- the packer replies by a table in which each number stands once
abbrev pub without : ℕ → List Row → List Row
without n [] = []
without n (given r test ∷ rows) = cond (eqb r.number n) (without n rows) (given r test ∷ without n rows)

abbrev pub once_table : List ℕ → Form → Lent → Source → List ℕ → List Row
once_table pds form lent f out =
    take 5 (pack_table pds form lent f out) ++ without 5 (without 11 (write_table (packed_parts pds form lent f) out))

abbrev pub PackerOnce : Type 0
PackerOnce =
    (pds : List ℕ) (form : Form) (lent : Lent) (f : Source) (out : List ℕ)
    → (pack_refusal pds form lent f out ≡ first (once_table pds form lent f out))
    × (numbers (once_table pds form lent f out) ≡ 5 ∷ 18 ∷ 15 ∷ 11 ∷ 19 ∷ 6 ∷ 7 ∷ 9 ∷ 10 ∷ 13 ∷ 14 ∷ [])

-- "A message is either taken whole or refused with a number": what is answered is all that was found, with reply 0, or
-- with another reply zeros
abbrev pub Whole : {A : Type 0} → Refusal → A → A → A → Type 0
Whole r found zeros answer = ((r ≡ refusal 0) × (answer ≡ found)) ⊎ ((0 < r.number) × (answer ≡ zeros))

-- "Every other reply returns its number with all counts and fields zero", whatever was asked for
pub record TakenOrRefused : Type 0 where
  pub header : (s : List ℕ) (lent : Lent)
      → Whole (own_refusal s lent) (found_in s lent) (refused_by (own_refusal s lent)) (header_of s lent)
  pub read : (s : List ℕ) (lent : Lent) (values marks : List ℕ)
      → let r = read_refusal s lent values marks in
      Whole r (found_in s lent) (refused_by r) (read_of s lent values marks)
  pub display : (s : List ℕ) (lent : Lent)
      → let r = first (display_table s lent) in
      Whole r (record { refusal = r; reference = shown_reference (the_scale_in s).r; step = shown_step (the_scale_in s).e.value }) (record { refusal = r; reference = of_bits binary64 0; step = of_bits binary64 0 }) (display_of s lent)
  pub bitmap : (s : List ℕ) (lent : Lent) → Whole (own_refusal s lent) (in_force_in s) no_bitmap (bitmap_of s lent)
  pub number : (s : List ℕ) (lent : Lent) (i : ℕ)
      → Whole (own_refusal s lent) (the_data_number (present_in s lent) (points_in s) i) outside (numbering_of s lent i)
  pub index : (s : List ℕ) (lent : Lent) (index : List ℕ)
      → ((index_of s lent index).refusal ≡ index_refusal s lent index)
      × Whole (index_refusal s lent index) (the_groups_for (points_in s)) 0 (index_of s lent index).entries
  pub cursor : (s : List ℕ) (lent : Lent) (index : List ℕ) (c : Spot)
      → let r = cursor_refusal s lent index c in
      Whole r (under_at s lent index (the_point_on (shape_in s) c)) (Err r) (cursor_of s lent index c)
  pub write : (w : Parts) (out : List ℕ)
      → ((write_of w out).refusal ≡ write_refusal w out)
      × Whole (write_refusal w out) (length (message w)) 0 (write_of w out).len
  pub pack : (pds : List ℕ) (form : Form) (lent : Lent) (f : Source) (out : List ℕ)
      → let r = pack_refusal pds form lent f out in
      ((pack_of pds form lent f out).refusal ≡ r)
      × Whole r (length (message (packed_parts pds form lent f))) 0 (pack_of pds form lent f out).len

-- "and no lent element changes", whatever would have been written
abbrev pub RefusalKeeps : Type 0
RefusalKeeps = (r : Refusal) (front lent : List ℕ) → accepted r ≡ false → filled r front lent ≡ lent

-- "elements after n stay", "Writing fills the message's octets; later ones stay": of an accepted call the front of a
-- lent list is what was to be written, and the rest is as it was
pub record Filled (r : Refusal) (front lent : List ℕ) : Type 0 where
  pub written : take (length front) (filled r front lent) ≡ front
  pub kept : drop (length front) (filled r front lent) ≡ drop (length front) lent
  pub len : (length_of r front).len ≡ length front

abbrev pub AcceptedFills : Type 0
AcceptedFills = (r : Refusal) (front lent : List ℕ) → T (accepted r) → Filled r front lent
