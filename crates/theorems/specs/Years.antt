-- Document 02, R-3: a time that is taken has one spelling, and what the amended range moves.
use Rattle.std.specs.Prelude.{ℕ, suc, ◌+◌, ◌-◌, ◌/◌, ◌%◌, ◌≤◌, ◌≡◌, ◌↔◌, Bool, true, false, cond, List, [], ◌∷◌, T, ltb, eqb}
use Rattle.rules.specs.declared.{Moment.Moment, Form.Form}
use Rattle.rules.specs.Numbers.{octet, not_within}
use Rattle.rules.specs.Table.{Row, given, accepted, any_of, first}
use Rattle.rules.specs.Places.{pds_start}
use Rattle.rules.specs.Time.{the_year_of, the_days_in, moment_faults, the_moment_at, time_faults}
use Rattle.rules.specs.Bitmap.{Lent}
use Rattle.rules.specs.Reading.{message_table, header_of, read_table}
use Rattle.rules.specs.Display.{display_table}
use Rattle.rules.specs.Writing.{Parts, write_table, write_refusal}
use Rattle.rules.specs.Checking.{Source, check_table}
use Rattle.rules.specs.Packing.{pack_table, pack_refusal}
use Rattle.laws.specs.Taken.{Taken}

-- "Document 003 keeps century 20 until 1 January 2001, so the year of century runs from 1 to 100": the century of a
-- year, and its year of century
abbrev pub century_of : ℕ → ℕ
century_of year = (year - 1) / 100 + 1

abbrev pub century_year_of : ℕ → ℕ
century_year_of year = (year - 1) % 100 + 1

-- the octets of the PDS at place p that tell its time, 25 and 13-17, and those that spell a moment
abbrev pub time_octets : List ℕ → ℕ → List ℕ
time_octets s p = octet s p 25 ∷ octet s p 13 ∷ octet s p 14 ∷ octet s p 15 ∷ octet s p 16 ∷ octet s p 17 ∷ []

abbrev pub moment_octets : Moment → List ℕ
moment_octets t = century_of t.year ∷ century_year_of t.year ∷ t.month ∷ t.day ∷ t.hour ∷ t.minute ∷ []

-- the moments that can be told, by the calendar alone: from the first year of century 18 to the last of century 99
abbrev pub calendar_faults : Moment → List Bool
calendar_faults t =
    not_within 1701 9900 t.year
    ∷ not_within 1 12 t.month
    ∷ not_within 1 (the_days_in t.year t.month) t.day
    ∷ ltb 23 t.hour
    ∷ ltb 59 t.minute
    ∷ []

abbrev pub Spelled : List ℕ → ℕ → Moment → Type 0
Spelled s p t = (any_of (calendar_faults t) ≡ false) × (time_octets s p ≡ moment_octets t)

-- 6 takes the time of a PDS, and it is this moment, exactly when the calendar has the moment and the PDS's octets are
-- its spelling: every moment has one, and none has two
abbrev pub OneSpelling : Type 0
OneSpelling =
    (s : List ℕ) (p : ℕ) (t : Moment)
    → ((any_of (time_faults s p) ≡ false) × (the_moment_at s p ≡ t)) ↔ Spelled s p t

-- so century and year of century are determined by the year, of any two times that 6 takes
abbrev pub YearDecides : Type 0
YearDecides =
    (s t : List ℕ) (p q : ℕ) → any_of (time_faults s p) ≡ false → any_of (time_faults t q) ≡ false
    → (the_moment_at s p).year ≡ (the_moment_at t q).year → (octet s p 25 ≡ octet t q 25) × (octet s p 13 ≡ octet t q 13)

-- "for readers and writers alike": what a header tells of a taken message, and what the writer and the packer take
pub record AllSpelled : Type 0 where
  pub read : (s : List ℕ) (lent : Lent) → Taken s lent → Spelled s pds_start (header_of s lent).time
  pub write : (w : Parts) (out : List ℕ) → T (accepted (write_refusal w out)) → Spelled w.pds 0 (the_moment_at w.pds 0)
  pub pack : (pds : List ℕ) (form : Form) (lent : Lent) (f : Source) (out : List ℕ)
      → T (accepted (pack_refusal pds form lent f out)) → Spelled pds 0 (the_moment_at pds 0)

-- "The definition in 01 is wrong": its range, "year of century 0 to 99", of six numbers and of the PDS at place p
unfoldable pub former_moment : ℕ → ℕ → ℕ → ℕ → ℕ → ℕ → Bool
former_moment century year month day hour minute =
    any_of
    (not_within 18 99 century
    ∷ ltb 99 year
    ∷ not_within 1 12 month
    ∷ not_within 1 (the_days_in (the_year_of century year) month) day
    ∷ ltb 23 hour
    ∷ ltb 59 minute
    ∷ [])

unfoldable pub former_time : List ℕ → ℕ → Bool
former_time s p =
    former_moment (octet s p 25) (octet s p 13) (octet s p 14) (octet s p 15) (octet s p 16) (octet s p 17)

-- "100 is to be taken and 0 refused", and no other year of century is judged otherwise: 100 is judged as document 01
-- judged 0 of the next century, which was the same year, where it had a next one
abbrev pub OtherYear : ℕ → Type 0
OtherYear year = (year ≡ 0 → ⊥) × (year ≡ 100 → ⊥)

pub record YearMoved (century month day hour minute : ℕ) : Type 0 where
  pub zero : any_of (moment_faults century 0 month day hour minute) ≡ true
  pub hundred : 18 ≤ century → century ≤ 98
      → any_of (moment_faults century 100 month day hour minute) ≡ former_moment (suc century) 0 month day hour minute
  pub others : (year : ℕ) → OtherYear year
      → any_of (moment_faults century year month day hour minute) ≡ former_moment century year month day hour minute

abbrev pub YearsMoved : Type 0
YearsMoved = (century month day hour minute : ℕ) → YearMoved century month day hour minute

-- and so every reply to any other year of century is the one that it was: a table with another test in its row 6, and
-- each table with document 01's (the listing answers by the reader's, the length told beforehand by the writer's)
unfoldable pub six_by : Bool → List Row → List Row
six_by test [] = []
six_by test (given r own ∷ rows) = given r (cond (eqb r.number 6) test own) ∷ six_by test rows

abbrev pub FormerReply : List ℕ → ℕ → List Row → Type 0
FormerReply s p table = OtherYear (octet s p 13) → first table ≡ first (six_by (former_time s p) table)

pub record RepliesStay : Type 0 where
  pub header : (s : List ℕ) (lent : Lent) → FormerReply s pds_start (message_table s lent)
  pub read : (s : List ℕ) (lent : Lent) (values marks : List ℕ) → FormerReply s pds_start (read_table s lent values marks)
  pub display : (s : List ℕ) (lent : Lent) → FormerReply s pds_start (display_table s lent)
  pub check : (s : List ℕ) (lent : Lent) (f : Source) → FormerReply s pds_start (check_table s lent f)
  pub write : (w : Parts) (out : List ℕ) → FormerReply w.pds 0 (write_table w out)
  pub pack : (pds : List ℕ) (form : Form) (lent : Lent) (f : Source) (out : List ℕ)
      → FormerReply pds 0 (pack_table pds form lent f out)
