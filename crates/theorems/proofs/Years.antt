-- R-3: a year and its two numbers determine each other by arithmetic, so do a moment and its six octets; and document
-- 01's test of a time differs at years of century 0 and 100 alone, so a table whose row 6 has it gives the same reply.
use Prim.Native.Nat.{ℕ, suc, ◌≤◌}
use mathlib.Core.Path.{◌≡◌, refl, sym, ◌∙◌, ap, ap₂, subst}
use mathlib.Core.Logic.{⊎_elim}
use mathlib.Core.Bool.{Bool, true, false, ◌||◌, cond}
use mathlib.Core.List.{List, [], ◌∷◌}
use native.Mathlib.Omega.{arith}
use borrow.Author.Tests.{ltb-true, ltb-false, lt-ltb, le-ltb}
use lib.Dec.{ltb}
use lib.ListN.{get_or, drop}
use Rattle.bits.proofs.Runs.{lt_or_ge}
use Rattle.rules.specs.declared.{Moment.Moment}
use Rattle.rules.specs.Numbers.{octet, not_within}
use Rattle.rules.specs.Table.{Row, accepted, any_of, first}
use Rattle.rules.specs.Places.{pds_start}
use Rattle.rules.specs.Walk.{section_rows, walk_rows, walk_of}
use Rattle.rules.specs.Time.{the_year_of, the_days_in, moment_faults, the_moment_at, time_faults}
use Rattle.rules.specs.Bitmap.{Lent}
use Rattle.rules.specs.Reading.{message_table, refused_by, found_by, found_in, own_refusal, answer_by, header_of, read_table}
use Rattle.rules.specs.Display.{display_table}
use Rattle.rules.specs.Writing.{write_table}
use Rattle.rules.specs.Checking.{check_table}
use Rattle.rules.specs.Packing.{packed_parts, pack_table}
use Rattle.laws.specs.Taken.{Taken}
use Rattle.laws.proofs.Rows.{NoneOf, none_of, any_none, is_true, clash, inside, outside-no}
use Rattle.laws.proofs.Judged.{judged}
use Rattle.theorems.specs.Years.{century_of, century_year_of, time_octets, moment_octets, calendar_faults, Spelled}
use Rattle.theorems.specs.Years.{OneSpelling, YearDecides, AllSpelled, former_moment, former_time, OtherYear}
use Rattle.theorems.specs.Years.{YearMoved, YearsMoved, six_by, FormerReply, RepliesStay}
use Rattle.theorems.proofs.Offered.{offered}
use Rattle.theorems.proofs.Packs.{pack_exactly}

-- the century and the year of century of a year that they gave, and the year that those of a year give
century_back : (c y : ℕ) → 1 ≤ c → 1 ≤ y → y ≤ 100 → century_of (the_year_of c y) ≡ c
unfolding the_year_of
century_back c y a b d = omega (arith, a, b, d)

year_back : (c y : ℕ) → 1 ≤ c → 1 ≤ y → y ≤ 100 → century_year_of (the_year_of c y) ≡ y
unfolding the_year_of
year_back c y a b d = omega (arith, a, b, d)

spelled_year : (y : ℕ) → 1 ≤ y → the_year_of (century_of y) (century_year_of y) ≡ y
unfolding the_year_of
spelled_year y a = omega (arith, a)

year_least : (c y : ℕ) → 18 ≤ c → 1 ≤ y → 1701 ≤ the_year_of c y
unfolding the_year_of
year_least c y a b = omega (arith, a, b)

year_most : (c y : ℕ) → c ≤ 99 → y ≤ 100 → the_year_of c y ≤ 9900
unfolding the_year_of
year_most c y a b = omega (arith, a, b)

-- a time that is taken is spelled as its moment says; and what is spelled as a moment says is taken, and is that
-- moment, octet by octet
module _ (s : List ℕ) (p : ℕ) where
  spelled-of : any_of (time_faults s p) ≡ false → Spelled s p (the_moment_at s p)
  unfolding time_faults moment_faults the_moment_at
  spelled-of e =
      let h = none_of (time_faults s p) e in
      let c = inside 18 99 (octet s p 25) h.0 in
      let y = inside 1 100 (octet s p 13) h.1.0 in
      let from : 1 ≤ octet s p 25 = omega (arith, c.0) in
      let least = year_least _ _ c.0 y.0 in
      let most = year_most _ _ c.1 y.1 in
      let century = century_back _ _ from y.0 y.1 in
      let within = year_back _ _ from y.0 y.1 in (
        any_none (calendar_faults (the_moment_at s p)) (outside-no 1701 9900 (the_moment_at s p).year least most, h.1.1),
        λ i. sym century i ∷ sym within i ∷ octet s p 14 ∷ octet s p 15 ∷ octet s p 16 ∷ octet s p 17 ∷ [],
      )

  module _ (t : Moment) (h : Spelled s p t) where
    same : (k : ℕ) → get_or (time_octets s p) k 0 ≡ get_or (moment_octets t) k 0
    same k = ap (λ (l : List ℕ). get_or l k 0) h.1

    year_within : (1701 ≤ t.year) × (t.year ≤ 9900)
    year_within = inside 1701 9900 t.year (none_of (calendar_faults t) h.0).0

    moment_is : the_moment_at s p ≡ t
    unfolding the_moment_at
    moment_is =
        let year = ap₂ the_year_of (same 0) (same 1) ∙ spelled_year t.year (omega (arith, year_within.0)) in
        λ i. record { year = year i; month = same 2 i; day = same 3 i; hour = same 4 i; minute = same 5 i }

    time-taken : any_of (time_faults s p) ≡ false
    unfolding time_faults moment_faults the_moment_at
    time-taken =
        let near = year_within in
        let c = outside-no 18 99 (octet s p 25) (omega (arith, same 0, near)) (omega (arith, same 0, near)) in
        let y = outside-no 1 100 (octet s p 13) (omega (arith, same 1)) (omega (arith, same 1)) in
        let rest = (none_of (calendar_faults t) h.0).1 in
        let own = subst (λ (u : Moment). NoneOf (drop 1 (calendar_faults u))) (sym moment_is) rest in
        any_none (time_faults s p) (c, (y, own))

pub one-spelling : OneSpelling
one-spelling s p t =
    (λ h. subst (Spelled s p) h.1 (spelled-of s p h.0), λ h. (time-taken s p t h, moment_is s p t h))

pub year_decides : YearDecides
year_decides s t p q a b e =
    let x = same s p (the_moment_at s p) (spelled-of s p a) in
    let y = same t q (the_moment_at t q) (spelled-of t q b) in
    (x 0 ∙ ap century_of e ∙ sym (y 0), x 1 ∙ ap century_year_of e ∙ sym (y 1))

-- what a header tells of a taken message, and what is taken by the writer and the packer
time-told : (s : List ℕ) (lent : Lent) → Taken s lent → (header_of s lent).time ≡ the_moment_at s pds_start
unfolding header_of answer_by found_in found_by
time-told s lent t =
    let r = own_refusal s lent in
    ap (λ (b : Bool). (cond b (found_in s lent) (refused_by r)).time) (is_true (accepted r) t)

pub all-spelled : AllSpelled
unfolding packed_parts
all-spelled = record {
  read = λ s lent t.
      subst (Spelled s pds_start) (sym (time-told s lent t)) (spelled-of s pds_start (judged s lent t).time);
  write = λ w out t. spelled-of w.pds 0 (offered w out t).time;
  pack = λ pds form lent f out t.
      let written = ((pack_exactly pds form lent f out).0 t).written in
      spelled-of pds 0 (offered (packed_parts pds form lent f) out written).time;
}

-- the two ranges of the year of century
ranges : (year : ℕ) → OtherYear year → not_within 1 100 year ≡ ltb 99 year
ranges year o = go (ltb 99 year) refl
  where
    from : 1 ≤ year
    from = ⊎_elim (λ h. absurd (o.0 (omega (arith, h)))) (λ h. h) (lt_or_ge year 1)

    go : (b : Bool) → ltb 99 year ≡ b → not_within 1 100 year ≡ ltb 99 year
    go false e = outside-no 1 100 year from (omega (arith, ltb-false 99 year e)) ∙ sym e
    go true e =
        let least = ltb-true 99 year e in
        let over = ⊎_elim (λ h. h) (λ h. absurd (o.1 (omega (arith, h, least)))) (lt_or_ge 100 year) in
        ap₂ ◌||◌ (le-ltb year 1 from) (lt-ltb 100 year over) ∙ sym e

-- the year of 100, which was 0 of the next century
next_century : (c : ℕ) → 1 ≤ c → the_year_of c 100 ≡ the_year_of (suc c) 0
unfolding the_year_of
next_century c h = omega (arith, h)

module _ (c m d h n : ℕ) where
  zero-refused : (b : Bool) → any_of (moment_faults c 0 m d h n) ≡ b → b ≡ true
  unfolding moment_faults
  zero-refused true e = refl
  zero-refused false e = absurd (clash true refl (none_of (moment_faults c 0 m d h n) e).1.0)

  -- either definition, of its tests of century and year of century and of the year
  abbrev judge : Bool → Bool → ℕ → Bool
  judge century within year =
      any_of
      (century ∷ within ∷ not_within 1 12 m ∷ not_within 1 (the_days_in year m) d ∷ ltb 23 h ∷ ltb 59 n ∷ [])

  moved : YearMoved c m d h n
  unfolding moment_faults former_moment
  moved = record {
    zero = zero-refused (any_of (moment_faults c 0 m d h n)) refl;
    hundred = λ a b.
        let now = outside-no 18 99 c a (omega (arith, b)) in
        let next = outside-no 18 99 (suc c) (omega (arith, a)) (omega (arith, b)) in
        let year = next_century c (omega (arith, a)) in
        λ i. judge ((now ∙ sym next) i) false (year i);
    others = λ y o. ap (λ (b : Bool). judge (not_within 18 99 c) b (the_year_of c y)) (ranges y o);
  }

pub years_moved : YearsMoved
years_moved = moved

-- a table that has this test of its time in row 6, and the other test in its place
stays : (s : List ℕ) (p : ℕ) (table : List Row) → table ≡ six_by (any_of (time_faults s p)) table → FormerReply s p table
unfolding time_faults former_time
stays s p table e o =
    ap first e ∙ ap (λ (b : Bool). first (six_by b table)) ((moved (octet s p 25) _ _ _ _).others (octet s p 13) o)

pub replies_stay : RepliesStay
unfolding six_by message_table walk_of walk_rows section_rows read_table display_table check_table pack_table packed_parts write_table
replies_stay = record {
  header = λ s lent. stays s pds_start (message_table s lent) refl;
  read = λ s lent values marks. stays s pds_start (read_table s lent values marks) refl;
  display = λ s lent. stays s pds_start (display_table s lent) refl;
  check = λ s lent f. stays s pds_start (check_table s lent f) refl;
  write = λ w out. stays w.pds 0 (write_table w out) refl;
  pack = λ pds form lent f out. stays pds 0 (pack_table pds form lent f out) refl;
}
