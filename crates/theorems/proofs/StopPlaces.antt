-- What a stop tells lies in the message: rows 1 to 4 leave room for the end section behind a PDS, and each section is
-- reached where the one before it ends inside.
use Prim.Native.Nat.{ℕ, ◌+◌, ◌-◌, ◌*◌, ◌^◌, ◌≤◌, ◌<◌}
use mathlib.Core.Path.{◌≡◌, refl, sym, subst, ◌∙◌, ap}
use mathlib.Core.Logic.{◌⊎◌, inl, inr}
use mathlib.Core.Bool.{Bool, true, false, cond}
use mathlib.Core.List.{List, ◌++◌}
use native.Mathlib.Omega.{arith}
use native.Mathlib.Nat.{lt_irrefl, one-mul, zero-add}
use borrow.Author.Tests.{eqb-false, ltb-false, ltb-true}
use lib.Dec.{T, eqb, ltb, eqb→eq}
use lib.ListN.{length, get_or}
use Rattle.bits.specs.Bits.{bits_in, run}
use Rattle.bits.proofs.Runs.{run-octet, run-lt, run-split, bits_in-bits}
use Rattle.rules.specs.declared.{Refusal.Refusal, Part.Part, Places.Places}
use Rattle.rules.specs.Bounds.{message_least, message_most}
use Rattle.rules.specs.Numbers.{number}
use Rattle.rules.specs.Table.{Row, refusal, the_refusal_at, first_or, first, any_of}
use Rattle.rules.specs.Places.{sevens, pds_start, the_end_start, the_has_grid, the_has_bitmap, places_of, the_size_bad, the_grib_bad, the_edition_bad}
use Rattle.rules.specs.Places.{total_faults, after, no_part, the_section_at, sections_of}
use Rattle.rules.specs.Walk.{place_of, section_rows, left_rows, walk_rows, walk_of}
use Rattle.rules.specs.Reading.{message_table, own_refusal}
use Rattle.laws.specs.Tables.{Clear}
use Rattle.laws.proofs.Rows.{clash, true-is, none_of, is_eq, inside}
use Rattle.theorems.specs.Replies.{Among}
use Rattle.theorems.specs.Stops.{stops, former_table, StopTold, StopsTold}
use Rattle.theorems.proofs.FiveSplit.{other, other-stops, later, later-other}

-- the octet of the edition does not stand among four that are '7777': so a message whose rows 1 to 4 pass has twelve
-- octets, and the PDS would start before its end section or where that starts
record OctetOne (s : List ℕ) (at m n : ℕ) : Type 0 where
  before : ℕ
  after_it : ℕ
  small : after_it < 2 ^ n
  is : run (bits_in 8 s) at (m + (8 + n)) ≡ before * 2 ^ (8 + n) + (2 ^ n + after_it)

octet-one : (s : List ℕ) (at m n : ℕ) → at + m ≡ 56 → get_or s 7 0 ≡ 1 → OctetOne s at m n
unfolding run
octet-one s at m n e f =
    let low : get_or s 7 0 < 256 = subst (λ (x : ℕ). x < 256) (sym f) (omega arith) in
    let one : run (bits_in 8 s) 56 8 ≡ 1 = run-octet s 7 0 low ∙ zero-add (get_or s 7 0) ∙ f in
    let there : run (bits_in 8 s) (at + m) 8 ≡ 1 = ap (λ (x : ℕ). run (bits_in 8 s) x 8) e ∙ one in
    record {
      before = run (bits_in 8 s) at m;
      after_it = run (bits_in 8 s) (at + m + 8) n;
      small = run-lt (bits_in-bits 8 s) (at + m + 8) n;
      is = run-split (bits_in 8 s) at m (8 + n)
          ∙ ap (λ (x : ℕ). run (bits_in 8 s) at m * 2 ^ (8 + n) + x)
          (run-split (bits_in 8 s) (at + m) 8 n
          ∙ ap (λ (x : ℕ). x * 2 ^ n + run (bits_in 8 s) (at + m + 8) n) there
          ∙ ap (λ (x : ℕ). x + run (bits_in 8 s) (at + m + 8) n) (one-mul (2 ^ n)));
    }

same_or_not : (a b : ℕ) → (a ≡ b) ⊎ (a ≡ b → ⊥)
same_or_not a b = go (eqb a b) refl
  where
    go : (t : Bool) → eqb a b ≡ t → (a ≡ b) ⊎ (a ≡ b → ⊥)
    go true e = inl (eqb→eq a b (true-is _ e))
    go false e = inr (eqb-false a b e)

from-eight : (n : ℕ) → 8 ≤ n → (n ≡ 8 → ⊥) → (n ≡ 9 → ⊥) → (n ≡ 10 → ⊥) → (n ≡ 11 → ⊥) → 12 ≤ n
from-eight n l a b c d = omega arith

module _ (s : List ℕ) (one : get_or s 7 0 ≡ 1) where
  not_4 : run (bits_in 8 s) 32 32 ≡ sevens → ⊥
  not_4 e = let o = octet-one s 32 24 0 refl one in omega (arith, o.small, o.is, e)

  not_5 : run (bits_in 8 s) 40 32 ≡ sevens → ⊥
  not_5 e = let o = octet-one s 40 16 8 refl one in omega (arith, o.small, o.is, e)

  not_6 : run (bits_in 8 s) 48 32 ≡ sevens → ⊥
  not_6 e = let o = octet-one s 48 8 16 refl one in omega (arith, o.small, o.is, e)

  not_7 : run (bits_in 8 s) 56 32 ≡ sevens → ⊥
  not_7 e = let o = octet-one s 56 0 24 refl one in omega (arith, o.small, o.is, e)

  by_length : (n : ℕ) → message_least ≤ n → number s (n - 4) 1 4 ≡ sevens → 12 ≤ n
  by_length n l e = go (same_or_not n 8) (same_or_not n 9) (same_or_not n 10) (same_or_not n 11)
    where
      at : (k : ℕ) → n ≡ k → number s (k - 4) 1 4 ≡ sevens
      at k q = subst (λ (x : ℕ). number s (x - 4) 1 4 ≡ sevens) q e

      go : (n ≡ 8) ⊎ (n ≡ 8 → ⊥) → (n ≡ 9) ⊎ (n ≡ 9 → ⊥) → (n ≡ 10) ⊎ (n ≡ 10 → ⊥) → (n ≡ 11) ⊎ (n ≡ 11 → ⊥) → 12 ≤ n
      go (inl q) b c d = absurd (not_4 (at 8 q))
      go (inr a) (inl q) c d = absurd (not_5 (at 9 q))
      go (inr a) (inr b) (inl q) d = absurd (not_6 (at 10 q))
      go (inr a) (inr b) (inr c) (inl q) = absurd (not_7 (at 11 q))
      go (inr a) (inr b) (inr c) (inr d) = from-eight n l a b c d

twelve : (s : List ℕ) → the_size_bad s ≡ false → the_edition_bad s ≡ false → any_of (total_faults s) ≡ false → 12 ≤ length s
unfolding the_size_bad the_edition_bad total_faults
twelve s a b c =
    by_length s (is_eq (get_or s 7 0) 1 b) (length s) (inside message_least message_most (length s) a).0
    (is_eq _ _ (none_of (total_faults s) c).1.0)

-- a property of each refusal of a section's rows, and of what follows where they pass, is one of the reply
four-rows : (P : Refusal → Type 0) (a b c d : Bool) (q r t u x : Refusal) → P q → P r → P t → P u
    → ((a ≡ false) × ((b ≡ false) × ((c ≡ false) × ((d ≡ false) × Unit {0}))) → P x)
    → P (cond a q (cond b r (cond c t (cond d u x))))
four-rows P true b c d q r t u x pq pr pt pu h = pq
four-rows P false true c d q r t u x pq pr pt pu h = pr
four-rows P false false true d q r t u x pq pr pt pu h = pt
four-rows P false false false true q r t u x pq pr pt pu h = pu
four-rows P false false false false q r t u x pq pr pt pu h = h (refl, (refl, (refl, (refl, tt))))

at-section : (P : Refusal → Type 0) (end k : ℕ) (there out : Bool) (p : Part) (rest : List Row)
    → ((n : ℕ) → (n ≡ 23 → ⊥) → P (the_refusal_at n k (place_of p.start)))
    → (Clear (section_rows end k there out p) → P (first rest))
    → P (first (section_rows end k there out p ++ rest))
unfolding section_rows first first_or
at-section P end k there out p rest h g =
    four-rows P _ _ _ _ _ _ _ _ _ (h 22 (λ e. omega (arith, e))) (h 20 (λ e. omega (arith, e)))
    (h 21 (λ e. omega (arith, e))) (h 22 (λ e. omega (arith, e))) g

-- where a section passes, or is not there, it ends before the end section's start or at it
passes : (end k : ℕ) (there out : Bool) (p : Part) → (there ≡ false → p.len ≡ 0) → p.start ≤ end
    → Clear (section_rows end k there out p)
    → after p ≤ end
unfolding section_rows
passes end k true out p z l h = ltb-false end (after p) h.1.1.1.0
passes end k false out p z l h = omega (arith, z refl, l)

absent_none : (s : List ℕ) (there : Bool) (start : ℕ) → there ≡ false → (the_section_at s there start).len ≡ 0
unfolding the_section_at
absent_none s true start e = clash true refl e
absent_none s false start e = refl

on_row : (P : Refusal → Type 0) (n : ℕ) (test : Bool) (x : Refusal) → P (refusal n) → (test ≡ false → P x)
    → P (cond test (refusal n) x)
on_row P n true x p h = p
on_row P n false x p h = h refl

module _ (s : List ℕ) where
  abbrev Tells : Refusal → Type 0
  Tells r = Among r.number stops → StopTold s r

  silence : (n : ℕ) → T (other (refusal n)) → Tells (refusal n)
  silence n o a = absurd (other-stops (refusal n) o a)

  -- at a section that starts inside
  told_at : (k : ℕ) → 1 ≤ k → k ≤ 4 → (start : ℕ) → start ≡ (get_or (sections_of s) k no_part).start → pds_start ≤ start
      → start ≤ the_end_start s → (n : ℕ) → (n ≡ 23 → ⊥)
      → Tells (the_refusal_at n k (place_of start))
  told_at k a b start e l h n d m = record {
    least = a;
    most = omega (arith, b);
    from = omega (arith, l);
    to = omega (arith, h);
    section = λ u. ap place_of e;
    left = λ u. absurd (lt_irrefl 4 (subst (λ (x : ℕ). x ≤ 4) u b));
    over = λ u. absurd (d u);
  }

  abbrev P : Places
  P = places_of s

  -- each section starts where the one before it ends, from the PDS on
  gds-from : pds_start ≤ P.gds.start
  unfolding places_of the_section_at
  gds-from = omega arith

  bms-from : pds_start ≤ P.bms.start
  unfolding places_of the_section_at
  bms-from = omega arith

  bds-from : pds_start ≤ P.bds.start
  unfolding places_of the_section_at
  bds-from = omega arith

  at_left : (rows : List Row) → T (other (first rows)) → Tells (first (left_rows (the_end_start s) P ++ rows))
  unfolding first first_or
  at_left rows o = go (ltb (after P.bds) (the_end_start s)) refl
    where
      go : (b : Bool) → ltb (after P.bds) (the_end_start s) ≡ b
          → Tells (cond b (the_refusal_at 23 5 (place_of (after P.bds))) (first rows))
      go true q m =
          let l = ltb-true (after P.bds) (the_end_start s) q in
          record {
            least = omega arith;
            most = omega arith;
            from = omega (arith, bds-from);
            to = omega (arith, l);
            section = λ u. absurd (lt_irrefl 4 u);
            left = λ u. (refl, refl);
            over = λ u. (refl, omega (arith, l));
          }
      go false q m = absurd (other-stops (first rows) o m)

  -- from the PDS to what is left over: a section is reached where the one before it ends inside
  along : (rows : List Row) → T (other (first rows)) → pds_start ≤ the_end_start s → Tells (first (walk_of s ++ rows))
  unfolding walk_of walk_rows section_rows sections_of places_of the_section_at
  along rows o l =
      at-section Tells (the_end_start s) 1 true _ P.pds _
      (told_at 1 (omega arith) (omega arith) P.pds.start refl (omega arith) l)
      λ a.
      let ends1 = passes (the_end_start s) 1 true _ P.pds (λ e. clash true refl e) l a in
      at-section Tells (the_end_start s) 2 (the_has_grid s pds_start) _ P.gds _
      (told_at 2 (omega arith) (omega arith) P.gds.start refl gds-from ends1)
      λ b.
      let ends2 = passes (the_end_start s) 2 (the_has_grid s pds_start) _ P.gds (absent_none s _ _) ends1 b in
      at-section Tells (the_end_start s) 3 (the_has_bitmap s pds_start) _ P.bms _
      (told_at 3 (omega arith) (omega arith) P.bms.start refl bms-from ends2)
      λ c.
      let ends3 = passes (the_end_start s) 3 (the_has_bitmap s pds_start) _ P.bms (absent_none s _ _) ends2 c in
      at-section Tells (the_end_start s) 4 true _ P.bds _
      (told_at 4 (omega arith) (omega arith) P.bds.start refl bds-from ends3)
      λ d. at_left rows o

pub stops-told : StopsTold
unfolding own_refusal message_table former_table first first_or
stops-told s lent =
    on_row (Tells s) 1 (the_size_bad s) _ (silence s 1 tt) λ e1. on_row (Tells s) 2 (the_grib_bad s) _ (silence s 2 tt) λ e2.
    on_row (Tells s) 3 (the_edition_bad s) _ (silence s 3 tt) λ e3.
    on_row (Tells s) 4 (any_of (total_faults s)) _ (silence s 4 tt) λ e4.
    along s (later s lent) (later-other s lent) (omega (arith, twelve s e1 e3 e4))
