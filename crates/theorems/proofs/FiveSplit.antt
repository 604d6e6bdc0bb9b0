-- 20 to 23 are document 01's 5, split, and nothing else moved: a walk that stops does so by one of its own rows, just
-- where row 5 applied, and one that does not leaves the rest of the table.
use Prim.Native.Nat.{ℕ}
use mathlib.Core.Path.{◌≡◌, refl, sym, subst}
use mathlib.Core.Logic.{◌↔◌, ◌⊎◌, inl, inr}
use mathlib.Core.Bool.{Bool, true, false, not, ◌&&◌, ◌||◌, cond}
use mathlib.Core.List.{List, [], ◌∷◌, ◌++◌}
use lib.Dec.{T, eqb}
use lib.Ieee.Fits.{and_l, and_r}
use lib.ListN.{drop}
use Rattle.rules.specs.declared.{Refusal.Refusal}
use Rattle.rules.specs.Table.{Row, given, refusal, first_or, first, any_of}
use Rattle.rules.specs.Places.{pds_start, the_end_start, the_has_grid, the_has_bitmap, places_of, the_size_bad, the_grib_bad, the_edition_bad}
use Rattle.rules.specs.Places.{total_faults}
use Rattle.rules.specs.Walk.{section_rows, walk_rows, walk_of}
use Rattle.rules.specs.Bitmap.{Lent}
use Rattle.rules.specs.Reading.{message_table, own_refusal}
use Rattle.laws.specs.Tables.{Clear}
use Rattle.laws.specs.Lengths.{lengths_bad}
use Rattle.laws.proofs.Rows.{Numbered, clear, clash, first-after}
use Rattle.laws.proofs.Walk.{walk_as_row}
use Rattle.theorems.specs.Replies.{Among}
use Rattle.theorems.specs.Stops.{stops, former_table, FiveSplit}
use Rattle.theorems.proofs.Among.{either, denied, among_of, not-among}
use Rattle.theorems.proofs.Stops.{each-reply, stopping}

-- neither one of the four nor 5
abbrev pub other : Refusal → Bool
other r = not (stopping r) && not (eqb r.number 5)

pub other-stops : (r : Refusal) → T (other r) → Among r.number stops → ⊥
other-stops r h = not-among r.number stops (and_l (not (stopping r)) (not (eqb r.number 5)) h)

other-five : (r : Refusal) → T (other r) → r ≡ refusal 5 → ⊥
other-five r h e =
    denied (eqb r.number 5) (and_r (not (stopping r)) (not (eqb r.number 5)) h)
    (subst (λ (x : Refusal). T (eqb x.number 5)) (sym e) tt)

-- a reply now, x, beside the one before, y: one of the four exactly where 5 was, else the same
abbrev Split : Refusal → Refusal → Type 0
Split x y = ((y ≡ refusal 5) ↔ Among x.number stops) × ((y ≡ refusal 5 → ⊥) → x ≡ y)

-- below a row that both tables have
under : (n : ℕ) (test : Bool) (x y : Refusal) → T (other (refusal n)) → Split x y
    → Split (cond test (refusal n) x) (cond test (refusal n) y)
under n true x y o h =
    ((λ e. absurd (other-five (refusal n) o e), λ a. absurd (other-stops (refusal n) o a)), λ z. refl)
under n false x y o h = h

-- rows one of which applies, in front of others
first-stays : (a b : List Row) → (Clear a → ⊥) → first (a ++ b) ≡ first a
unfolding first first_or
first-stays [] b h = absurd (h tt)
first-stays (given r true ∷ a) b h = refl
first-stays (given r false ∷ a) b h = first-stays a b (λ c. h (refl, c))

walk_numbered : (s : List ℕ) → Numbered (walk_of s)
unfolding walk_of walk_rows section_rows
walk_numbered s = tt

-- a walk that is not clear stops by one of the four
walk_stops : (s : List ℕ) → (Clear (walk_of s) → ⊥) → Among (first (walk_of s)).number stops
unfolding walk_of walk_rows section_rows
walk_stops s h = go (either (eqb r.number 0) (stopping r) (each-reply zero_or_stop (walk_of s) tt tt))
  where
    r : Refusal
    r = first (walk_of s)

    zero_or_stop : Refusal → Bool
    zero_or_stop x = eqb x.number 0 || stopping x

    go : T (eqb r.number 0) ⊎ T (stopping r) → Among r.number stops
    go (inl z) = absurd (h (clear (walk_of s) (walk_numbered s) z))
    go (inr t) = among_of r.number stops t

-- the rows from the walk on, and from row 5 on
walked : (s : List ℕ) (later : List Row) (b : Bool) → lengths_bad s ≡ b → T (other (first later))
    → Split (first (walk_of s ++ later)) (cond b (refusal 5) (first later))
unfolding walk_of lengths_bad
walked s later true e o =
    let stuck : Clear (walk_of s) → ⊥ = λ c. clash _ e ((walk_as_row _ _ _ (places_of s)).0 c) in
    let one = walk_stops s stuck in
    let a = subst (λ (r : Refusal). Among r.number stops) (sym (first-stays (walk_of s) later stuck)) one in
    ((λ f. a, λ f. refl), λ n. absurd (n refl))
walked s later false e o =
    let c = (walk_as_row (the_end_start s) (the_has_grid s pds_start) (the_has_bitmap s pds_start) (places_of s)).1 e in
    let f = first-after (walk_of s) later c in (
      (
        λ q. absurd (other-five (first later) o q),
        λ a. absurd (other-stops (first later) o (subst (λ (r : Refusal). Among r.number stops) f a)),
      ),
      λ n. f,
    )

abbrev pub later : List ℕ → Lent → List Row
later s lent = drop 5 (former_table s lent)

pub later-other : (s : List ℕ) (lent : Lent) → T (other (first (later s lent)))
unfolding former_table
later-other s lent = each-reply other (later s lent) tt tt

pub five-split : FiveSplit
unfolding own_refusal message_table former_table first first_or
five-split s lent =
    let w = walked s (later s lent) (lengths_bad s) refl (later-other s lent) in
    let t = under 3 (the_edition_bad s) _ _ tt (under 4 (any_of (total_faults s)) _ _ tt w) in
    let h = under 1 (the_size_bad s) _ _ tt (under 2 (the_grib_bad s) _ _ tt t) in
    record { five = h.0; others = h.1 }
