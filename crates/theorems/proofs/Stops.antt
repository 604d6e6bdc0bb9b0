-- That 20 to 23 alone tell a section and a place: of every table each row by itself is one of these, or tells nothing.
use Prim.Native.Nat.{ℕ}
use mathlib.Core.Path.{◌≡◌, refl, sym, subst}
use mathlib.Core.Logic.{◌⊎◌, inl, inr}
use mathlib.Core.Bool.{Bool, true, false, ◌&&◌, ◌||◌, cond}
use mathlib.Core.List.{List, [], ◌∷◌}
use lib.Dec.{T, eqb, eqb→eq}
use lib.Ieee.Fits.{and_l, and_r}
use Rattle.rules.specs.declared.{Refusal.Refusal, Form.Form, Spot.Spot}
use Rattle.rules.specs.Answers.{Display}
use Rattle.rules.specs.Table.{Row, given, refusal, accepted, first_or, first}
use Rattle.rules.specs.Walk.{section_rows, walk_rows, walk_of}
use Rattle.rules.specs.Bitmap.{Lent}
use Rattle.rules.specs.Reading.{message_table, own_refusal, read_table, read_refusal}
use Rattle.rules.specs.Cursor.{index_table, index_refusal, cursor_table, cursor_refusal}
use Rattle.rules.specs.Display.{display_table, display_of}
use Rattle.rules.specs.Writing.{Parts, write_table, write_refusal}
use Rattle.rules.specs.Checking.{Source, check_table, check_of}
use Rattle.rules.specs.Packing.{pack_table, pack_refusal}
use Rattle.theorems.specs.Stops.{stops, TellsAlone, StopsToldAlone}
use Rattle.theorems.proofs.Among.{one_of, either, among_of}

-- a test of each row's refusal, and so of the reply
abbrev each : (Refusal → Bool) → List Row → Bool
each ok [] = true
each ok (given r test ∷ rows) = ok r && each ok rows

pub each-reply : (ok : Refusal → Bool) (rows : List Row) → T (ok (refusal 0)) → T (each ok rows) → T (ok (first rows))
unfolding first first_or
each-reply ok [] z h = z
each-reply ok (given r true ∷ rows) z h = and_l (ok r) (each ok rows) h
each-reply ok (given r false ∷ rows) z h = each-reply ok rows z (and_r (ok r) (each ok rows) h)

-- the number is one of the four; nothing is told; one of these
abbrev pub stopping : Refusal → Bool
stopping r = one_of r.number stops

abbrev silent : Refusal → Bool
silent r = eqb r.section 0 && eqb r.place 0

abbrev alone : Refusal → Bool
alone r = stopping r || silent r

silent-is : (r : Refusal) → T (silent r) → r ≡ refusal r.number
silent-is r h =
    let e = eqb→eq r.section 0 (and_l (eqb r.section 0) (eqb r.place 0) h) in
    let f = eqb→eq r.place 0 (and_r (eqb r.section 0) (eqb r.place 0) h) in
    λ i. record { number = r.number; section = e i; place = f i }

tells : (r : Refusal) → T (alone r) → TellsAlone r
tells r h = go (either (stopping r) (silent r) h)
  where
    go : T (stopping r) ⊎ T (silent r) → TellsAlone r
    go (inl t) = inl (among_of r.number stops t)
    go (inr t) = inr (silent-is r t)

either-shown : (b : Bool) (x y : Display) (r : Refusal) → x.refusal ≡ r → y.refusal ≡ r → (cond b x y).refusal ≡ r
either-shown true x y r e f = e
either-shown false x y r e f = f

display-reply : (s : List ℕ) (lent : Lent) → (display_of s lent).refusal ≡ first (display_table s lent)
unfolding display_of
display-reply s lent =
    either-shown (accepted (first (display_table s lent))) _ _ (first (display_table s lent)) refl refl

-- of each table
module _ (s : List ℕ) (lent : Lent) where
  own-each : T (alone (first (message_table s lent)))
  unfolding message_table walk_of walk_rows section_rows
  own-each = each-reply alone (message_table s lent) tt tt

  read-each : (values marks : List ℕ) → T (alone (first (read_table s lent values marks)))
  unfolding read_table message_table walk_of walk_rows section_rows
  read-each values marks = each-reply alone (read_table s lent values marks) tt tt

  display-each : T (alone (first (display_table s lent)))
  unfolding display_table message_table walk_of walk_rows section_rows
  display-each = each-reply alone (display_table s lent) tt tt

  index-each : (index : List ℕ) → T (alone (first (index_table s lent index)))
  unfolding index_table message_table walk_of walk_rows section_rows
  index-each index = each-reply alone (index_table s lent index) tt tt

  cursor-each : (index : List ℕ) (c : Spot) → T (alone (first (cursor_table s lent index c)))
  unfolding cursor_table message_table walk_of walk_rows section_rows
  cursor-each index c = each-reply alone (cursor_table s lent index c) tt tt

  check-each : (f : Source) → T (alone (first (check_table s lent f)))
  unfolding check_table message_table walk_of walk_rows section_rows
  check-each f = each-reply alone (check_table s lent f) tt tt

write-each : (w : Parts) (out : List ℕ) → T (silent (first (write_table w out)))
unfolding write_table
write-each w out = each-reply silent (write_table w out) tt tt

pack-each : (pds : List ℕ) (form : Form) (lent : Lent) (f : Source) (out : List ℕ)
    → T (silent (first (pack_table pds form lent f out)))
unfolding pack_table write_table
pack-each pds form lent f out = each-reply silent (pack_table pds form lent f out) tt tt

pub stops-told-alone : StopsToldAlone
unfolding own_refusal read_refusal index_refusal cursor_refusal check_of write_refusal pack_refusal
stops-told-alone = record {
  header = λ s lent. tells _ (own-each s lent);
  read = λ s lent values marks. tells _ (read-each s lent values marks);
  display = λ s lent. subst TellsAlone (sym (display-reply s lent)) (tells _ (display-each s lent));
  index = λ s lent index. tells _ (index-each s lent index);
  cursor = λ s lent index c. tells _ (cursor-each s lent index c);
  check = λ s lent f. tells _ (check-each s lent f);
  write = λ w out. silent-is _ (write-each w out);
  pack = λ pds form lent f out. silent-is _ (pack-each pds form lent f out);
}
