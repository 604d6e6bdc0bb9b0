-- Demand 1: a table gives the reply of its first row that applies, and no number but its rows', by induction on it; a
-- refusal keeps every lent list and an accepted call writes its front alone, by the definition of `filled`; an answer
-- is whole, by that of `answered`.
use Prim.Native.Nat.{ℕ, ◌<◌}
use mathlib.Core.Bool.{Bool, true, false, cond}
use mathlib.Core.Path.{◌≡◌, refl, ◌∙◌, ap}
use mathlib.Core.Logic.{◌⊎◌, inl, inr}
use mathlib.Core.List.{List, [], ◌∷◌, ◌++◌}
use native.Mathlib.Omega.{arith}
use borrow.Author.Tests.{eqb-false}
use lib.Dec.{T}
use lib.ListN.{length, take, drop}
use lib.Seq.{take-append_seam, drop-append_seam}
use Rattle.rules.specs.declared.{Refusal.Refusal, Form.Form, Spot.Spot}
use Rattle.rules.specs.Table.{Row, given, refusal, accepted, first_or, first, answered, filled}
use Rattle.rules.specs.Reading.{message_table, own_refusal, answer_by, header_of, read_table, read_refusal, read_of, bitmap_of}
use Rattle.rules.specs.Reading.{numbering_of}
use Rattle.rules.specs.Walk.{section_rows, walk_rows, walk_of}
use Rattle.rules.specs.Bitmap.{Lent}
use Rattle.rules.specs.Cursor.{index_table, index_refusal, index_of, cursor_table, cursor_refusal, cursor_of}
use Rattle.rules.specs.Display.{display_table, display_of}
use Rattle.rules.specs.Writing.{Parts, length_of, write_table, write_refusal, write_of}
use Rattle.rules.specs.Checking.{Source, check_table}
use Rattle.rules.specs.Packing.{pack_table, pack_refusal, pack_of}
use Rattle.laws.specs.Tables.{Clear}
use Rattle.theorems.specs.Replies.{Stops, RefusalFirst, numbers, Among, ReplyAmong, RowNumbers, Whole}
use Rattle.theorems.specs.Replies.{TakenOrRefused, RefusalKeeps, AcceptedFills}
use Rattle.laws.proofs.Rows.{is_true, numbered-append, zero_of}
use Rattle.laws.proofs.Judged.{own-numbered, own-zero, read-zero}

on-top : (test : Bool) (r : Refusal) (rows : List Row)
    → (Clear rows × (first rows ≡ refusal 0)) ⊎ Stops rows (first rows)
    → (Clear (given r test ∷ rows) × (cond test r (first rows) ≡ refusal 0)) ⊎ Stops (given r test ∷ rows)
    (cond test r (first rows))
on-top true r rows h = inr (record { above = []; below = rows; clear = tt; here = refl })
on-top false r rows (inl h) = inl ((refl, h.0), h.1)
on-top false r rows (inr h) =
    inr (record { above = given r false ∷ h.above; below = h.below; clear = (refl, h.clear); here = ap (λ (x : List Row). given r false ∷ x) h.here })

pub refusal-first : RefusalFirst
unfolding first first_or
refusal-first [] = inl (tt, refl)
refusal-first (given r test ∷ rows) = on-top test r rows (refusal-first rows)

pub refusal-keeps : RefusalKeeps
unfolding filled
refusal-keeps r front lent e = ap (λ (t : Bool). cond t (front ++ drop (length front) lent) lent) e

pub accepted_fills : AcceptedFills
unfolding filled length_of
accepted_fills r front lent t =
    let e = is_true (accepted r) t in
    let fill : filled r front lent ≡ front ++ drop (length front) lent = ap (λ (b : Bool). cond b (front ++ drop (length front) lent) lent) e in
    record {
      written = ap (take (length front)) fill ∙ take-append_seam front (drop (length front) lent);
      kept = ap (drop (length front)) fill ∙ drop-append_seam front (drop (length front) lent);
      len = ap (λ (b : Bool). cond b (length front) 0) e;
    }

-- so what a caller finds of the answered length is what was to be written
pub handed-is : (r : Refusal) (m out : List ℕ) → T (accepted r) → take (length_of r m).len (filled r m out) ≡ m
handed-is r m out t =
    let h = accepted_fills r m out t in
    ap (λ (k : ℕ). take k (filled r m out)) h.len ∙ h.written

among-on : (test : Bool) (r below : Refusal) (xs : List ℕ) → Among below.number (0 ∷ xs)
    → Among (cond test r below).number (0 ∷ r.number ∷ xs)
among-on true r below xs h = inr (inl refl)
among-on false r below xs (inl e) = inl e
among-on false r below xs (inr h) = inr (inr h)

pub reply-among : ReplyAmong
unfolding first first_or
reply-among [] = inl refl
reply-among (given r test ∷ rows) = among-on test r (first rows) (numbers rows) (reply-among rows)

pub row-numbers : RowNumbers
unfolding display_table read_table index_table cursor_table check_table write_table pack_table message_table walk_of walk_rows section_rows
row-numbers = record {
  reader = λ s lent. refl;
  lists = λ s lent values marks. refl;
  display = λ s lent. refl;
  index = λ s lent index. refl;
  cursor = λ s lent index c. refl;
  checker = λ s lent f. refl;
  writer = λ w out. refl;
  packer = λ pds form lent f out. refl;
}

-- what is answered by a reply: found or zeros
whole : {A : Type 0} (r : Refusal) → (accepted r ≡ true → r ≡ refusal 0) → (found zeros : A)
    → Whole r found zeros (answered r found zeros)
whole {A} r z found zeros = go (accepted r) refl
  where
    positive : (n : ℕ) → (n ≡ 0 → ⊥) → 0 < n
    positive n h = omega arith

    go : (b : Bool) → accepted r ≡ b → Whole r found zeros (answered r found zeros)
    go true e = inl (z e, ap (λ (b : Bool). cond b found zeros) e)
    go false e = inr (positive r.number (eqb-false r.number 0 e), ap (λ (b : Bool). cond b found zeros) e)

-- the tables of all that is answered: an accepted one's reply is refusal 0
display-zero : (s : List ℕ) (lent : Lent) → accepted (first (display_table s lent)) ≡ true
    → first (display_table s lent) ≡ refusal 0
unfolding display_table
display-zero s lent =
    zero_of (display_table s lent) (numbered-append (message_table s lent) _ (own-numbered s lent) tt)

index-zero : (s : List ℕ) (lent : Lent) (index : List ℕ) → accepted (index_refusal s lent index) ≡ true
    → index_refusal s lent index ≡ refusal 0
unfolding index_refusal index_table
index-zero s lent index =
    zero_of (index_table s lent index) (numbered-append (message_table s lent) _ (own-numbered s lent) tt)

cursor-zero : (s : List ℕ) (lent : Lent) (index : List ℕ) (c : Spot) → accepted (cursor_refusal s lent index c) ≡ true
    → cursor_refusal s lent index c ≡ refusal 0
unfolding cursor_refusal cursor_table
cursor-zero s lent index c =
    zero_of (cursor_table s lent index c) (numbered-append (message_table s lent) _ (own-numbered s lent) tt)

write-zero : (w : Parts) (out : List ℕ) → accepted (write_refusal w out) ≡ true → write_refusal w out ≡ refusal 0
unfolding write_refusal write_table
write-zero w out = zero_of (write_table w out) tt

pack-zero : (pds : List ℕ) (form : Form) (lent : Lent) (f : Source) (out : List ℕ)
    → accepted (pack_refusal pds form lent f out) ≡ true → pack_refusal pds form lent f out ≡ refusal 0
unfolding pack_refusal pack_table write_table
pack-zero pds form lent f out = zero_of (pack_table pds form lent f out) tt

pub taken_or_refused : TakenOrRefused
unfolding header_of read_of answer_by display_of bitmap_of numbering_of index_of cursor_of write_of pack_of length_of
taken_or_refused = record {
  header = λ s lent. whole (own_refusal s lent) (own-zero s lent) _ _;
  read = λ s lent values marks. whole (read_refusal s lent values marks) (read-zero s lent values marks) _ _;
  display = λ s lent. whole (first (display_table s lent)) (display-zero s lent) _ _;
  bitmap = λ s lent. whole (own_refusal s lent) (own-zero s lent) _ _;
  number = λ s lent i. whole (own_refusal s lent) (own-zero s lent) _ _;
  index = λ s lent index. (refl, whole (index_refusal s lent index) (index-zero s lent index) _ _);
  cursor = λ s lent index c. whole (cursor_refusal s lent index c) (cursor-zero s lent index c) _ _;
  write = λ w out. (refl, whole (write_refusal w out) (write-zero w out) _ _);
  pack = λ pds form lent f out. (refl, whole (pack_refusal pds form lent f out) (pack-zero pds form lent f out) _ _);
}
