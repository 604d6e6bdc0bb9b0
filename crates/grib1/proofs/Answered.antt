-- The answers of the rules, back from the replies that code gives: of a taken message the reply is refusal 0, and of a
-- refused one all else is zero.
use Rattle.std.proofs.Common.{◌≡◌, ◌∙◌, refl, sym, ap, Bool, true, false, cond, List, [], ◌∷◌, ◌++◌, length, ℕ}
use Rattle.std.specs.Prelude.{Result, Ok, Err}
use lib.Dec.{eqb, eqb→eq, T}
use borrow.Author.Tests.{eqb-true}
use lib.Ieee.{binary64, of_bits}
use Rattle.rules.specs.declared.{Refusal.Refusal, Header.Header as Said, Display.Display as Shown, Form.Form}
use Rattle.rules.specs.Answers.{Header, Written, Indexed, Display, replied, said_by, header_reply, length_reply, entries_reply}
use Rattle.rules.specs.Answers.{display_reply, check_reply}
use Rattle.rules.specs.Table.{Row, refusal, accepted, answered, first}
use Rattle.rules.specs.Bitmap.{Lent}
use Rattle.rules.specs.Reading.{found_by, found_in, refused_by, own_refusal, answer_by, header_of, read_refusal, read_of}
use Rattle.rules.specs.Reading.{message_table, points_in, the_scale_in}
use Rattle.rules.specs.Cursor.{the_groups_for, index_table, index_refusal, index_of}
use Rattle.rules.specs.Display.{shown_reference, shown_step, display_table, display_of}
use Rattle.rules.specs.Writing.{Parts, message, write_refusal, length_of, write_of, length_for}
use Rattle.rules.specs.Checking.{Source, check_table, check_of}
use Rattle.rules.specs.Packing.{pack_of}
use Rattle.laws.proofs.Rows.{Numbered, numbered-append, zero_of}
use Rattle.laws.proofs.Judged.{own-numbered, own-zero, read-zero}
use Rattle.message.proofs.Laws.{by-refusal}
use Rattle.records.specs.Records.{header_answer, display_answer, length_answer, entries_answer, check_answer}
use Rattle.records.specs.Records.{the_written_record}

-- headers
header_by : (s : List ℕ) (lent : Lent) (r : Refusal) (b : Bool)
    → header_answer (cond b (Ok (said_by (found_in s lent))) (Err r)) ≡ cond b (found_in s lent) (refused_by r)
unfolding found_in found_by
header_by s lent r true = refl
header_by s lent r false = refl

header_back : (s : List ℕ) (lent : Lent) (r : Refusal) → (accepted r ≡ true → r ≡ refusal 0)
    → header_answer (header_reply (answer_by r s lent)) ≡ answer_by r s lent
unfolding answer_by
header_back s lent r z = ap header_answer (by-refusal s lent r z) ∙ header_by s lent r (accepted r)

pub header-is : (s : List ℕ) (lent : Lent) (a : Result Said Refusal) → a ≡ header_reply (header_of s lent)
    → header_answer a ≡ header_of s lent
unfolding header_of
header-is s lent a e = ap header_answer e ∙ header_back s lent (own_refusal s lent) (own-zero s lent)

pub read-is : (s : List ℕ) (lent : Lent) (values marks : List ℕ) (a : Result Said Refusal)
    → a ≡ header_reply (read_of s lent values marks) → header_answer a ≡ read_of s lent values marks
unfolding read_of
read-is s lent values marks a e =
    ap header_answer e ∙ header_back s lent (read_refusal s lent values marks) (read-zero s lent values marks)

-- the reply of a table whose rows all have a number
zero-first : (rows more : List Row) → Numbered rows → Numbered more → accepted (first (rows ++ more)) ≡ true
    → first (rows ++ more) ≡ refusal 0
zero-first rows more n m = zero_of (rows ++ more) (numbered-append rows more n m)

-- a display
display_by : (r : Refusal) (x : Shown) (b : Bool) → accepted r ≡ b → (b ≡ true → r ≡ refusal 0)
    → display_answer
    (display_reply
    (cond b (record { refusal = r; reference = x.reference; step = x.step })
    (record { refusal = r; reference = of_bits binary64 0; step = of_bits binary64 0 })))
    ≡ cond b (record { refusal = r; reference = x.reference; step = x.step })
    (record { refusal = r; reference = of_bits binary64 0; step = of_bits binary64 0 })
display_by r x true e z = rw e (ap (λ (q : Refusal). record { refusal = q; reference = x.reference; step = x.step }) (sym (z refl)))
display_by r x false e z = rw e refl

pub display-is : (s : List ℕ) (lent : Lent) (a : Result Shown Refusal) → a ≡ display_reply (display_of s lent)
    → display_answer a ≡ display_of s lent
unfolding display_of display_table
display-is s lent a e =
    ap display_answer e
    ∙ display_by (first (display_table s lent))
    (record { reference = shown_reference (the_scale_in s).r; step = shown_step (the_scale_in s).e.value })
    (accepted (first (display_table s lent))) refl
    (zero-first (message_table s lent) _ (own-numbered s lent) tt)

-- a length: of it C is told no section
written-by : (r : Refusal) (n : ℕ) (b : Bool) → accepted r ≡ b
    → the_written_record (length_answer (cond b (Ok (cond b n 0)) (Err r))) ≡ record { reply = r.number; len = cond b n 0 }
written-by r n true e = ap (λ (k : ℕ). record { reply = k; len = n }) (sym (eqb-true r.number 0 e))
written-by r n false e = refl

written-of : (r : Refusal) (s : List ℕ) → the_written_record (length_answer (length_reply (length_of r s))) ≡ the_written_record (length_of r s)
unfolding length_of
written-of r s = written-by r (length s) (accepted r) refl

pub write-is : (w : Parts) (out : List ℕ) (a : Result ℕ Refusal) → a ≡ length_reply (write_of w out)
    → the_written_record (length_answer a) ≡ the_written_record (write_of w out)
unfolding write_of
write-is w out a e =
    ap (λ (x : Result ℕ Refusal). the_written_record (length_answer x)) e ∙ written-of (write_refusal w out) (message w)

pub pack-is : (pds : List ℕ) (form : Form) (lent : Lent) (f : Source) (out : List ℕ) (a : Result ℕ Refusal)
    → a ≡ length_reply (pack_of pds form lent f out)
    → the_written_record (length_answer a) ≡ the_written_record (pack_of pds form lent f out)
unfolding pack_of
pack-is pds form lent f out a e = ap (λ (x : Result ℕ Refusal). the_written_record (length_answer x)) e ∙ written-of _ _

pub length-is : (pds : List ℕ) (form : Form) (lent : Lent) (marks : List ℕ) (a : Result ℕ Refusal)
    → a ≡ length_reply (length_for pds form lent marks)
    → the_written_record (length_answer a) ≡ the_written_record (length_for pds form lent marks)
unfolding length_for write_of
length-is pds form lent marks a e = ap (λ (x : Result ℕ Refusal). the_written_record (length_answer x)) e ∙ written-of _ _

-- entries
entries-by : (r : Refusal) (n : ℕ) (b : Bool) → accepted r ≡ b → (b ≡ true → r ≡ refusal 0)
    → ◌≡◌ {A = Indexed} (entries_answer (cond b (Ok (cond b n 0)) (Err r))) (record { refusal = r; entries = cond b n 0 })
entries-by r n true e z = ap (λ (q : Refusal). record { refusal = q; entries = n }) (sym (z refl))
entries-by r n false e z = refl

pub index-is : (s : List ℕ) (lent : Lent) (index : List ℕ) (a : Result ℕ Refusal) → a ≡ entries_reply (index_of s lent index)
    → entries_answer a ≡ index_of s lent index
unfolding index_of index_refusal index_table
index-is s lent index a e =
    ap entries_answer e
    ∙ entries-by (index_refusal s lent index) (the_groups_for (points_in s)) (accepted (index_refusal s lent index)) refl
    (zero-first (message_table s lent) _ (own-numbered s lent) tt)

-- the check's reply
check-by : (r : Refusal) (b : Bool) → (b ≡ true → r ≡ refusal 0) → check_answer (cond b (Ok tt) (Err r)) ≡ r
check-by r true z = sym (z refl)
check-by r false z = refl

pub check-is : (s : List ℕ) (lent : Lent) (f : Source) (a : Result (Unit {0}) Refusal) → a ≡ check_reply (check_of s lent f)
    → check_answer a ≡ check_of s lent f
unfolding check_of check_table
check-is s lent f a e =
    ap check_answer e
    ∙ check-by (check_of s lent f) (accepted (check_of s lent f)) (zero-first (message_table s lent) _ (own-numbered s lent) tt)
