-- The answers of check, length, write and pack at the numbers given, as records.
use Rattle.std.proofs.Common.{◌≡◌, ◌∙◌, refl, ap, List, ℕ, ℤ}
use Rattle.std.specs.Prelude.{Result, Ok, Err}
use Rattle.rules.specs.declared.{Refusal.Refusal, Form.Form, Scale.Scale}
use Rattle.rules.specs.Answers.{length_reply, check_reply}
use Rattle.rules.specs.Bitmap.{Lent}
use Rattle.rules.specs.Writing.{write_of, output_after, length_for}
use Rattle.rules.specs.Checking.{check_of}
use Rattle.rules.specs.Packing.{pack_of, packed_after}
use Rattle.framing.specs.Given.{parts}
use Rattle.records.specs.declared.{WrittenRecord.WrittenRecord, CheckRecord.CheckRecord}
use Rattle.records.specs.declared.forms.{FormRecord.FormRecord}
use Rattle.records.specs.Forms.{the_form_by, the_scale_by}
use Rattle.records.specs.Records.{the_written_record, the_check_record, length_answer, check_answer}
use Rattle.grib1.proofs.Answered.{check-is, length-is, write-is, pack-is}

pub check-made : (s : List ℕ) (lent : Lent) (numbers : List ℤ) (marks : List ℕ) (d d' : ℤ)
    → d' ≡ d
    → (a : Result (Unit {0}) Refusal)
    → a ≡ check_reply (check_of s lent (record { numbers = numbers; marks = marks; d = d' }))
    → (x : CheckRecord) → x ≡ the_check_record (check_answer a)
    → x ≡ the_check_record (check_of s lent (record { numbers = numbers; marks = marks; d = d }))
check-made s lent numbers marks d d' e a q x p = p ∙ ap the_check_record (check-is s lent _ a q) ∙ rw e

pub length-made : (pds : List ℕ) (form : FormRecord) (form' : Form) (lent : Lent) (marks : List ℕ)
    → form' ≡ the_form_by form
    → (a : Result ℕ Refusal) → a ≡ length_reply (length_for pds form' lent marks)
    → (x : WrittenRecord) → x ≡ the_written_record (length_answer a)
    → x ≡ the_written_record (length_for pds (the_form_by form) lent marks)
length-made pds form form' lent marks f a q x p = p ∙ length-is pds form' lent marks a q ∙ rw f

pub write-made : (pds : List ℕ) (form : FormRecord) (form' : Form) (e : ℤ) (r : ℕ) (scale : Scale) (number : ℕ) (store values marks out : List ℕ)
    → form' ≡ the_form_by form
    → scale ≡ the_scale_by e r
    → (a : Result ℕ Refusal) → a ≡ length_reply (write_of (parts pds form' scale number store values marks) out)
    → (o : List ℕ) → o ≡ output_after (parts pds form' scale number store values marks) out
    → (x : WrittenRecord) → x ≡ the_written_record (length_answer a)
    → (x ≡ the_written_record (write_of (parts pds (the_form_by form) (the_scale_by e r) number store values marks) out))
    × (o ≡ output_after (parts pds (the_form_by form) (the_scale_by e r) number store values marks) out)
write-made pds form form' e r scale number store values marks out f q a qa o qo x p =
    (p ∙ write-is _ out a qa ∙ rw (f, q), rw (qo, f, q))

pub pack_made : (pds : List ℕ) (form : FormRecord) (form' : Form) (lent : Lent) (numbers : List ℤ) (marks : List ℕ) (d d' : ℤ) (out : List ℕ)
    → form' ≡ the_form_by form
    → d' ≡ d
    → (a : Result ℕ Refusal)
    → a ≡ length_reply (pack_of pds form' lent (record { numbers = numbers; marks = marks; d = d' }) out)
    → (o : List ℕ) → o ≡ packed_after pds form' lent (record { numbers = numbers; marks = marks; d = d' }) out
    → (x : WrittenRecord) → x ≡ the_written_record (length_answer a)
    → (x ≡ the_written_record (pack_of pds (the_form_by form) lent (record { numbers = numbers; marks = marks; d = d }) out))
    × (o ≡ packed_after pds (the_form_by form) lent (record { numbers = numbers; marks = marks; d = d }) out)
pack_made pds form form' lent numbers marks d d' out f q a qa o qo x p =
    (p ∙ pack-is pds form' lent _ out a qa ∙ rw (f, q), rw (qo, f, q))
