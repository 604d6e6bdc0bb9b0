-- Our codec meets every demand: each is a theorem of `theorems`, and a reply is its table's by the definition of the
-- answer.
use Prim.Native.Nat.{ℕ, ◌≤◌}
use mathlib.Core.Bool.{Bool, true, false, cond}
use mathlib.Core.Path.{◌≡◌, refl, sym, subst, ◌∙◌, ap}
use mathlib.Core.List.{List}
use lib.Dec.{T}
use lib.ListN.{length}
use Rattle.rules.specs.declared.{Refusal.Refusal}
use Rattle.rules.specs.Table.{refusal, accepted, filled}
use Rattle.rules.specs.Bitmap.{Lent}
use Rattle.rules.specs.Reading.{present_count, found_by, found_in, refused_by, answer_by, read_refusal, read_of, the_values_after}
use Rattle.rules.specs.Reading.{the_marks_after}
use Rattle.rules.specs.Writing.{length_of, write_refusal, write_of, output_after}
use Rattle.rules.specs.Checking.{check_of}
use Rattle.rules.specs.Packing.{pack_refusal, pack_of, packed_after}
use Rattle.laws.proofs.Rows.{is_true}
use Rattle.laws.proofs.Judged.{read-zero}
use Rattle.theorems.proofs.Replies.{refusal-keeps}
use Rattle.theorems.proofs.Told.{read-tells}
use Rattle.theorems.proofs.Returned.{read-after-write}
use Rattle.theorems.proofs.Calls.{read-then-write}
use Rattle.theorems.proofs.Points.{value-at-point, read_keeps}
use Rattle.theorems.proofs.Reoffered.{points-for}
use Rattle.theorems.proofs.Checked.{check_exactly}
use Rattle.theorems.proofs.Packs.{packed-passes, pack_exactly}
use Rattle.standins.specs.Codec.{RepliesByTable, WrittenNothing, KeepsWhenRefused, ReadsAll, ValuesAtPoints}
use Rattle.standins.specs.Codec.{LaterStay, CountsPresent, ReadsBack, WritesBack, ChecksExactly, PassesCheck}
use Rattle.standins.specs.Codec.{PacksExactly, Meets}
use Rattle.standins.specs.Standins.{ours}

-- a header has the reply that it was answered by
told-reply : (r : Refusal) → (accepted r ≡ true → r ≡ refusal 0) → (s : List ℕ) (lent : Lent)
    → (answer_by r s lent).refusal ≡ r
unfolding answer_by found_in found_by refused_by
told-reply r z s lent = go (accepted r) refl
  where
    go : (b : Bool) → accepted r ≡ b → (cond (accepted r) (found_in s lent) (refused_by r)).refusal ≡ r
    go true e =
        ap (λ (b : Bool). (cond b (found_in s lent) (refused_by r)).refusal) e ∙ sym (z e)
    go false e = ap (λ (b : Bool). (cond b (found_in s lent) (refused_by r)).refusal) e

module _ (s : List ℕ) (lent : Lent) (values marks : List ℕ) where
  read-reply : (read_of s lent values marks).refusal ≡ read_refusal s lent values marks
  unfolding read_of
  read-reply = told-reply (read_refusal s lent values marks) (read-zero s lent values marks) s lent

  read_by : T (accepted (read_of s lent values marks).refusal) → T (accepted (read_refusal s lent values marks))
  read_by = subst (λ (r : Refusal). T (accepted r)) read-reply

reads : ReadsAll ours
reads s lent t values marks rv rm =
    let n = points-for s lent t in
    read-tells s lent values marks t (subst (λ (k : ℕ). k ≤ length values) n rv)
    (subst (λ (k : ℕ). k ≤ length marks) n rm)

points : ValuesAtPoints ours
points s lent values marks a = value-at-point s lent values marks (read_by s lent values marks a)

later : LaterStay ours
later s lent values marks a = read_keeps s lent values marks (read_by s lent values marks a)

counts : CountsPresent ours
unfolding read_of answer_by found_in found_by present_count
counts s lent values marks a =
    let r = read_refusal s lent values marks in
    ap (λ (b : Bool). (cond b (found_in s lent) (refused_by r)).present)
    (is_true (accepted r) (read_by s lent values marks a))

back : ReadsBack ours
unfolding write_of length_of
back w out gf nf rf a =
    let h = read-after-write w out gf nf rf a in
    record { taken = h.taken; parts = h.parts; reads = h.tells }

again : WritesBack ours
unfolding write_of length_of
again s out lent values marks below t c rv rm room = read-then-write s out lent values marks below t c rv rm room

checks : ChecksExactly ours
checks = check_exactly

packs : PacksExactly ours
unfolding pack_of length_of
packs pds form lent f out = pack_exactly pds form lent f out

passes : PassesCheck ours
unfolding pack_of length_of
passes pds form lent f out gf nf a = (check_exactly _ lent f).0 (packed-passes pds form lent f out gf nf a)

replies : RepliesByTable ours
unfolding read_refusal write_of write_refusal length_of check_of pack_of pack_refusal
replies = record { reader = read-reply; writer = λ w out. refl; checker = λ s lent f. refl; packer = λ pds form lent f out. refl }

-- what is written of a refused message
none_written : (r : Refusal) (m out : List ℕ) → WrittenNothing (length_of r m) (filled r m out) out
unfolding length_of
none_written r m out e = (ap (λ (b : Bool). cond b (length m) 0) e, refusal-keeps r m out e)

keeps : KeepsWhenRefused ours
unfolding read_of answer_by the_values_after the_marks_after write_of output_after pack_of packed_after
keeps = record {
  reader = λ s lent values marks e.
      let r = read_refusal s lent values marks in
      let q = read-reply s lent values marks in
      let n : accepted r ≡ false = ap accepted (sym q) ∙ e in (
        ap (λ (b : Bool). cond b (found_in s lent) (refused_by r)) n
            ∙ ap refused_by (sym q),
        refusal-keeps r _ values n,
        refusal-keeps r _ marks n,
      );
  writer = λ w out. none_written (write_refusal w out) _ out;
  packer = λ pds form lent f out. none_written (pack_refusal pds form lent f out) _ out;
}

pub ours_meets : Meets ours
ours_meets = record {
  replies = replies;
  keeps = keeps;
  reads = reads;
  points = points;
  later = later;
  counts = counts;
  back = back;
  again = again;
  checks = checks;
  passes = passes;
  packs = packs;
}
