-- What a message shows: refused by its own rows, by 16, or shown; each from the header and one more row.
use Rattle.std.proofs.Common.{◌≡◌, ◌∙◌, refl, sym, ap, subst, Bool, true, false, not, cond, ◌||◌, List, ℕ}
use Rattle.std.specs.Prelude.{Result, Ok, Err}
use lib.Dec.{T}
use lib.Signed.{lt_z, lt_z_no, ◌≤ℤ◌}
use lib.Ieee.{binary64, of_bits}
use Rattle.rules.specs.declared.{Refusal.Refusal, Scale.Scale, Header.Header, Display.Display as Shown}
use Rattle.rules.specs.Answers.{Display, header_reply, display_reply, replied}
use Rattle.rules.specs.Bounds.{shown_least, shown_most}
use Rattle.rules.specs.Table.{refusal, accepted, first}
use Rattle.rules.specs.Bitmap.{Lent}
use Rattle.rules.specs.Reading.{header_of, own_refusal, the_scale_in}
use Rattle.rules.specs.Display.{shown_reference, shown_step, display_table, display_of}
use Rattle.reply.proofs.Judged.{reply_is, passed_as, stopped-as}
use Rattle.message.proofs.Stages.{one_more}
use Rattle.message.proofs.Said as S

blank : Refusal → Display
blank r = record { refusal = r; reference = of_bits binary64 0; step = of_bits binary64 0 }

full : Refusal → Scale → Display
full r c = record { refusal = r; reference = shown_reference c.r; step = shown_step c.e.value }

abbrev pub doubles : Scale → Shown
doubles c = record { reference = shown_reference c.r; step = shown_step c.e.value }

abbrev beyond : Scale → Bool
beyond c = lt_z c.e.value shown_least || lt_z shown_most c.e.value

-- past the test E is in range
no : (b c : Bool) → (b || c) ≡ false → T (not b) × T (not c)
no true c q = absurd (subst T q tt)
no false true q = absurd (subst T q tt)
no false false q = (tt, tt)

pub in_range : (c : Scale) (t : Bool) → t ≡ beyond c → t ≡ false
    → (shown_least ≤ℤ c.e.value) × (c.e.value ≤ℤ shown_most)
in_range c t q k =
    let n = no (lt_z c.e.value shown_least) (lt_z shown_most c.e.value) (sym q ∙ k) in
    (lt_z_no n.0, lt_z_no n.1)

-- what is answered, by its refusal
reply_by : (b : Bool) (x : Refusal) (c : Scale) → accepted x ≡ b
    → display_reply (cond b (full x c) (blank x)) ≡ cond b (Ok (doubles c)) (Err x)
unfolding full blank
reply_by true x c h = rw h
reply_by false x c h = rw h

module _ (s : List ℕ) (lent : Lent) where
  table : first (display_table s lent)
      ≡ cond (accepted (own_refusal s lent)) (cond (beyond (the_scale_in s)) (refusal 16) (refusal 0)) (own_refusal s lent)
  unfolding display_table
  table = one_more s lent 16 (beyond (the_scale_in s))

  answer : (x : Refusal) → first (display_table s lent) ≡ x
      → display_reply (display_of s lent) ≡ replied x (doubles (the_scale_in s))
  unfolding display_of full blank
  answer x q =
      ap (λ (r : Refusal). display_reply (cond (accepted r) (full r (the_scale_in s)) (blank r))) q
      ∙ reply_by (accepted x) x (the_scale_in s) refl

  pub early : (r : Refusal) → Err r ≡ header_reply (header_of s lent) → Err r ≡ display_reply (display_of s lent)
  early r e =
      let f = S.refused s lent r e in
      let own : first (display_table s lent) ≡ own_refusal s lent = table ∙ rw f.0 in
      ap Err f.1 ∙ sym (answer (own_refusal s lent) own ∙ rw f.0)

  module _ (h : Header) (e : Ok h ≡ header_reply (header_of s lent)) (t : Bool) (et : t ≡ beyond h.scale) where
    test : beyond (the_scale_in s) ≡ t
    test = ap beyond (sym (S.scale_of s lent h e)) ∙ sym et

    told : first (display_table s lent) ≡ cond t (refusal 16) (refusal 0)
    told = table ∙ rw (S.taken s lent h e, test)

    pub late : (r : Refusal) → reply_is (Err r) (refusal 16) t → Err r ≡ display_reply (display_of s lent)
    late r k = let f = stopped-as t (refusal 16) r k in ap Err f.1 ∙ sym (answer (refusal 16) (told ∙ rw f.0))

    pub found : (u : Unit {0}) → reply_is (Ok u) (refusal 16) t → (d : Shown) → d ≡ doubles h.scale
        → Ok d ≡ display_reply (display_of s lent)
    found u k d q =
        ap Ok (q ∙ ap doubles (S.scale_of s lent h e))
        ∙ sym (answer (refusal 0) (told ∙ rw (passed_as t (refusal 16) u k)))
