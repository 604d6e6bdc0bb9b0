-- The header that rows 1 to 12 give: refused by an earlier row, refused by 12, or what the message says.
use Rattle.std.proofs.Common.{◌≡◌, ◌∙◌, refl, sym, ap, ap₂, Bool, true, false, cond, List, [], ◌∷◌, ◌++◌, ℕ}
use Rattle.std.specs.Prelude.{Result, Ok, Err}
use Rattle.rules.specs.declared.{Refusal.Refusal, Parsed.Parsed, Header.Header as Said}
use Rattle.bits.specs.Bits.{count}
use Rattle.rules.specs.Table.{row, refusal, first_or, first, accepted}
use Rattle.rules.specs.Answers.{Header, replied, said_by, header_reply, judged}
use Rattle.rules.specs.Places.{places_of}
use Rattle.rules.specs.Bitmap.{Lent, in_force, bitmap_octets, present_by}
use Rattle.rules.specs.Values.{the_length_bad}
use Rattle.laws.proofs.Judged.{rows_in_groups, own-zero, own-numbered}
use Rattle.reply.proofs.Stages.{or_append}
use Rattle.reply.proofs.Judged.{reply_is, then_judged, judged_append, judged-first, answer_after, replied_after}
use Rattle.rules.specs.Reading.{parsed_of, found_by, in_force_in, present_in, present_count, packing_in, message_table}
use Rattle.rules.specs.Reading.{refused_by, found_in, own_refusal, answer_by, header_of}
use Rattle.laws.specs.Groups.{layout_rows, grid_rows, data_rows, earlier_rows}

-- the stages of rows 1 to 11
pub stages : (s : List ℕ) (lent : Lent) (q : Parsed) (none x y r : Refusal) → none ≡ refusal 0
    → x ≡ first_or (data_rows s lent q.places.bms q.bitmap q.points q.packing) none
    → y ≡ first_or (grid_rows s q.places q.found) x → r ≡ first_or (layout_rows s) y
    → r ≡ first (earlier_rows s lent q)
unfolding first earlier_rows
stages s lent q none x y r en ex ey er =
    er ∙ ap (first_or (layout_rows s))
    (ey ∙ ap (first_or (grid_rows s q.places q.found))
    (ex ∙ ap (first_or (data_rows s lent q.places.bms q.bitmap q.points q.packing)) en))
    ∙ ap (first_or (layout_rows s))
    (sym (or_append (grid_rows s q.places q.found)
    (data_rows s lent q.places.bms q.bitmap q.points q.packing) (refusal 0)))
    ∙ sym (or_append (layout_rows s)
    (grid_rows s q.places q.found ++ data_rows s lent q.places.bms q.bitmap q.points q.packing)
    (refusal 0))

-- a header that is answered has the message's own refusal
answered-by : (b : Bool) (r : Refusal) (x : Header) → x.refusal ≡ refusal 0 → (accepted r ≡ true → r ≡ refusal 0)
    → accepted r ≡ b
    → header_reply (cond b x (refused_by r)) ≡ cond b (Ok (said_by x)) (Err r)
unfolding refused_by
answered-by true r x e z h = rw e
answered-by false r x e z h = rw h

module _ (s : List ℕ) (lent : Lent) where
  -- the header that a refusal answers, and the message's own
  pub by-refusal : (r : Refusal) → (accepted r ≡ true → r ≡ refusal 0)
      → header_reply (answer_by r s lent) ≡ replied r (said_by (found_in s lent))
  unfolding answer_by found_in found_by
  by-refusal r z = answered-by (accepted r) r (found_in s lent) refl z refl

  pub by-own : header_reply (header_of s lent) ≡ replied (own_refusal s lent) (said_by (found_in s lent))
  unfolding header_of
  by-own = by-refusal (own_refusal s lent) (own-zero s lent)

  abbrev late : Bool
  late = the_length_bad s (places_of s).bds (present_count s lent) (packing_in s)

  -- and by the rows
  by-rows : header_reply (header_of s lent)
      ≡ answer_after (then_judged (judged (earlier_rows s lent (parsed_of s))) (cond late (Err (refusal 12)) (Ok tt))) (said_by (found_in s lent))
  unfolding own_refusal judged
  by-rows =
      by-own
      ∙ replied_after (own_refusal s lent) (said_by (found_in s lent))
      ∙ ap (λ (x : Result (Unit {0}) Refusal). answer_after x (said_by (found_in s lent)))
      (sym (judged-first (message_table s lent) (own-numbered s lent))
      ∙ ap judged (rows_in_groups s lent)
      ∙ judged_append (earlier_rows s lent (parsed_of s)) (row 12 late ∷ []))

  -- what was read is what the message says
  module _ (q : Parsed) (eq : q ≡ parsed_of s) where
    rows_of : {x : Result (Unit {0}) Refusal} → x ≡ judged (earlier_rows s lent q) → judged (earlier_rows s lent (parsed_of s)) ≡ x
    rows_of e = sym (e ∙ ap (λ (x : Parsed). judged (earlier_rows s lent x)) eq)

    pub early : (r : Refusal) → Err r ≡ judged (earlier_rows s lent q) → Err r ≡ header_reply (header_of s lent)
    early r e = sym (by-rows ∙ rw (rows_of e))

    module _ (u : Unit {0}) (eu : Ok u ≡ judged (earlier_rows s lent q))
        (m : ℕ) (em : m ≡ count (present_by q.bitmap (bitmap_octets s lent.octets (in_force q.bitmap q.places.bms q.points))) 0 q.points)
        (t : Bool) (et : t ≡ the_length_bad s q.places.bds m q.packing) where
      m-of : m ≡ present_count s lent
      unfolding parsed_of present_count present_in in_force_in
      m-of = em
          ∙ ap {B = ℕ}
          (λ (x : Parsed). count
          (present_by x.bitmap (bitmap_octets s lent.octets (in_force x.bitmap x.places.bms x.points))) 0
          x.points) eq

      t_of : t ≡ late
      unfolding parsed_of
      t_of = et ∙ ap₂ (λ (x : Parsed) (k : ℕ). the_length_bad s x.places.bds k x.packing) eq m-of

      on-twelve : header_reply (header_of s lent)
          ≡ answer_after (cond t (Err (refusal 12)) (Ok tt)) (said_by (found_in s lent))
      on-twelve = by-rows ∙ rw (rows_of eu, t_of)

      pub length : (r : Refusal) → reply_is (Err r) (refusal 12) t → Err r ≡ header_reply (header_of s lent)
      length r e = sym (on-twelve ∙ rw (← e))

      pub found : (v : Unit {0}) → reply_is (Ok v) (refusal 12) t → (h : Said) → h ≡ said_by (found_by s q m)
          → Ok h ≡ header_reply (header_of s lent)
      unfolding found_in
      found v e h k =
          ap Ok (k ∙ ap₂ (λ (x : Parsed) (i : ℕ). said_by (found_by s x i)) eq m-of)
          ∙ sym (on-twelve ∙ rw (← e))
