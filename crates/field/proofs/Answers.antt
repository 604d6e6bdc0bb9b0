-- What reading answers: refused by the message's own rows, by 14, or both lists filled; from the header and one more
-- row.
use mathlib.Core.Path.{◌≡◌, refl, sym, ap, ◌∙◌, subst}
use mathlib.Core.Bool.{Bool, true, false, ◌||◌, cond}
use mathlib.Core.List.{List, ◌++◌}
use Prim.Native.Nat.{ℕ, ◌+◌, ◌*◌, ◌≤◌}
use native.Mathlib.Omega.{arith}
use borrow.Author.Tests.{ltb-false}
use lib.Dec.{T, ltb}
use lib.ListN.{length, drop}
use Rattle.std.specs.Prelude.{Result, Ok, Err}
use Rattle.rules.specs.declared.{Refusal.Refusal, Places.Places, Header.Header}
use Rattle.rules.specs.Answers.{said_by, header_reply}
use Rattle.reply.proofs.Judged.{reply_is, stopped-as}
use Rattle.message.proofs.Laws.{by-refusal}
use Rattle.bits.specs.Bits.{bits_in, count, runs}
use Rattle.bits.specs.Tables.{tab}
use Rattle.bits.proofs.Fill.{length-tab}
use Rattle.rules.specs.Bounds.{message_most, the_bits_most, bds_head}
use Rattle.rules.specs.Table.{refusal, accepted, filled}
use Rattle.rules.specs.Places.{after}
use Rattle.rules.specs.Bitmap.{Lent, in_force, present_by, bitmap_octets, marks_long}
use Rattle.rules.specs.Points.{scattered}
use Rattle.rules.specs.Reading.{parsed_of, found_by, found_in, refused_by, own_refusal, answer_by, header_of, in_force_in}
use Rattle.rules.specs.Reading.{points_in, present_in, present_count, values_in, marks_in, read_table, read_refusal}
use Rattle.rules.specs.Reading.{read_of, the_values_after, the_marks_after}
use Rattle.bits.proofs.Tests.{or_false}
use Rattle.laws.proofs.Rows.{inside}
use Rattle.laws.proofs.Judged.{own-zero}
use Rattle.laws.proofs.Data.{size-most, data_runs}
use Rattle.laws.proofs.Sections.{sections}
use Rattle.laws.proofs.Bounded.{bitmap-inside}
use Rattle.bitreader.specs.Taken.{the_data_place}
use Rattle.bitreader.proofs.Places.{data_begins}
use Rattle.marks.specs.Marks.{marked_by}
use Rattle.marks.proofs.Bitmaps.{marked-fits}
use Rattle.message.proofs.Stages.{one_more}
use Rattle.message.proofs.Said as S

module _ (s : List ℕ) (lent : Lent) (v w : List ℕ) where
  -- what was answered, and the two lists afterwards
  abbrev pub Answered : Result Header Refusal → List ℕ → List ℕ → Type 0
  Answered a x y = (a ≡ header_reply (read_of s lent v w)) × ((x ≡ the_values_after s lent v w) × (y ≡ the_marks_after s lent v w))

  abbrev short : Bool
  short = ltb (length v) (points_in s) || ltb (length w) (marks_long (points_in s))

  refusal-by : (t : Bool) → t ≡ short
      → read_refusal s lent v w
      ≡ cond (accepted (own_refusal s lent)) (cond t (refusal 14) (refusal 0)) (own_refusal s lent)
  unfolding read_refusal read_table
  refusal-by t e =
      one_more s lent 14 short
      ∙ ap (λ (x : Bool). cond (accepted (own_refusal s lent)) (cond x (refusal 14) (refusal 0)) (own_refusal s lent))
      (sym e)

  unchanged : (r : Refusal) → read_refusal s lent v w ≡ r → accepted r ≡ false → Answered (Err r) v w
  unfolding read_of the_values_after the_marks_after filled
  unchanged r e n = (
    sym (ap (λ (x : Refusal). header_reply (answer_by x s lent)) e ∙ by-refusal s lent r (λ q. absurd (cc (sym q ∙ n))) ∙ rw n),
    (
      sym (ap (λ (x : Refusal). filled x (values_in s lent) v) e ∙ rw n),
      sym
          (ap (λ (x : Refusal). filled x (marks_in s lent) w) e ∙ rw n),
    ),
  )

  pub refused : (r : Refusal) → Err r ≡ header_reply (header_of s lent) → Answered (Err r) v w
  refused r e =
      let f = S.refused s lent r e in
      let own : read_refusal s lent v w ≡ own_refusal s lent = refusal-by short refl ∙ rw f.0 in
      let q = unchanged (own_refusal s lent) own f.0 in
      (ap Err f.1 ∙ q.0, q.1)

  module _ (h : Header) (e : Ok h ≡ header_reply (header_of s lent)) where
    took : T (accepted (own_refusal s lent))
    took = subst T (sym (S.taken s lent h e)) tt

    points : h.points ≡ points_in s
    points = S.points-of s lent h e

    -- the test, with the length of n marks as it was asked for
    abbrev tested : ℕ → Bool
    tested k = ltb (length v) h.points || ltb (length w) k

    tested-is : (k : ℕ) → k ≡ marks_long h.points → tested k ≡ short
    tested-is k l = ap tested l ∙ ap (λ (x : ℕ). ltb (length v) x || ltb (length w) (marks_long x)) points

    refusal_is : (k : ℕ) → k ≡ marks_long h.points → (t : Bool) → tested k ≡ t
        → read_refusal s lent v w ≡ cond t (refusal 14) (refusal 0)
    refusal_is k l t q = refusal-by t (sym q ∙ tested-is k l) ∙ rw (S.taken s lent h e)

    pub too_short : (k : ℕ) → k ≡ marks_long h.points → (r : Refusal) → reply_is (Err r) (refusal 14) (tested k)
        → Answered (Err r) v w
    too_short k l r q =
        let f = stopped-as (tested k) (refusal 14) r q in
        let a = unchanged (refusal 14) (refusal_is k l true f.0) refl in
        (ap Err f.1 ∙ a.0, a.1)

    -- what filling asks
    pub narrow : h.packing.bits ≤ the_bits_most
    narrow = S.narrow s lent h e

    pub counted : h.present
        ≡ count (present_by h.bitmap
        (bitmap_octets s lent.octets (in_force h.bitmap h.places.bms h.points))) 0 h.points
    unfolding present_count present_in in_force_in found_in found_by parsed_of
    counted =
        S.present-of s lent h e
        ∙ sym (ap {B = ℕ}
        (λ (q : Header). count
        (present_by q.bitmap (bitmap_octets s lent.octets (in_force q.bitmap q.places.bms q.points))) 0
        q.points) (S.said s lent h e))

    pub lies : after (in_force h.bitmap h.places.bms h.points).part ≤ length
        (cond (in_force h.bitmap h.places.bms h.points).stored lent.octets s)
    unfolding in_force_in found_in found_by parsed_of
    lies =
        subst (λ (q : Header). after (in_force q.bitmap q.places.bms q.points).part ≤ length
        (cond (in_force q.bitmap q.places.bms q.points).stored lent.octets s))
        (sym (S.said s lent h e)) (bitmap-inside s lent took)

    pub room : (k : ℕ) → k ≡ marks_long h.points → tested k ≡ false
        → (h.points ≤ length v) × (marks_long h.points ≤ length w)
    room k l q =
        let o = or_false (ltb (length v) h.points) (ltb (length w) k) q in
        (ltb-false _ _ o.0, subst (λ (x : ℕ). x ≤ length w) l (ltb-false _ _ o.1))

    -- the data's place is no large number
    pub early : h.places.bds.start ≤ message_most
    early =
        subst (λ (x : Places). x.bds.start ≤ message_most) (sym (S.places-of s lent h e))
        (omega (arith, (sections s lent took).end, size-most s lent took))

    -- the lists by the header, and by the definitions
    abbrev by : Header → ℕ → ℕ
    by q = present_by q.bitmap (bitmap_octets s lent.octets (in_force q.bitmap q.places.bms q.points))

    abbrev values_by : Header → List ℕ
    values_by q = scattered (by q)
        (runs (bits_in 8 s) ((q.places.bds.start + bds_head) * 8) q.packing.bits q.present) q.points

    -- where the values begin
    abbrev begun : ℕ → List ℕ
    begun at = scattered (by h) (runs (bits_in 8 s) at h.packing.bits h.present) h.points

    begins : the_data_place h.places.bds.start ≡ (h.places.bds.start + bds_head) * 8
    begins = data_begins h.places.bds.start (omega (arith, early))

    values_are : values_by h ++ drop h.points v ≡ values_in s lent ++ drop (length (values_in s lent)) v
    unfolding values_in present_in in_force_in found_in found_by parsed_of scattered
    values_are =
        ap (λ (q : Header). values_by q ++ drop q.points v) (S.said s lent h e)
        ∙ ap (λ (xs : List ℕ). scattered (present_in s lent) xs (points_in s) ++ drop (points_in s) v)
        (sym (data_runs s lent))
        ∙ ap (λ (k : ℕ). values_in s lent ++ drop k v) (sym (length-tab _ (points_in s)))

    marks_are : h.points ≤ length w
        → marked_by (by h) h.points w ≡ marks_in s lent ++ drop (length (marks_in s lent)) w
    unfolding marks_in present_in in_force_in found_in found_by parsed_of
    marks_are l =
        marked-fits (by h) h.points w l
        ∙ ap (λ (q : Header). tab (by q) q.points ++ drop q.points w) (S.said s lent h e)
        ∙ ap (λ (k : ℕ). marks_in s lent ++ drop k w) (sym (length-tab _ (points_in s)))

    pub done : (k : ℕ) → k ≡ marks_long h.points → tested k ≡ false → (at : ℕ)
        → at ≡ the_data_place h.places.bds.start
        → (x y : List ℕ) → x ≡ begun at ++ drop h.points v → y ≡ marked_by (by h) h.points w → Answered (Ok h) x y
    unfolding read_of the_values_after the_marks_after filled
    done k l q at p x y a b =
        let r = refusal_is k l false q in (
          ap Ok (S.said s lent h e)
              ∙ sym (ap (λ (k : Refusal). header_reply (answer_by k s lent)) r ∙ by-refusal s lent (refusal 0) (λ _. refl)),
          (
            a ∙ ap (λ (o : ℕ). begun o ++ drop h.points v) (p ∙ begins) ∙ values_are
                ∙ sym (ap (λ (k : Refusal). filled k (values_in s lent) v) r),
            b ∙ marks_are (room k l q).1 ∙ sym (ap (λ (k : Refusal). filled k (marks_in s lent) w) r),
          ),
        )
