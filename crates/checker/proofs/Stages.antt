-- The checker's rows: the message's own, then 18, 15, 16 and 17; 17 is asked for where those before it have passed.
use Rattle.std.specs.Prelude.{Result, Ok, Err}
use mathlib.Core.Path.{◌≡◌, sym, ap, ap₂, ◌∙◌}
use mathlib.Core.Bool.{Bool, false, cond}
use mathlib.Core.List.{List, [], ◌∷◌}
use Prim.Native.Nat.{ℕ, ◌+◌, ◌*◌}
use lib.IntN.{ℤ, nat_abs}
use lib.ListN.{length}
use Rattle.bits.specs.Tables.{any_below}
use Rattle.rules.specs.declared.{Refusal.Refusal, Header.Header}
use Rattle.rules.specs.Answers.{judged, header_reply, check_reply}
use Rattle.rules.specs.Bounds.{bds_head}
use Rattle.rules.specs.Table.{Row, row, refusal, any_of, first, accepted}
use Rattle.rules.specs.Bitmap.{Lent}
use Rattle.rules.specs.Reading.{own_refusal, header_of, the_scale_in}
use Rattle.rules.specs.Checking.{Source, source_faults, source_differs, scale_faults, point_out, check_table, check_of}
use Rattle.message.proofs.Said as S
use Rattle.message.proofs.Stages.{own_first}
use Rattle.laws.proofs.Rows.{Numbered}
use Rattle.reply.proofs.Judged.{reply_is, row_stops, judged-first}
use Rattle.source.specs.Whole.{whole_from}
use Rattle.bitreader.specs.Taken.{the_data_place}
use Rattle.checker.specs.Points.{out}
use Rattle.checker.specs.Stages.{check_rows}
use Rattle.checker.proofs.Rows.{whole_is, out-is, data_begun}

-- the message's own rows first
module _ (s : List ℕ) (lent : Lent) (f : Source) where
  checked-after : check_of s lent f
      ≡ cond (accepted (own_refusal s lent)) (first (check_rows s lent f)) (own_refusal s lent)
  unfolding check_of check_table check_rows first
  checked-after = own_first s lent (check_rows s lent f)

  pub own_refused : (r : Refusal) → Err r ≡ header_reply (header_of s lent) → Err r ≡ check_reply (check_of s lent f)
  own_refused r e =
      let t = S.refused s lent r e in
      let c : check_of s lent f ≡ own_refusal s lent = checked-after ∙ rw t.0 in
      rw (c, t.0) (ap Err t.1)

  numbered : Numbered (check_rows s lent f)
  unfolding check_rows
  numbered = tt

  judged-of : (h : Header) → Ok h ≡ header_reply (header_of s lent)
      → judged (check_rows s lent f) ≡ check_reply (check_of s lent f)
  judged-of h e =
      let c : check_of s lent f ≡ first (check_rows s lent f) = checked-after ∙ rw (S.taken s lent h e) in
      judged-first (check_rows s lent f) numbered ∙ ap check_reply (sym c)

pub source-judged : (s : List ℕ) (lent : Lent) (numbers : List ℤ) (marks : List ℕ) (d dv : ℤ) → dv ≡ d → (h : Header)
    → Ok h ≡ header_reply (header_of s lent)
    → (x : Result (Unit {0}) Refusal) → x ≡ judged (check_rows s lent (record { numbers = numbers; marks = marks; d = dv }))
    → x ≡ check_reply (check_of s lent (record { numbers = numbers; marks = marks; d = d }))
source-judged s lent numbers marks d dv ed h e x q =
    q ∙ judged-of s lent _ h e
    ∙ ap (λ (k : ℤ). check_reply (check_of s lent (record { numbers = numbers; marks = marks; d = k }))) ed

-- then 18, 15, 16 and 17
module _ (s : List ℕ) (lent : Lent) (numbers : List ℤ) (marks : List ℕ) (d : ℤ) where
  abbrev source : Source
  source = record { numbers = numbers; marks = marks; d = d }

  abbrev answer : Result (Unit {0}) Refusal
  answer = judged (check_rows s lent source)

  abbrev after_16 : List Row
  after_16 = row 17 (point_out s lent source) ∷ []

  abbrev after_15 : List Row
  after_15 = row 16 (any_of (scale_faults (the_scale_in s))) ∷ after_16

  module _ (b18 : any_of (source_faults source) ≡ false) where
    pub refused_15 : (t : Bool) → t ≡ any_of (source_differs s lent source) → (r : Refusal)
        → reply_is (Err r) (refusal 15) t → Err r ≡ answer
    unfolding judged check_rows
    refused_15 t e r h = rw b18 (row_stops (refusal 15) (any_of (source_differs s lent source)) after_15 r (rw (← e) h))

    module _ (b15 : any_of (source_differs s lent source) ≡ false) where
      pub refused_16 : (t : Bool) → t ≡ any_of (scale_faults (the_scale_in s)) → (r : Refusal)
          → reply_is (Err r) (refusal 16) t → Err r ≡ answer
      unfolding judged check_rows
      refused_16 t e r h = rw (b18, b15) (row_stops (refusal 16) (any_of (scale_faults (the_scale_in s))) after_16 r (rw (← e) h))

      pub answer_17 : any_of (scale_faults (the_scale_in s)) ≡ false → (t : Bool) → t ≡ point_out s lent source
          → (x : Result (Unit {0}) Refusal) → reply_is x (refusal 17) t → x ≡ answer
      unfolding judged check_rows
      answer_17 b16 t e x h = h ∙ rw (b18, b15, b16, e)

      -- d is read back as dv, R as rv, and they and E are the message's where 16 passes
      module _ (h : Header) (e : Ok h ≡ header_reply (header_of s lent)) (b16 : any_of (scale_faults h.scale) ≡ false)
          (rv : ℤ) (er : rv ≡ whole_from h.scale.r) (st : ℕ) (es : any_of (scale_faults h.scale) ≡ false → st ≡ nat_abs h.scale.e.value) where
        abbrev outs : ℕ → ℤ → ℕ → Bool
        outs at r e = any_below (out s numbers marks at h.packing.bits r e) (length numbers)

        abbrev begun : ℕ
        begun = (h.places.bds.start + bds_head) * 8

        pub out_of : (at : ℕ) → at ≡ the_data_place h.places.bds.start → (x : Bool) → x ≡ outs at rv st
            → x ≡ point_out s lent source
        out_of at ea x ex =
            out-is s lent h e numbers marks d b18 b15 x
            (ex ∙ ap (λ (p : ℕ). outs p rv st) (data_begun s lent h e at ea)
            ∙ ap₂ (outs begun) (er ∙ whole_is h.scale b16) (es b16))
