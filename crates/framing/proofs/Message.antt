-- The message as it is laid down, its length, and what the table, the answer and the lent octets are after each way out
-- of the writer.
use Rattle.std.specs.Prelude.{None, Option, Some, Result, Ok, Err}
use mathlib.Core.Path.{◌≡◌, refl, sym, ap, ap₂, ◌∙◌}
use mathlib.Core.Bool.{Bool, true, false, cond}
use mathlib.Core.List.{List, [], ◌∷◌, ◌++◌, append_assoc, append-nil}
use Prim.Native.Nat.{ℕ, ◌+◌, ◌-◌, ◌*◌, ◌/◌, ◌≤◌}
use native.Mathlib.Omega.{arith}
use borrow.Author.Tests.{lt-ltb, le-ltb}
use lib.Dec.{ltb}
use lib.ListN.{length, take, drop, length-append}
use Rattle.rules.specs.Bounds.{bds_head, the_bits_most}
use Rattle.bits.specs.Bits.{bits_in, runs, count, placed, packed_into}
use Rattle.bits.proofs.Runs.{Bits}
use Rattle.bits.proofs.Trip.{length_runs}
use Rattle.bits.proofs.Placing.{placed-front, length-placed, placed-next}
use Rattle.rules.specs.declared.{Refusal.Refusal, Grid.Grid, Form.Form, Scale.Scale}
use Rattle.rules.specs.Answers.{judged, length_reply}
use Rattle.rules.specs.Numbers.{field, octets, laid, joined}
use Rattle.rules.specs.Table.{Row, row, refusal, accepted, filled}
use Rattle.rules.specs.Places.{sevens}
use Rattle.rules.specs.Grid.{the_grid_from, grid_or_zeros, points_of}
use Rattle.rules.specs.Bitmap.{bms_of, mark_of, value_of}
use Rattle.rules.specs.Points.{gathered}
use Rattle.rules.specs.Values.{bds_of}
use Rattle.rules.specs.Writing.{Parts, grid_for, points_for, gds_for, parts_faults, sections_for, message, write_table}
use Rattle.rules.specs.Writing.{write_refusal, length_of, write_of, output_after}
use Rattle.puts.specs.Put.{the_put_number}
use Rattle.reply.proofs.Judged.{then_judged, judged_append, taken_first, refused_first}
use Rattle.laws.proofs.Rows.{Numbered}
use Rattle.laws.proofs.Fields.{laid-length}
use Rattle.laws.proofs.Gathered.{length-gathered, wide-gathered}
use Rattle.writable.specs.Rows.{front_rows, exponent_faults, middle_rows, early_rows, the_points_bad, list_faults, own_rows}
use Rattle.writable.specs.Listed.{Listed}
use Rattle.framing.specs.declared.{Frame.Frame}
use Rattle.framing.specs.Given.{parts}
use Rattle.rules.specs.Writing.{indicator_fields}
use Rattle.framing.specs.Layout.{marked_count, the_bds_room, front_room, the_message_room, sections_by, message_by, front_by}
use Rattle.framing.specs.Layout.{head_by}
use Rattle.framing.specs.Framing.{length_in, frame_in_room, frame_in, framed}
use Rattle.puts.proofs.Laying.{laid-rest}
use Rattle.framing.proofs.Lengths.{gds-room, bms-room, bds-room}
use Rattle.framing.proofs.Marks.{present-count}
use Rattle.framing.proofs.Sections.{front_length, head_length, head_data}
use Rattle.framing.proofs.Framed.{Begun, shut-of, begun-of}
use Rattle.framing.proofs.Ending.{data_laid}
use Rattle.framing.proofs.Ready.{Ready, ready_of}

module _ (pds : List ℕ) (form : Form) (scale : Scale) (f : ℕ → ℕ) (b : Bits f) (v : ℕ → ℕ) (n : ℕ) where
  abbrev xs : List ℕ
  xs = gathered f v n

  abbrev S : List ℕ
  S = laid (field 4 sevens ∷ []) []

  abbrev G : List ℕ
  G = gds_for form.grid

  abbrev M : List ℕ
  M = bms_of form.bitmap f n

  abbrev D : List ℕ
  D = bds_of form.packing scale xs

  sections : joined (sections_by pds form scale f v n) ≡ pds ++ (G ++ (M ++ (D ++ S)))
  unfolding joined sections_by
  sections = ap (λ (x : List ℕ). pds ++ (G ++ (M ++ (D ++ x)))) (append-nil S)

  length-sections : 8 + length (pds ++ (G ++ (M ++ (D ++ S)))) ≡ the_message_room (length pds) form n (count f 0 n)
  unfolding the_message_room front_room
  length-sections =
      let s : length S ≡ 4 = laid-length (field 4 sevens ∷ []) [] in
      let g = gds-room form.grid in
      let m = bms-room form.bitmap f n in
      let d : length D ≡ the_bds_room form.packing.bits (count f 0 n) = bds-room form.packing scale xs ∙ ap (the_bds_room form.packing.bits) (length-gathered f b v n) in
      let a = length-append pds (G ++ (M ++ (D ++ S))) in
      let c = length-append G (M ++ (D ++ S)) in
      let e = length-append M (D ++ S) in
      let h = length-append D S in
      omega arith

  pub message-length : length (message_by pds form scale f v n) ≡ the_message_room (length pds) form n (count f 0 n)
  unfolding message_by
  message-length =
      let k = 8 + length (joined (sections_by pds form scale f v n)) in
      laid-length (indicator_fields k) (joined (sections_by pds form scale f v n))
      ∙ ap (λ (x : List ℕ). 8 + length x) sections ∙ length-sections

  -- the front, what stands before the data, the data and the end are the whole
  pub message-parts : (m len : ℕ) → m ≡ count f 0 n → len ≡ the_message_room (length pds) form n m
      → (front_by pds form f n len ++ head_by form.packing scale m)
      ++ (runs (bits_in form.packing.bits xs) 0 8 (the_bds_room form.packing.bits m - bds_head) ++ S)
      ≡ message_by pds form scale f v n
  unfolding message_by front_by
  message-parts m len em el =
      let I = indicator_fields len in
      let F = laid I (pds ++ (G ++ M)) in
      let H = head_by form.packing scale m in
      let R = runs (bits_in form.packing.bits xs) 0 8 (the_bds_room form.packing.bits m - bds_head) in
      append_assoc F H (R ++ S)
      ∙ ap (λ (x : List ℕ). F ++ x)
      (sym (append_assoc H R S)
      ∙ ap (λ (x : List ℕ). x ++ S) (head_data form.packing scale xs m (em ∙ sym (length-gathered f b v n))))
      ∙ ap (λ (x : List ℕ). x ++ (D ++ S)) (laid-rest I (pds ++ (G ++ M)))
      ∙ append_assoc (laid I []) (pds ++ (G ++ M)) (D ++ S)
      ∙ ap (λ (x : List ℕ). laid I [] ++ x)
      (append_assoc pds (G ++ M) (D ++ S) ∙ ap (λ (x : List ℕ). pds ++ x) (append_assoc G M (D ++ S)) ∙ sym sections)
      ∙ sym (laid-rest I (joined (sections_by pds form scale f v n)))
      ∙ ap (λ (x : ℕ). laid (indicator_fields x) (joined (sections_by pds form scale f v n)))
      (el ∙ ap (the_message_room (length pds) form n) em ∙ sym length-sections
      ∙ ap (λ (x : List ℕ). 8 + length x) (sym sections))

-- the values put where the frame leaves room for them, and '7777' after them: the whole message
pub whole-placed : (pds : List ℕ) (form : Form) (scale : Scale) (values marks : List ℕ) (n : ℕ) (out : List ℕ)
    → Listed values marks form.packing.bits → (f : Frame) → Begun pds form scale marks n out f
    → (o₁ : List ℕ) → o₁ ≡ framed pds form scale marks n out
    → (q : List ℕ)
    → q ≡ packed_into form.packing.bits (gathered (mark_of marks) (value_of values) n)
    (take (length o₁ - f.at) (drop f.at o₁))
    → (o₃ : List ℕ)
    → o₃ ≡ the_put_number (take f.at o₁ ++ (q ++ drop (length o₁ - f.at) (drop f.at o₁))) (f.len - 4) 1 4 sevens
    → o₃ ≡ placed out 0 (message_by pds form scale (mark_of marks) (value_of values) n)
unfolding frame_in the_message_room
whole-placed pds form scale values marks n out p f k o₁ e₁ q fill o₃ e₃ =
    let m = marked_count marks n in
    let N = form.packing.bits in
    let xs = gathered (mark_of marks) (value_of values) n in
    let P = front_by pds form (mark_of marks) n (length_in pds form marks n) ++ head_by form.packing scale m in
    let R = runs (bits_in N xs) 0 8 (the_bds_room N m - bds_head) in
    let S = laid (field 4 sevens ∷ []) [] in
    let em : m ≡ count (mark_of marks) 0 n = present-count marks p.mark n in
    let lx : length xs * N ≡ m * N = ap (λ (x : ℕ). x * N) (length-gathered (mark_of marks) p.mark (value_of values) n ∙ sym em) in
    let lp : length P ≡ front_room (length pds) form n + bds_head =
    length-append (front_by pds form (mark_of marks) n (length_in pds form marks n)) (head_by form.packing scale m)
    ∙ ap₂ (λ (x y : ℕ). x + y) (front_length pds form (mark_of marks) n (length_in pds form marks n))
    (head_length form.packing scale m) in
    let h = k.held in
    let room = k.room in
    let at = k.at in
    let len = k.len in
    let ly : length (placed out 0 P) ≡ length out = length-placed out 0 P (omega (arith, lp, h.least)) in
    let lr : length R ≡ the_bds_room N m - bds_head = length_runs (bits_in N xs) 0 8 (the_bds_room N m - bds_head) in
    let ls : length S ≡ 4 = laid-length (field 4 sevens ∷ []) [] in
    let lrs = length-append R S in
    let c1 : front_room (length pds) form n + (the_bds_room N m - 1) ≡ f.at + (the_bds_room N m - bds_head - 1) = omega (arith, at, h.least) in
    let j : f.at ≡ 0 + length P = omega (arith, at, lp) in
    data_laid N xs (wide-gathered (mark_of marks) p.mark (value_of values) N p.value n) (the_bds_room N m - bds_head)
    (omega (arith, h.least)) (omega (arith, h.low, lx)) (omega (arith, h.high, lx))
    (placed out 0 P) f.at (omega (arith, at, h.least, ly)) o₁
    (e₁ ∙ k.is ∙ ap (λ (x : ℕ). placed (placed out 0 P) x (octets 1 0)) c1) q fill (f.len - 4)
    (omega (arith, at, len, h.least)) o₃ e₃
    ∙ ap (λ (x : ℕ). placed (placed out 0 P) x (R ++ S)) j
    ∙ placed-next out 0 P (R ++ S) (omega (arith, lp, lrs, lr, ls, h.least))
    ∙ ap (placed out 0)
    (message-parts pds form scale (mark_of marks) p.mark (value_of values) n m (length_in pds form marks n) em refl)

-- where the values go in so many octets, and that they have room
pub record Room (form : Form) (values marks : List ℕ) (f : Frame) (long : ℕ) : Type 0 where
  pub bits : form.packing.bits ≤ the_bits_most
  pub listed : Listed values marks form.packing.bits
  pub present : f.present ≡ count (mark_of marks) 0 (length values)
  pub start : f.at ≤ long
  pub data_room : f.present * form.packing.bits / 8 + 4 ≤ long - f.at
  pub end : 4 ≤ f.len

-- the answers
module _ (pds : List ℕ) (form : Form) (scale : Scale) (number : ℕ) (store values marks out : List ℕ) (found : Option Grid)
    (ef : found ≡ the_grid_from form.grid pds 0) (g : Grid) (eg : g ≡ grid_or_zeros found) (n : ℕ) (en : n ≡ points_of g) where
  abbrev w : Parts
  w = parts pds form scale number store values marks

  abbrev own : List Row
  own = own_rows pds form scale w.lent values marks found n

  abbrev last : Bool
  last = ltb (length out) (length (message w))

  n-of : n ≡ points_for w
  unfolding points_for grid_for
  n-of = en ∙ ap points_of eg ∙ ap (λ (x : Option Grid). points_of (grid_or_zeros x)) ef

  message-of : message w ≡ message_by pds form scale (mark_of marks) (value_of values) n
  unfolding message message_by sections_for sections_by
  message-of = ap (message_by pds form scale (mark_of marks) (value_of values)) (sym n-of)

  table : write_table w out ≡ own ++ (row 14 last ∷ [])
  unfolding write_table own_rows early_rows front_rows middle_rows exponent_faults list_faults the_points_bad parts_faults grid_for
  table =
      sym (ap₂ (λ (x : Option Grid) (y : ℕ). own_rows pds form scale w.lent values marks x y ++ (row 14 last ∷ [])) ef n-of)

  by-rows : judged (write_table w out) ≡ then_judged (judged own) (cond last (Err (refusal 14)) (Ok tt))
  unfolding judged
  by-rows = ap judged table ∙ judged_append own (row 14 last ∷ [])

  numbered : Numbered (write_table w out)
  unfolding write_table
  numbered = tt

  -- what the rows say of the table's refusal
  refusal_is : (r : Refusal) → Err r ≡ judged (write_table w out) → (write_refusal w out ≡ r) × (accepted r ≡ false)
  unfolding write_refusal
  refusal_is r e = refused_first (write_table w out) numbered r e

  no-refusal : (u : Unit {0}) → Ok u ≡ judged (write_table w out) → write_refusal w out ≡ refusal 0
  unfolding write_refusal
  no-refusal u e = taken_first (write_table w out) u e

  -- refused: the answer, and nothing written
  refused : (r : Refusal) → Err r ≡ judged (write_table w out)
      → (Err r ≡ length_reply (write_of w out)) × (out ≡ output_after w out)
  unfolding write_of output_after length_of filled
  refused r e = let t = refusal_is r e in (rw (t.0, t.1), rw (t.0, t.1))

  pub refused-early : (r : Refusal) → Err r ≡ judged own
      → (Err r ≡ length_reply (write_of w out)) × (out ≡ output_after w out)
  refused-early r e = refused r (sym (by-rows ∙ rw (← e)))

  module _ (u : Unit {0}) (eu : Ok u ≡ judged own) where
    late : (t : Bool) → last ≡ t → judged (write_table w out) ≡ cond t (Err (refusal 14)) (Ok tt)
    late t e = by-rows ∙ rw (← eu, e)

    taken : last ≡ false → write_refusal w out ≡ refusal 0
    taken e = no-refusal tt (sym (late false e))

    pub ready : Ready pds form scale values marks n
    ready = ready_of pds form scale w.lent values marks found ef g eg n en u eu

    length-of : length_in pds form marks n ≡ length (message w)
    length-of =
        let k = ready in
        ap (the_message_room (length pds) form n) (present-count marks k.listed.mark n)
        ∙ sym (message-length pds form scale (mark_of marks) k.listed.mark (value_of values) n)
        ∙ ap length (sym message-of)

    -- with room for it the answer is its length, by its parts' rooms
    pub roomy : length (message w) ≤ length out → (m : ℕ) → m ≡ marked_count marks n → (len : ℕ)
        → len ≡ the_message_room (length pds) form n m → Ok len ≡ length_reply (write_of w out)
    unfolding write_of length_of
    roomy h m em len el =
        let t : write_refusal w out ≡ refusal 0 = taken (le-ltb (length out) (length (message w)) h) in
        rw t (ap {B = Result ℕ Refusal} Ok (el ∙ ap (the_message_room (length pds) form n) em ∙ length-of))

    pub refused-late : None ≡ frame_in_room pds form scale marks n (length out) → (o : List ℕ)
        → o ≡ framed pds form scale marks n out
        → (Err (refusal 14) ≡ length_reply (write_of w out)) × (o ≡ output_after w out)
    refused-late h o e =
        let s = shut-of pds form scale marks n out ready.sound h in
        let l = length-of in
        let q = refused (refusal 14) (sym (late true (lt-ltb (length out) (length (message w)) (omega (arith, s.0, l))))) in
        (q.0, e ∙ s.1 ∙ q.1)

    module _ (f : Frame) (fe : Some f ≡ frame_in_room pds form scale marks n (length out)) where
      begun : Begun pds form scale marks n out f
      begun = begun-of pds form scale marks n out ready.sound f fe

      pub room_of : Room form values marks f (length out)
      unfolding the_message_room
      room_of =
          let k = begun in
          let h = k.held in
          let p : f.present * form.packing.bits ≡ marked_count marks n * form.packing.bits = ap (λ (x : ℕ). x * form.packing.bits) k.present in
          record {
            bits = ready.bits;
            listed = ready.listed;
            present = k.present ∙ present-count marks ready.listed.mark n
                ∙ ap (count (mark_of marks) 0) (sym ready.long);
            start = omega (arith, k.at, k.room, h.least);
            data_room = omega (arith, k.at, k.room, h.least, h.holds, p);
            end = omega (arith, k.len);
          }

      pub written : (o₁ : List ℕ) → o₁ ≡ framed pds form scale marks n out
          → (q : List ℕ)
          → q ≡ packed_into form.packing.bits (gathered (mark_of marks) (value_of values) (length values))
          (take (length o₁ - f.at) (drop f.at o₁))
          → (o₃ : List ℕ)
          → o₃ ≡ the_put_number (take f.at o₁ ++ (q ++ drop (length o₁ - f.at) (drop f.at o₁))) (f.len - 4) 1 4 sevens
          → (Ok f.len ≡ length_reply (write_of w out)) × (o₃ ≡ output_after w out)
      unfolding write_of output_after length_of filled
      written o₁ e₁ q fill o₃ e₃ =
          let k = begun in
          let l = length-of in
          let t : write_refusal w out ≡ refusal 0 = taken (le-ltb (length out) (length (message w)) (omega (arith, k.room, l))) in
          let p : o₃ ≡ placed out 0 (message w) =
          whole-placed pds form scale values marks n out ready.listed f k o₁ e₁ q
          (fill ∙ ap
          (λ (x : ℕ). packed_into form.packing.bits (gathered (mark_of marks) (value_of values) x)
          (take (length o₁ - f.at) (drop f.at o₁))) ready.long) o₃ e₃
          ∙ ap (placed out 0) (sym message-of) in (
            rw t (ap {B = Result ℕ Refusal} Ok (k.len ∙ l)),
            rw t (p ∙ placed-front out (message w)),
          )
