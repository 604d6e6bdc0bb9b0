-- What is laid down around the values: what the parts' bounds leave, each way out of `lay`, and what its answer says of
-- them.
use Rattle.std.specs.Prelude.{None, Option, Some}
use mathlib.Core.Path.{◌≡◌, refl, sym, ap, ap₂, ◌∙◌}
use mathlib.Core.Bool.{Bool, true, false, ◌||◌}
use mathlib.Core.List.{List, ◌++◌}
use Prim.Native.Nat.{ℕ, ◌+◌, ◌-◌, ◌≤◌, ◌<◌}
use native.Mathlib.Nat.{zero-add}
use native.Mathlib.Omega.{arith}
use borrow.Author.Tests.{ltb-false, ltb-true, le-ltb, lt-ltb}
use lib.Dec.{ltb}
use lib.IntN.{nat_abs}
use lib.ListN.{length}
use Rattle.bits.specs.Bits.{placed}
use Rattle.bits.proofs.Placing.{placed-next}
use Rattle.rules.specs.declared.{Form.Form, Scale.Scale}
use Rattle.rules.specs.Bounds.{pds_most, points_most, bds_head, the_bits_most}
use Rattle.rules.specs.Numbers.{octets}
use Rattle.rules.specs.Table.{any_of}
use Rattle.rules.specs.Bitmap.{mark_of}
use Rattle.bits.proofs.Tests.{or_left, or_right}
use Rattle.writable.specs.Rows.{exponent_faults}
use Rattle.writable.proofs.Accepted.{scale_ok}
use Rattle.framing.specs.declared.{Frame.Frame}
use Rattle.framing.specs.Layout.{marked_count, room_most, the_bds_room, front_room, the_message_room, front_by, head_by}
use Rattle.framing.specs.Framing.{the_given_bad, unsound, length_in, unframed, frame_of, frame_in_room, frame_in, framed}
use Rattle.framing.proofs.Sections.{front_length, head_length}
use Rattle.framing.proofs.Lengths.{Held, bds-held, message-few}
use Rattle.framing.proofs.Marks.{present-few}

some-is : (x y : Frame) → Some x ≡ Some y → x ≡ y
some-is x y e = cc

module _ (pds : List ℕ) (form : Form) (scale : Scale) (marks : List ℕ) (n : ℕ) where
  abbrev far : Bool
  far = ltb pds_most (length pds)

  abbrev many : Bool
  many = ltb points_most n

  abbrev off : Bool
  off = any_of (exponent_faults scale form.packing)

  -- parts within their bounds
  pub record Sound : Type 0 where
    pub pds-most : length pds ≤ pds_most
    pub few : n ≤ points_most
    pub given : the_given_bad form.grid ≡ false
    pub e : nat_abs scale.e.value < 32768
    pub flags : form.packing.flags ≤ 2
    pub bits : form.packing.bits ≤ the_bits_most

  pub sound-of : unsound pds form scale n ≡ false → Sound
  unfolding unsound
  sound-of h =
      let a = or_left ((far || many) || the_given_bad form.grid) off h in
      let b = or_left (far || many) (the_given_bad form.grid) a in
      let s = scale_ok scale form.packing (or_right ((far || many) || the_given_bad form.grid) off h) in
      record {
        pds-most = ltb-false pds_most (length pds) (or_left far many b);
        few = ltb-false points_most n (or_right far many b);
        given = or_right (far || many) (the_given_bad form.grid) a;
        e = s.e;
        flags = s.flags;
        bits = s.bits;
      }

  pub sound-is : length pds ≤ pds_most → n ≤ points_most → the_given_bad form.grid ≡ false
      → any_of (exponent_faults scale form.packing) ≡ false → unsound pds form scale n ≡ false
  unfolding unsound
  sound-is p m g s = rw (le-ltb pds_most (length pds) p, le-ltb points_most n m, g, s)

  -- as code tests them
  pub parts-sound : (g s : Bool) → g ≡ the_given_bad form.grid → s ≡ off → ((far || many) || g) || s ≡ false
      → unsound pds form scale n ≡ false
  unfolding unsound
  parts-sound g s eg es h = sym (ap₂ (λ (x y : Bool). ((far || many) || x) || y) eg es) ∙ h

  pub sound-read : (g s : Bool) → g ≡ the_given_bad form.grid → s ≡ off → ((far || many) || g) || s ≡ false → Sound
  sound-read g s eg es h = sound-of (parts-sound g s eg es h)

  -- how many points are present, and how long the message is
  pub few-present : Sound → (m : ℕ) → m ≡ marked_count marks n → m ≤ points_most
  few-present k m e = omega (arith, e, present-few marks n, k.few)

  pub small : Sound → (m : ℕ) → m ≡ marked_count marks n → (len : ℕ) → len ≡ the_message_room (length pds) form n m
      → len ≤ room_most
  small k m e len el =
      omega (arith, el, message-few (length pds) form n m k.pds-most k.few (few-present k m e) k.bits)

  abbrev whole : Frame
  whole = record { at = front_room (length pds) form n + bds_head; present = marked_count marks n; len = length_in pds form marks n }

  module _ (out : List ℕ) where
    abbrev shut : Bool
    shut = unframed pds form scale marks n (length out)

    abbrev answer : Option Frame
    answer = frame_in_room pds form scale marks n (length out)

    -- nothing is laid down, or all is
    none : shut ≡ true → (None ≡ answer) × (out ≡ framed pds form scale marks n out)
    unfolding frame_in_room framed
    none h = (rw h, rw h)

    all : shut ≡ false
        → (Some whole ≡ answer) × (frame_in pds form scale marks n out ≡ framed pds form scale marks n out)
    unfolding frame_of frame_in_room framed
    all h = (rw h, rw h)

    pub refused-parts : (g s : Bool) → g ≡ the_given_bad form.grid → s ≡ off → ((far || many) || g) || s ≡ true
        → (None ≡ answer) × (out ≡ framed pds form scale marks n out)
    unfolding unframed unsound
    refused-parts g s eg es h =
        let u : (((far || many) || the_given_bad form.grid) || off) ≡ true = sym (ap₂ (λ (x y : Bool). ((far || many) || x) || y) eg es) ∙ h in
        none (rw u)

    pub refused-room : unsound pds form scale n ≡ false → (len : ℕ) → len ≡ length_in pds form marks n → length out < len
        → (None ≡ answer) × (out ≡ framed pds form scale marks n out)
    unfolding unframed
    refused-room s len e h = none (rw (s, lt-ltb (length out) (length_in pds form marks n) (omega arith)))

    -- the front of a message, and what stands before the data in its data section
    pub laid-down : unsound pds form scale n ≡ false → (m : ℕ) → m ≡ marked_count marks n → (len : ℕ)
        → len ≡ the_message_room (length pds) form n m → len ≤ length out
        → (d : ℕ) → d ≡ front_room (length pds) form n
        → (o₁ : List ℕ) → o₁ ≡ placed out 0 (front_by pds form (mark_of marks) n len)
        → (o₂ : List ℕ)
        → o₂ ≡ placed (placed o₁ d (head_by form.packing scale m)) (d + (the_bds_room form.packing.bits m - 1))
        (octets 1 0)
        → (Some (record { at = d + bds_head; present = m; len = len }) ≡ answer) × (o₂ ≡ framed pds form scale marks n out)
    unfolding unframed frame_in the_message_room the_bds_room
    laid-down s m em len el room d ed o₁ e₁ o₂ e₂ =
        let l : len ≡ length_in pds form marks n = el ∙ ap (the_message_room (length pds) form n) em in
        let F : ℕ → List ℕ = λ k. front_by pds form (mark_of marks) n k in
        let H : ℕ → List ℕ = λ k. head_by form.packing scale k in
        let a = all (rw (s, le-ltb (length out) (length_in pds form marks n) (omega arith))) in
        let f = front_length pds form (mark_of marks) n len in
        let h = head_length form.packing scale m in
        let j : d ≡ 0 + length (F len) = ed ∙ sym f ∙ sym (zero-add (length (F len))) in (
          ap {A = Frame} Some (ap₂ {C = Frame} (λ (x y : ℕ). record { at = x + bds_head; present = y; len = len }) ed em ∙ ap {B = Frame} (λ (x : ℕ). record { at = front_room (length pds) form n + bds_head; present = marked_count marks n; len = x }) l) ∙ a.0,
          e₂
              ∙ ap₂ (λ (x : List ℕ) (k : ℕ). placed (placed x k (H m)) (d + (the_bds_room form.packing.bits m - 1))
              (octets 1 0)) e₁ j
              ∙ ap (λ (x : List ℕ). placed x (d + (the_bds_room form.packing.bits m - 1)) (octets 1 0))
              (placed-next out 0 (F len) (H m) (omega (arith, f, h, el)))
              ∙ ap₂ (λ (x y : ℕ). placed (placed out 0 (F x ++ H y)) (d + (the_bds_room form.packing.bits y - 1))
              (octets 1 0)) l em
              ∙ ap (λ (x : ℕ). placed (placed out 0 (F (length_in pds form marks n) ++ H (marked_count marks n)))
              (x + (the_bds_room form.packing.bits (marked_count marks n) - 1)) (octets 1 0)) ed
              ∙ a.1,
        )

    -- what the answer says
    pub shut-of : unsound pds form scale n ≡ false → None ≡ answer
        → (length out < length_in pds form marks n) × (framed pds form scale marks n out ≡ out)
    unfolding unframed
    shut-of s e = go shut refl
      where
        go : (t : Bool) → shut ≡ t
            → (length out < length_in pds form marks n) × (framed pds form scale marks n out ≡ out)
        go true h = (
          ltb-true (length out) (length_in pds form marks n)
              (sym (ap (λ (x : Bool). x || ltb (length out) (length_in pds form marks n)) s) ∙ h),
          sym (none h).1,
        )
        go false h = absurd (cc (e ∙ sym (all h).0))

    -- all is laid down: where the data go, and that they have room
    pub record Begun (f : Frame) : Type 0 where
      pub at : f.at ≡ front_room (length pds) form n + bds_head
      pub present : f.present ≡ marked_count marks n
      pub len : f.len ≡ length_in pds form marks n
      pub room : length_in pds form marks n ≤ length out
      pub is : framed pds form scale marks n out ≡ frame_in pds form scale marks n out
      pub held : Held form.packing.bits (marked_count marks n)

    pub begun-of : unsound pds form scale n ≡ false → (f : Frame) → Some f ≡ answer → Begun f
    unfolding unframed
    begun-of s f e = go shut refl
      where
        go : (t : Bool) → shut ≡ t → Begun f
        go true h = absurd (cc (e ∙ sym (none h).0))
        go false h =
            let q = some-is f whole (e ∙ sym (all h).0) in
            let k = sound-of s in
            record {
              at = ap (λ (x : Frame). x.at) q;
              present = ap (λ (x : Frame). x.present) q;
              len = ap (λ (x : Frame). x.len) q;
              room = ltb-false (length out) (length_in pds form marks n)
                  (or_right (unsound pds form scale n) (ltb (length out) (length_in pds form marks n)) h);
              is = sym (all h).1;
              held = bds-held form.packing.bits (marked_count marks n) k.bits
                  (omega (arith, present-few marks n, k.few));
            }
