-- How long a message will be: the writer's answer for zeros in the place of its values, with room for it.
use Rattle.std.specs.Prelude.{Option, Ok, Err}
use mathlib.Core.Path.{◌≡◌, ap, ap₂, ◌∙◌}
use mathlib.Core.List.{List}
use Prim.Native.Nat.{ℕ}
use native.Mathlib.Nat.{le_refl}
use native.Mathlib.Omega.{arith}
use lib.IntN.{ℤ, pos}
use mir.Syntax.{w32}
use mir.Val.{to_z}
use mir.Facts.{to_z_pos}
use lib.ListN.{length}
use Rattle.rules.specs.declared.{Refusal.Refusal, Grid.Grid, Form.Form, Scale.Scale, Signed.Signed}
use Rattle.rules.specs.Numbers.{plain}
use Rattle.rules.specs.Answers.{judged, length_reply}
use Rattle.rules.specs.Grid.{the_grid_from, grid_or_zeros, points_of}
use Rattle.rules.specs.Bitmap.{Lent}
use Rattle.rules.specs.Writing.{Parts, message, write_of, unvalued, length_for}
use Rattle.writable.specs.Rows.{zeros, mark_rows}
use Rattle.framing.specs.Given.{parts}
use Rattle.framing.specs.Layout.{marked_count, the_message_room}
use Rattle.framing.proofs.Framed.{Sound, sound-of}
use Rattle.framing.proofs.Message.{ready, refused-early, roomy}

-- E is 0
pub unscaled : (e : Signed) → e ≡ plain (to_z w32 0) → ◌≡◌ {A = Scale} (record { e = e; r = 0 }) (record { e = plain (pos 0); r = 0 })
unscaled e h =
    ap {B = Scale} (λ (z : Signed). record { e = z; r = 0 }) (h ∙ ap (λ (z : ℤ). plain z) (to_z_pos w32 (omega arith)))

module _ (pds : List ℕ) (form : Form) (scale : Scale) (es : scale ≡ record { e = plain (pos 0); r = 0 }) (number : ℕ)
    (store marks : List ℕ) (found : Option Grid) (ef : found ≡ the_grid_from form.grid pds 0) (g : Grid)
    (eg : g ≡ grid_or_zeros found) (n : ℕ) (en : n ≡ points_of g) where
  abbrev lent : Lent
  lent = record { number = number; octets = store }

  abbrev w : Parts
  w = parts pds form scale number store (zeros n) marks

  is : length_reply (write_of w (message w)) ≡ length_reply (length_for pds form lent marks)
  unfolding length_for unvalued
  is =
      ap₂ (λ (s : Scale) (k : ℕ). length_reply
      (write_of (parts pds form s number store (zeros k) marks)
      (message (parts pds form s number store (zeros k) marks))))
      es (en ∙ ap points_of eg ∙ ap (λ (x : Option Grid). points_of (grid_or_zeros x)) ef)

  pub length-refused : (r : Refusal) → Err r ≡ judged (mark_rows pds form scale lent n marks found n)
      → Err r ≡ length_reply (length_for pds form lent marks)
  unfolding mark_rows
  length-refused r e =
      (refused-early pds form scale number store (zeros n) marks (message w) found ef g eg n en r e).0 ∙ is

  module _ (u : Unit {0}) (eu : Ok u ≡ judged (mark_rows pds form scale lent n marks found n)) where
    pub length-sound : Sound pds form scale marks n
    unfolding mark_rows
    length-sound = sound-of pds form scale marks n
        (ready pds form scale number store (zeros n) marks (message w) found ef g eg n en u eu).sound

    pub length_taken : (m : ℕ) → m ≡ marked_count marks n → (len : ℕ) → len ≡ the_message_room (length pds) form n m
        → Ok len ≡ length_reply (length_for pds form lent marks)
    unfolding mark_rows
    length_taken m em len el =
        roomy pds form scale number store (zeros n) marks (message w) found ef g eg n en u eu
        (le_refl (length (message w))) m em len el
        ∙ is
