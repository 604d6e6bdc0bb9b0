-- All of a message but its values: when it is laid down, what is answered, and what the lent octets hold then.
use Rattle.std.specs.Prelude.{ℕ, ◌+◌, ◌-◌, Bool, false, ◌||◌, cond, List, ◌++◌, ltb, length, None, Option, Some}
use Rattle.bits.specs.Bits.{placed}
use Rattle.rules.specs.declared.{Form.Form, Grid.Grid}
use Rattle.rules.specs.declared.{Scale.Scale}
use Rattle.rules.specs.Bounds.{pds_most, bds_head, points_most}
use Rattle.rules.specs.Numbers.{octets}
use Rattle.rules.specs.Table.{any_of}
use Rattle.rules.specs.Grid.{grid_faults}
use Rattle.rules.specs.Bitmap.{mark_of}
use Rattle.writable.specs.Rows.{exponent_faults}
use Rattle.framing.specs.declared.{Frame.Frame}
use Rattle.framing.specs.Layout.{marked_count, the_bds_room, front_room, the_message_room, front_by, head_by}

-- 9, of a grid that is given
abbrev pub the_given_bad : Option Grid → Bool
the_given_bad None = false
the_given_bad (Some g) = any_of (grid_faults g)

-- parts that are out of the rules' bounds, so that their octets would not hold them
unfoldable pub unsound : List ℕ → Form → Scale → ℕ → Bool
unsound pds form scale n =
    ltb pds_most (length pds) || ltb points_most n || the_given_bad form.grid
    || any_of (exponent_faults scale form.packing)

abbrev pub length_in : List ℕ → Form → List ℕ → ℕ → ℕ
length_in pds form marks n = the_message_room (length pds) form n (marked_count marks n)

-- nothing is laid down of such parts, or where there is no room for the whole message
unfoldable pub unframed : List ℕ → Form → Scale → List ℕ → ℕ → ℕ → Bool
unframed pds form scale marks n room = unsound pds form scale n || ltb room (length_in pds form marks n)

-- the answer, in so much room
unfoldable pub frame_of : List ℕ → Form → Scale → List ℕ → ℕ → ℕ → Frame
frame_of pds form scale marks n room =
    cond (unframed pds form scale marks n room) (record { at = 0; present = 0; len = 0 })
    (record { at = front_room (length pds) form n + bds_head; present = marked_count marks n; len = length_in pds form marks n })

-- none where nothing is laid down
unfoldable pub frame_in_room : List ℕ → Form → Scale → List ℕ → ℕ → ℕ → Option Frame
frame_in_room pds form scale marks n room =
    cond (unframed pds form scale marks n room) None (Some (frame_of pds form scale marks n room))

-- the octets up to the data, and the data's last octet, which no value may reach, cleared
unfoldable pub frame_in : List ℕ → Form → Scale → List ℕ → ℕ → List ℕ → List ℕ
frame_in pds form scale marks n out =
    let m = marked_count marks n in
    placed (placed out 0
    (front_by pds form (mark_of marks) n (length_in pds form marks n) ++ head_by form.packing scale m))
    (front_room (length pds) form n + (the_bds_room form.packing.bits m - 1)) (octets 1 0)

unfoldable pub framed : List ℕ → Form → Scale → List ℕ → ℕ → List ℕ → List ℕ
framed pds form scale marks n out =
    cond (unframed pds form scale marks n (length out)) out (frame_in pds form scale marks n out)
