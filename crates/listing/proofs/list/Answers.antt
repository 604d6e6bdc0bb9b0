-- The four ways through `list`: a text too short, an input too long, a refusal, a message that is taken (Listed).
use native.Mathlib.Omega.{arith}
use mathlib.Core.Path.{refl}
use Rattle.listing.proofs.Listed.{answered, too_short, too_long, refused-is, lists-fit, listed-is}
use Rattle.listing.proofs.list.Goals as goal

pub returns-then-text-lt-TEXT_ROOM : goal.returns-then-text-lt-TEXT_ROOM
returns-then-text-lt-TEXT_ROOM c =
    let t = too_short c.args.s.now _ c.if-text-lt-TEXT_ROOM.true in record { value = t.0; text_after = t.1 }

pub returns-then-s-gt-LISTED_MOST : goal.returns-then-s-gt-LISTED_MOST
returns-then-s-gt-LISTED_MOST c =
    let t = answered _ _ _ _ _ c.refused.ensures.0 (too_long _ _ (omega arith) (omega arith)) in
    record { value = t.0; text_after = t.1 }

-- the arrays have as many elements as the definition says
pub returns-in-Err : goal.returns-in-Err
returns-in-Err c =
    let t =
    answered _ _ _ _ _ c.refused-in-Err.ensures.0
    (refused-is _ _ _ c.if-s-gt-LISTED_MOST.false refl refl _ c.if-text-lt-TEXT_ROOM.false _ c.in-Err.ensures.value) in
    record { value = t.0; text_after = t.1 }

pub lines-requires : goal.lines-requires
lines-requires c =
    let n = lists-fit _ _ _ c.if-s-gt-LISTED_MOST.false refl refl _ c.in-Ok.ensures.value _ _ c.in-Ok.ensures.values_after c.in-Ok.ensures.marks_after in
    record { text_room_in_bounds = c.if-text-lt-TEXT_ROOM.false; grid_bound = n.0; listed_room_in_bounds = n.1 }

pub returns-in-Ok : goal.returns-in-Ok
returns-in-Ok c =
    let t =
    answered _ _ _ _ _ c.lines.ensures.0
    (listed-is _ _ _ c.if-s-gt-LISTED_MOST.false refl refl _ c.in-Ok.ensures.value _ _ c.in-Ok.ensures.values_after
    c.in-Ok.ensures.marks_after _ c.if-text-lt-TEXT_ROOM.false) in
    record { value = t.0; text_after = t.1 }
