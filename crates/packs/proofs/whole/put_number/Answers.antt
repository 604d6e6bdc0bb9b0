-- The three tests are the definition's, and what `store` needs.
use mathlib.Core.Path.{◌∙◌}
use Rattle.packs.proofs.Numbers.{fit-answer, fit-left, unfit-answer, unfit-left}
use Rattle.packs.proofs.whole.put_number.Goals as goal

pub returns-then-c-room : goal.returns-then-c-room
returns-then-c-room c = record {
  value = fit-answer _ _ _ _ _ _ _ _ c.offset-j.ensures c.room.ensures c.below.ensures
      c.if-c-room.true;
  out_after = c.store.ensures
      ∙ fit-left _ _ _ _ _ _ _ _ c.offset-j.ensures c.room.ensures c.below.ensures
      c.if-c-room.true;
}

pub returns : goal.returns
returns c = record {
  value = unfit-answer _ _ _ _ _ _ _ _ c.offset-j.ensures c.room.ensures c.below.ensures
      c.if-c-room.false;
  out_after = unfit-left _ _ _ _ _ _ _ _ c.offset-j.ensures c.room.ensures c.below.ensures
      c.if-c-room.false;
}
