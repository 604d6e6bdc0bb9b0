-- Of no bitmap every point is a one; else the bits are the message's or the store's.
use mathlib.Core.Path.{refl}
use Rattle.bitmap.specs.Held.{held}
use Rattle.cursor.proofs.Groups.{all_ones, before-ones}
use Rattle.cursor.proofs.group_by.Goals as goal

pub returns-in-Without : goal.returns-in-Without
unfolding held
returns-in-Without c =
    let a = c.args in
    rw c.in-Without.is (
      all_ones a.s.now a.store.now a.p a.n a.i _ c.group_size.ensures,
      before-ones a.s.now a.store.now a.p a.n a.i,
      refl,
    )

pub returns-in-Carried : goal.returns-in-Carried
unfolding held
returns-in-Carried c = rw c.in-Carried.is c.group_at.ensures

pub returns-in-Stored : goal.returns-in-Stored
unfolding held
returns-in-Stored c = rw c.in-Stored.is c.group_at-in-Stored.ensures
