-- Of no bitmap every point is a one; else the bits are the message's or the store's.
use mathlib.Core.Path.{◌∙◌, ap}
use mathlib.Core.List.{List, ◌++◌}
use Prim.Native.Nat.{ℕ}
use lib.ListN.{drop}
use Rattle.bitmap.specs.Held.{held}
use Rattle.cursor.proofs.Groups.{even_entries}
use Rattle.cursor.proofs.fill_by.Goals as goal

pub returns-in-Without : goal.returns-in-Without
unfolding held
returns-in-Without c =
    let a = c.args in
    rw c.in-Without.is
    (c.fill_even.ensures
    ∙ ap (λ (xs : List ℕ). xs ++ drop a.groups a.index.now)
    (even_entries a.s.now a.store.now a.p a.groups))

pub returns-in-Carried : goal.returns-in-Carried
unfolding held
returns-in-Carried c =
    rw c.in-Carried.is c.fill_counted.ensures

pub returns-in-Stored : goal.returns-in-Stored
unfolding held
returns-in-Stored c =
    rw c.in-Stored.is c.fill_counted-in-Stored.ensures
