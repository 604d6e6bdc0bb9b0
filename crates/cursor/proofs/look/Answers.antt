-- 25 by the group's ones; else the value at the entry and the ones before the point, which 25 keeps small, or absence.
use native.Mathlib.Omega.{arith}
use Prim.Native.Nat.{◌^◌, ◌<◌}
use native.Mathlib.Nat.{lt_of_le_of_lt}
use mathlib.Core.Path.{◌∙◌, sym, ap}
use Rattle.bitreader.specs.Taken.{taken_at}
use Rattle.cursor.proofs.Groups.{number-few}
use Rattle.cursor.proofs.Looks.{looked-bad, looked-value, looked-absent}
use Rattle.cursor.proofs.look.Goals as goal

pub returns-then-index_bad : goal.returns-then-index_bad
returns-then-index_bad c =
    looked-bad _ _ _ _ _ _ _ _ _ c.group_by-group.ensures.0 _ c.index_bad.ensures
    c.if-index_bad.true _ c.refusal.ensures

pub overflow_add-k : goal.overflow_add-k
overflow_add-k c =
    let a = c.args in
    let most : a.m < 2 ^ 32 = omega (arith, c.ranges.m) in
    record {
      fits = lt_of_le_of_lt
          (number-few _ a.index.now a.n a.m a.i _ _ _ c.requires.0 c.group_by-group.ensures.0
          (sym c.index_bad.ensures ∙ c.if-index_bad.false) c.entry.ensures
          c.group_by-group.ensures.1)
          most;
    }

pub returns-then-group-eq1 : goal.returns-then-group-eq1
unfolding taken_at
returns-then-group-eq1 c =
    let group = c.group_by-group in
    looked-value _ _ _ _ _ _ _ _ _ group.ensures.0 _ c.index_bad.ensures c.if-index_bad.false _
    group.ensures.2 c.if-group-eq1.true _ _ _ _ c.entry.ensures group.ensures.1
    c.value_place-at.ensures (ap (λ t. t.value) c.take.ensures)

pub returns : goal.returns
returns c =
    let group = c.group_by-group in
    looked-absent _ _ _ _ _ _ _ _ _ group.ensures.0 _ c.index_bad.ensures c.if-index_bad.false _
    group.ensures.2 c.if-group-eq1.false
