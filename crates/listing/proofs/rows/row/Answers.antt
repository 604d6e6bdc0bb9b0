use native.Mathlib.Omega.{arith}
use Prim.Native.Nat.{ℕ, ◌-◌}
use mathlib.Core.Path.{◌≡◌, refl, ap, ◌∙◌}
use Rattle.rules.specs.Chart.{the_row_long}
use Rattle.rules.specs.Listing.{joined_to, stop}
use Rattle.listing.proofs.Writes.{wrote_none, joined-most}
use Rattle.listing.proofs.Cells.{word, word-most, here-most, cell_turn, row_done}
use Rattle.listing.proofs.rows.row.Goals as goal

pub loop-c-init : goal.loop-c-init
unfolding joined_to
loop-c-init c = wrote_none _ _

pub cell-next-requires : goal.cell-next-requires
cell-next-requires c =
    let l = c.loop-c in
    let a = c.args in
    let m = joined-most (word a.values.now a.marks.now a.g a.r) 11 (word-most a.values.now a.marks.now a.g a.r) l.c in record {
      at_in_bounds = omega arith;
      i_in_bounds = omega arith;
    }

pub loop-c-preserved : goal.loop-c-preserved
loop-c-preserved c =
    let l = c.loop-c in
    let a = c.args in
    let w = word a.values.now a.marks.now a.g a.r in
    let k = here-most a.values.now a.marks.now c.point-i.result c.stop.result in
    let m = joined-most w 11 (word-most a.values.now a.marks.now a.g a.r) l.c in
    let n = cell_turn _ _ _ _ _ _ a.values.now a.marks.now a.g a.r l.c _ _ l.invariant c.cell-next.ensures c.point-i.ensures.0 (c.stop.ensures ∙ ap (λ (x : ℕ). stop x l.c) c.row_long-wide.ensures) (omega arith) in
    n

pub returns : goal.returns
returns c =
    let a = c.args in
    let e : c.loop-c.c ≡ the_row_long a.g a.r = omega arith in
    row_done _ _ _ _ a.values.now a.marks.now a.g a.r _ e c.loop-c.invariant
