-- What stands at a grid point, by its mark (Cells).
use mathlib.Core.Path.{sym, ◌∙◌}
use native.Mathlib.Omega.{arith}
use Rattle.listing.proofs.Cells.{cell-here, cell-none}
use Rattle.listing.proofs.rows.cell.Goals as goal

pub returns-then-present : goal.returns-then-present
returns-then-present c =
    let a = c.args in
    cell-here _ _ _ _ a.values.now a.marks.now a.i a.stop
    (sym c.present.ensures
    ∙ c.if-present.true) c.number.ensures.0

pub letter-next-requires : goal.letter-next-requires
letter-next-requires c = omega arith

pub letter-requires : goal.letter-requires
letter-requires c = omega arith

pub returns : goal.returns
returns c =
    let a = c.args in
    cell-none _ _ _ _ _ _ a.values.now a.marks.now a.i a.stop
    (sym c.present.ensures
    ∙ c.if-present.false)
    c.letter-next.ensures c.letter.ensures
    (omega arith)
