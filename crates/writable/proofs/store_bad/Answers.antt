-- Refusal 10 of a stored bitmap: three returns, each one law of Judged.
use Rattle.writable.proofs.Judged.{store_wrong, store_short, store_read, store_fit}
use mathlib.Core.Path.{sym, ◌∙◌}
use lib.Dec.{eqb}
use lib.ListN.{length}
use mathlib.Core.Bool.{true, false}
use Rattle.writable.proofs.store_bad.Goals as goal

pub returns-then-wanted-number : goal.returns-then-wanted-number
returns-then-wanted-number c values e = store_wrong _ _ values _ _ c.if-wanted-number.true

pub returns-then-lists_fit : goal.returns-then-lists_fit
returns-then-lists_fit c values e =
    let a = c.args in
    store_read _ _ values _ _ c.if-wanted-number.false
    (store_fit values a.long a.n (eqb (length a.marks.now) a.n) true e
    (sym c.lists_fit.ensures ∙ c.if-lists_fit.true)) _ c.unlike.ensures

pub returns : goal.returns
returns c values e =
    let a = c.args in
    store_short _ _ values _ _ c.if-wanted-number.false
    (store_fit values a.long a.n (eqb (length a.marks.now) a.n) false e
    (sym c.lists_fit.ensures ∙ c.if-lists_fit.false))
