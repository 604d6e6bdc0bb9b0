-- Present, absent or outside: three returns, each one law of Laws.
use mathlib.Core.Path.{sym, ◌∙◌}
use Rattle.data_numbers.proofs.Laws as L
use Rattle.data_numbers.proofs.counted.Goals as goal

pub returns-then-bit-eq1 : goal.returns-then-bit-eq1
returns-then-bit-eq1 c =
    L.here _ _ _ _ c.if-i-n.true
    (sym c.bit.ensures ∙ c.if-bit-eq1.true) (L.count-from _ _ _ _ c.ones.ensures)

pub returns-then-i-n : goal.returns-then-i-n
returns-then-i-n c = L.away _ _ _ c.if-i-n.true (λ e. c.if-bit-eq1.false (c.bit.ensures ∙ e))

pub returns : goal.returns
returns c = L.out _ _ _ c.if-i-n.false
