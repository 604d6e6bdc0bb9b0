-- Octets past the end have no ones, so those inside have all.
use mathlib.Core.Path.{sym, ◌∙◌}
use native.Mathlib.Omega.{arith}
use Rattle.bits.proofs.Ones.{count-inside, count_past}
use Rattle.runs.proofs.counting.ones_whole.Goals as goal

pub returns-then-p-s : goal.returns-then-p-s
returns-then-p-s c =
    let a = c.args in
    c.ones_inside-then-p-s.ensures
    ∙ count-inside a.s.now a.p _ a.c (λ i. (c.shared_slice_known-1.given i).fits) (omega arith) (omega arith)

pub returns : goal.returns
returns c =
    let a = c.args in
    sym (count_past a.s.now _ _ (λ i. (c.shared_slice_known-1.given i).fits) (omega arith))
