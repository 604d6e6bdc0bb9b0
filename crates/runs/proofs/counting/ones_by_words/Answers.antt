-- Whole words, as many as are needed, and the bits left over of the one after them.
use native.Mathlib.Omega.{arith}
use Prim.Native.Nat.{◌-◌, ◌*◌, ◌/◌}
use lib.Dec.{ltb}
use Rattle.bits.proofs.Runs.{bits_in-bits}
use Rattle.bits.proofs.Ones.{count-le}
use Rattle.runs.proofs.Tallies.{words_taken, few-taken, taken-few}
use Rattle.runs.proofs.counting.ones_by_words.Goals as goal

pub overflow_add-result : goal.overflow_add-result
overflow_add-result c =
    let w = (c.args.n - 1) / 64 in
    omega (arith, taken-few _ _ _ (ltb 0 w) c.ones_wanted.ensures, taken-few _ _ _ (ltb 1 w) c.ones_wanted-2.ensures)

pub overflow_add-result-2 : goal.overflow_add-result-2
overflow_add-result-2 c =
    let w = (c.args.n - 1) / 64 in
    omega (
      arith,
      taken-few _ _ _ (ltb 0 w) c.ones_wanted.ensures,
      taken-few _ _ _ (ltb 1 w) c.ones_wanted-2.ensures,
      taken-few _ _ _ (ltb 2 w) c.ones_wanted-3.ensures,
    )

pub overflow_add-result-3 : goal.overflow_add-result-3
overflow_add-result-3 c =
    let a = c.args in
    let w = (a.n - 1) / 64 in
    omega (
      arith,
      few-taken a.s.now a.p a.n w _ _ (omega arith)
          (words_taken a.s.now a.p w _ _ _ (omega arith) c.ones_wanted.ensures c.ones_wanted-2.ensures c.ones_wanted-3.ensures)
          c.leading-last.ensures,
      count-le (bits_in-bits 8 a.s.now) (a.p * 8) a.n,
    )

pub returns : goal.returns
returns c =
    let a = c.args in
    let w = (a.n - 1) / 64 in
    few-taken a.s.now a.p a.n w _ _ (omega arith)
    (words_taken a.s.now a.p w _ _ _ (omega arith) c.ones_wanted.ensures c.ones_wanted-2.ensures c.ones_wanted-3.ensures)
    c.leading-last.ensures
