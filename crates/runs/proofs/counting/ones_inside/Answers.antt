use mathlib.Core.Path.{◌≡◌, refl, sym, ap, ◌∙◌}
use Prim.Native.Nat.{ℕ, ◌+◌, ◌*◌}
use native.Mathlib.Omega.{arith}
use borrow.Author.Rules.{rules}
use lib.ListN.{get_or}
use lib.Count.{ones}
use Rattle.bits.specs.Bits.{count}
use Rattle.bits.proofs.Runs.{bits_in-bits}
use Rattle.bits.proofs.Ones.{count-le, count-octet}
use Rattle.runs.proofs.Tallies.{then}
use Rattle.runs.proofs.counting.ones_inside.Goals as goal

pub loop-g-init : goal.loop-g-init
unfolding count
loop-g-init c = refl

pub overflow_add-total : goal.overflow_add-total
overflow_add-total c =
    let l = c.loop-g in
    let a = c.args in
    omega (
      arith,
      then a.s.now a.p (l.g * 8) 64 _ _ l.invariant c.reversed8.ensures,
      count-le (bits_in-bits 8 a.s.now) (a.p * 8) (l.g * 8 * 8 + 64),
    )

pub loop-g-preserved : goal.loop-g-preserved
loop-g-preserved c =
    let l = c.loop-g in
    let a = c.args in
    let e : l.g * 8 * 8 + 64 ≡ (l.g + 1) * 8 * 8 = omega arith in
    rw e at (then a.s.now a.p (l.g * 8) 64 _ _ l.invariant c.reversed8.ensures)

pub overflow_add-total-in-loop-j-2 : goal.overflow_add-total-in-loop-j-2
overflow_add-total-in-loop-j-2 c =
    let l = c.loop-j in
    let a = c.args in
    omega (
      arith,
      count-octet a.s.now a.p l.j (search rules),
      count-le (bits_in-bits 8 a.s.now) (a.p * 8) ((l.j + 1) * 8),
    )

pub loop-j-preserved : goal.loop-j-preserved
loop-j-preserved c =
    let l = c.loop-j in
    let a = c.args in
    ap (λ (x : ℕ). x + ones (get_or a.s.now (a.p + l.j) 0)) l.invariant ∙ sym (count-octet a.s.now a.p l.j (search rules))
