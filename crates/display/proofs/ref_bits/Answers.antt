-- The bits of R: the shift loses no digit and the sum fits, by what the leading zeros say (Lead).
use mathlib.Core.Path.{sym, ap}
use Prim.Native.Nat.{ℕ}
use native.Mathlib.Omega.{arith}
use lib.Count.{count_leading_zeros}
use Rattle.rules.specs.Display.{the_ref_bits}
use Rattle.laws.proofs.Lead.{Lead, lead, some}
use Rattle.display.proofs.ref_bits.Goals as goal

here : (c : goal.Else-b-eq0) → Lead c.args.b (count_leading_zeros 32 c.args.b)
here c = lead c.args.b c.if-b-eq0.false (omega arith)

pub returns-then-b-eq0 : goal.returns-then-b-eq0
unfolding the_ref_bits
returns-then-b-eq0 c = ap (λ (x : ℕ). the_ref_bits c.args.s c.args.a x) (sym c.if-b-eq0.true)

pub overflow_cast-z : goal.overflow_cast-z
overflow_cast-z c = omega (arith, here c)

pub overflow_add-t : goal.overflow_add-t
overflow_add-t c = omega (arith, here c)

pub overflow_shl-t : goal.overflow_shl-t
overflow_shl-t c = omega (arith, here c)

pub overflow_sub-result : goal.overflow_sub-result
overflow_sub-result c = omega (arith, here c)

pub overflow_add-result-2 : goal.overflow_add-result-2
overflow_add-result-2 c = rw (here c).exact (omega (arith, here c))

pub overflow_add-result-3 : goal.overflow_add-result-3
overflow_add-result-3 c = rw (here c).exact (omega (arith, here c))

pub returns : goal.returns
returns c =
    rw (here c).exact (sym (some c.args.s c.args.a c.args.b c.if-b-eq0.false))
