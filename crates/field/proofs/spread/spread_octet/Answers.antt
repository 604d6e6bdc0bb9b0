-- Each turn is the law octet_turn.
use mathlib.Core.Path.{sym, ◌∙◌}
use native.Mathlib.Omega.{arith}
use Prim.Native.Nat.{◌-◌}
use Rattle.bits.proofs.Runs.{bits_at}
use Rattle.field.proofs.Spreading.{octet_asks, octet_turn, settled_octet, octet-none, octet-all}
use Rattle.field.proofs.spread.spread_octet.Goals as goal

pub settle-d-requires-clause-k_bound : goal.settle-d-requires-clause-k_bound
settle-d-requires-clause-k_bound c =
    let l = c.loop-j in
    let a = c.args in
    (octet_asks a.bitmap.now a.n a.g l.j l.d 0 a.values.now l.values
    (omega arith) (omega arith) (omega arith) (omega arith) (octet-none a.bitmap.now a.g (l.j - 1) (omega arith) c.if-b-eq0.true) l.invariant).0

pub loop-j-preserved : goal.loop-j-preserved
loop-j-preserved c =
    let l = c.loop-j in
    let a = c.args in
    let s = c.settle-d.ensures in
    (octet_turn a.bitmap.now a.n a.g l.j l.d 0 a.values.now l.values
    (omega arith) (omega arith) (omega arith) (omega arith) (octet-none a.bitmap.now a.g (l.j - 1) (omega arith) c.if-b-eq0.true) l.invariant _ _ s.value s.values_after).1

pub settle-d-requires-in-loop-j-then-b-clause-k_bound : goal.settle-d-requires-in-loop-j-then-b-clause-k_bound
settle-d-requires-in-loop-j-then-b-clause-k_bound c =
    let l = c.loop-j-then-b in
    let a = c.args in
    (octet_asks a.bitmap.now a.n a.g l.j l.d 1 a.values.now l.values
    (omega arith) (omega arith) (omega arith) (omega arith) (octet-all a.bitmap.now a.g (l.j - 1) (omega arith) c.if-b.true) l.invariant).0

pub loop-j-then-b-preserved : goal.loop-j-then-b-preserved
loop-j-then-b-preserved c =
    let l = c.loop-j-then-b in
    let a = c.args in
    let s = c.settle-d-in-loop-j-then-b.ensures in
    (octet_turn a.bitmap.now a.n a.g l.j l.d 1 a.values.now l.values
    (omega arith) (omega arith) (omega arith) (omega arith) (octet-all a.bitmap.now a.g (l.j - 1) (omega arith) c.if-b.true) l.invariant _ _ s.value s.values_after).1

pub settle-d-requires-in-loop-j-else-b-clause-k_bound : goal.settle-d-requires-in-loop-j-else-b-clause-k_bound
settle-d-requires-in-loop-j-else-b-clause-k_bound c =
    let l = c.loop-j-else-b in
    let a = c.args in
    (octet_asks a.bitmap.now a.n a.g l.j l.d c.bit.result a.values.now l.values
    (omega arith) (omega arith) (omega arith) (omega arith) (c.bit.ensures.0 ∙ sym (bits_at 8 a.bitmap.now a.g (l.j - 1) (omega arith))) l.invariant).0

pub loop-j-else-b-preserved : goal.loop-j-else-b-preserved
loop-j-else-b-preserved c =
    let l = c.loop-j-else-b in
    let a = c.args in
    let s = c.settle-d-in-loop-j-else-b.ensures in
    (octet_turn a.bitmap.now a.n a.g l.j l.d c.bit.result a.values.now l.values
    (omega arith) (omega arith) (omega arith) (omega arith) (c.bit.ensures.0 ∙ sym (bits_at 8 a.bitmap.now a.g (l.j - 1) (omega arith))) l.invariant _ _ s.value s.values_after).1

pub returns-after-loop-j : goal.returns-after-loop-j
returns-after-loop-j c =
    let l = c.loop-j in
    let a = c.args in
    settled_octet a.bitmap.now a.n a.g l.j l.d a.values.now l.values (omega arith) l.invariant

pub returns-after-loop-j-then-b : goal.returns-after-loop-j-then-b
returns-after-loop-j-then-b c =
    let l = c.loop-j-then-b in
    let a = c.args in
    settled_octet a.bitmap.now a.n a.g l.j l.d a.values.now l.values (omega arith) l.invariant

pub returns-after-loop-j-else-b : goal.returns-after-loop-j-else-b
returns-after-loop-j-else-b c =
    let l = c.loop-j-else-b in
    let a = c.args in
    settled_octet a.bitmap.now a.n a.g l.j l.d a.values.now l.values (omega arith) l.invariant
