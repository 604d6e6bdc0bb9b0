use mathlib.Core.Path.{◌≡◌, refl, sym, ap₂, ◌∙◌}
use Prim.Native.Nat.{ℕ, ◌+◌, ◌*◌}
use native.Mathlib.Omega.{arith}
use borrow.Author.Rules.{rules}
use Rattle.bits.specs.Bits.{run, runs}
use Rattle.bits.specs.Tables.{tab}
use Rattle.bits.proofs.Runs.{bits_in-bits, run-below, run-octet}
use Rattle.bits.proofs.Unpack.{stored}
use Rattle.runs.proofs.unpacking.unpack_octets.Goals as goal

pub loop-i-init : goal.loop-i-init
unfolding runs tab
loop-i-init g c = refl

pub loop-j-init : goal.loop-j-init
unfolding run
loop-j-init g c = refl

pub overflow_mul-x : goal.overflow_mul-x
overflow_mul-x g c =
    let q = c.loop-j in
    let p = (c.args.k + c.loop-i.i * g.row.C) * 8 in
    record { fits = omega (arith, q.invariant, run-below (bits_in-bits 8 c.args.s.now) p (q.j * 8) 16 (omega arith)) }

pub overflow_add-x : goal.overflow_add-x
overflow_add-x g c =
    let q = c.loop-j in
    let p = (c.args.k + c.loop-i.i * g.row.C) * 8 in
    record { fits = omega (arith, q.invariant, run-below (bits_in-bits 8 c.args.s.now) p (q.j * 8) 16 (omega arith)) }

pub loop-j-preserved : goal.loop-j-preserved
loop-j-preserved g c =
    let k = c.args.k + c.loop-i.i * g.row.C in
    ap₂ (λ (x y : ℕ). x * 256 + y) c.loop-j.invariant c.low.ensures.0
    ∙ sym (run-octet c.args.s.now k c.loop-j.j (search rules))

pub loop-i-preserved : goal.loop-i-preserved
loop-i-preserved g c =
    let l = c.loop-i in
    let a = c.args in
    let e : c.loop-j.j ≡ g.row.C = omega arith in
    stored a.s.now a.out.now l.out (a.k * 8) (g.row.C * 8) l.i _ ((a.k + l.i * g.row.C) * 8) (omega arith) l.invariant
    (rw e at c.loop-j.invariant) (omega arith)
