use mathlib.Core.Path.{refl}
use native.Mathlib.Omega.{arith}
use Prim.Native.Nat.{◌*◌}
use Rattle.bits.specs.Tables.{tab}
use Rattle.cursor.proofs.Groups.{entry-put, entries_put}
use Rattle.cursor.proofs.fill_even.Goals as goal

pub loop-g-init : goal.loop-g-init
unfolding tab
loop-g-init c = refl

pub loop-g-preserved : goal.loop-g-preserved
loop-g-preserved c =
    let l = c.loop-g in
    entry-put (λ k. k * 256) c.args.index.now l.index l.g _ l.invariant refl (omega arith)

pub returns : goal.returns
returns c =
    let l = c.loop-g in
    let a = c.args in
    entries_put (λ k. k * 256) a.index.now l.index l.g a.groups (omega arith) l.invariant
