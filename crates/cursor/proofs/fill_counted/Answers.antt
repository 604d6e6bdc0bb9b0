use mathlib.Core.Path.{◌≡◌, refl}
use native.Mathlib.Omega.{arith}
use Prim.Native.Nat.{◌+◌}
use Rattle.bits.specs.Tables.{tab}
use Rattle.rules.specs.Cursor.{ones_before}
use Rattle.bitmap.specs.Held.{bits_from}
use Rattle.cursor.proofs.Groups.{no_ones, next-ones, ones-few, entry-put, entries_put}
use Rattle.cursor.proofs.fill_counted.Goals as goal

pub loop-g-init : goal.loop-g-init
unfolding tab
loop-g-init c = (no_ones c.args.s.now c.args.p, refl)

counted : (c : goal.After-ones_256-before) →
    let l = c.loop-g in
    let a = c.args in
    l.before + c.ones_256-before.result ≡ ones_before (bits_from a.s.now a.p) (l.g + 1)
counted c =
    let l = c.loop-g in
    let a = c.args in
    next-ones a.s.now a.p l.g _ l.before c.ones_256-before.result refl l.invariant.0 c.ones_256-before.ensures

pub overflow_add-before : goal.overflow_add-before
overflow_add-before c =
    let l = c.loop-g in
    let a = c.args in
    omega (arith, counted c, ones-few a.s.now a.p (l.g + 1))

pub loop-g-preserved : goal.loop-g-preserved
loop-g-preserved c =
    let l = c.loop-g in
    let a = c.args in
    let f = ones_before (bits_from a.s.now a.p) in
    (counted c, entry-put f a.index.now l.index l.g _ l.invariant.1 l.invariant.0 (omega arith))

pub returns : goal.returns
returns c =
    let l = c.loop-g in
    let a = c.args in
    entries_put _ a.index.now l.index l.g a.groups (omega arith) l.invariant.1
