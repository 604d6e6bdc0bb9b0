use Prim.Native.Nat.{◌<◌}
use native.Mathlib.Omega.{arith}
use Rattle.packs.proofs.Small.{power-is, held_none, held_more, held_fits, eight-long, eight-at}
use Rattle.packs.proofs.packing.eight.Goals as goal

pub loop-v-init : goal.loop-v-init
loop-v-init c = let a = c.args in held_none a.n a.vs.now a.i

pub overflow_mul-all : goal.overflow_mul-all
overflow_mul-all c =
    let l = c.loop-v in
    let a = c.args in
    let h : l.v-index < 8 = omega (arith, eight-long a.vs.now a.i (omega arith)) in
    let e = held_more a.n a.vs.now c.requires.wide a.i l.v-index l.all _ (power-is a.n (omega arith)) l.invariant in
    record { fits = (held_fits a.n a.vs.now (omega arith) a.i l.v-index l.all _ _ h e).0 }

pub overflow_add-all : goal.overflow_add-all
overflow_add-all c =
    let l = c.loop-v in
    let a = c.args in
    let h : l.v-index < 8 = omega (arith, eight-long a.vs.now a.i (omega arith)) in
    let e = held_more a.n a.vs.now c.requires.wide a.i l.v-index l.all _ (power-is a.n (omega arith)) l.invariant in
    rw (eight-at a.vs.now a.i l.v-index h)
    (record { fits = (held_fits a.n a.vs.now (omega arith) a.i l.v-index l.all _ _ h e).1 })

pub loop-v-preserved : goal.loop-v-preserved
loop-v-preserved c =
    let l = c.loop-v in
    let a = c.args in
    let h : l.v-index < 8 = omega (arith, eight-long a.vs.now a.i (omega arith)) in
    rw (eight-at a.vs.now a.i l.v-index h)
    (held_more a.n a.vs.now c.requires.wide a.i l.v-index l.all _ (power-is a.n (omega arith)) l.invariant)
