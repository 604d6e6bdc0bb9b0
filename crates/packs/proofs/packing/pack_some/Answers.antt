use mathlib.Core.Path.{◌≡◌, sym, subst}
use native.Mathlib.Nat.{add-zero}
use Rattle.packs.proofs.Over.{State, state_none, state_turn, in_fits}
use native.Mathlib.Omega.{arith}
use Prim.Native.Nat.{◌+◌}
use lib.ListN.{get_or}
use Rattle.packs.proofs.packing.pack_some.Goals as goal

pub loop-j-init : goal.loop-j-init
loop-j-init c =
    let a = c.args in (
      omega arith,
      subst (State a.vs.now a.n a.out.now a.i a.out.now a.k 0 0)
          (sym (add-zero a.i)) (state_none a.vs.now a.n a.out.now a.k a.i c.requires.k_value.0),
    )

pub overflow_add-all-in-loop-j : goal.overflow_add-all-in-loop-j
overflow_add-all-in-loop-j c =
    let q = c.loop-j in
    let a = c.args in
    record { fits = in_fits q.all a.n (get_or a.vs.now (a.i + q.j) 0) (omega arith) (c.requires.wide (a.i + q.j)) }

pub loop-j-preserved : goal.loop-j-preserved
loop-j-preserved c =
    let q = c.loop-j in
    let a = c.args in
    let f = c.store in
    let r : a.i + (q.j + 1) ≡ a.i + q.j + 1 = omega arith in (
      omega arith,
      subst (State a.vs.now a.n a.out.now a.i _ a.k _ _) (sym r)
          (state_turn a.n a.vs.now c.requires.wide (omega arith) a.out.now a.i q.out a.k q.p
          q.all (a.i + q.j) q.invariant.1 (omega arith) _ f.auto.out f.ensures),
    )
