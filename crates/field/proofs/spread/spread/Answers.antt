-- Each point settled is the law settle_turn, each octet what spread_octet leaves.
use mathlib.Core.Path.{◌≡◌, refl, sym, ap, ◌∙◌, subst}
use native.Mathlib.Omega.{arith}
use Prim.Native.Nat.{ℕ, ◌+◌, ◌-◌, ◌*◌, ◌/◌}
use Rattle.bits.specs.Bits.{bits_in, count}
use Rattle.field.specs.Down.{Down}
use Rattle.field.proofs.Spreading.{down-none, down-all, Settled, settle_asks, settle_turn}
use Rattle.field.proofs.spread.spread.Goals as goal

pub loop-i-init : goal.loop-i-init
loop-i-init c = (omega arith, (c.requires.m_value, refl, λ v d. d))

pub settle-c-requires-clause-k_bound : goal.settle-c-requires-clause-k_bound
unfolding bits_in
settle-c-requires-clause-k_bound c =
    let l = c.loop-i in
    let a = c.args in
    (settle_asks a.bitmap.now a.n a.n l.i (l.i - 1) l.c c.bit.result a.values.now l.values
    (omega arith) (omega arith) (omega arith) c.bit.ensures.0 l.invariant.1).0

pub loop-i-preserved : goal.loop-i-preserved
unfolding bits_in
loop-i-preserved c =
    let l = c.loop-i in
    let a = c.args in
    let k = c.bit in
    let s = c.settle-c.ensures in (
      omega arith,
      settle_turn a.bitmap.now a.n a.n l.i (l.i - 1) l.c k.result a.values.now
          l.values (omega arith) (omega arith) (omega arith) k.ensures.0 l.invariant.1 _ _ s.value s.values_after,
    )

pub loop-g-init : goal.loop-g-init
loop-g-init c =
    let l = c.loop-i in
    let e : l.i ≡ c.args.n / 8 * 8 = omega arith in
    (l.invariant.1.0 ∙ ap (count (bits_in 8 c.args.bitmap.now) 0) e, refl, λ v d. d)

pub spread_octet-c-requires : goal.spread_octet-c-requires
spread_octet-c-requires c =
    let l = c.loop-g in
    let a = c.args in
    let e : l.g * 8 ≡ (l.g - 1) * 8 + 8 = omega arith in
    record {
      c_value = l.invariant.0 ∙ ap (count (bits_in 8 a.bitmap.now) 0) e;
      g_in_bounds = omega arith;
      g_bound = omega arith;
      n_in_bounds = omega arith;
    }

pub loop-g-preserved : goal.loop-g-preserved
loop-g-preserved c =
    let l = c.loop-g in
    let a = c.args in
    let s = c.spread_octet-c in
    let e : l.g * 8 ≡ (l.g - 1) * 8 + 8 = omega arith in (
      s.ensures.0,
      s.auto.values ∙ l.invariant.1,
      λ v d. s.ensures.1 v (subst (Down (bits_in 8 a.bitmap.now) a.n v l.values) e (l.invariant.2 v d)),
    )

pub returns : goal.returns
returns c =
    let q = c.loop-g in
    let l = c.loop-i in
    let a = c.args in
    let f = bits_in 8 a.bitmap.now in
    let v = a.values.now in
    let z : q.g * 8 ≡ 0 = omega arith in
    let e : l.i ≡ a.n / 8 * 8 = omega arith in
    down-all f a.n v q.values (omega arith)
    (subst (Down f a.n v q.values) z
    (q.invariant.2 v (subst (Down f a.n v l.values) e (l.invariant.1.2 v (down-none f a.n v)))))
