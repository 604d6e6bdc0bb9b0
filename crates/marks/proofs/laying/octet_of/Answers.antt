use mathlib.Core.Path.{◌≡◌, refl, ap, ◌∙◌}
use Prim.Native.Nat.{◌+◌, ◌-◌, ◌*◌, ◌%◌, ◌^◌}
use native.Mathlib.Omega.{arith}
use Rattle.bits.specs.Bits.{run}
use Rattle.marks.proofs.Bitmaps.{F, octet-none, octet-more, octet-lt, octet-full}
use Rattle.marks.proofs.laying.octet_of.Goals as goal

pub loop-j-init : goal.loop-j-init
loop-j-init c = λ m l e. octet-none c.args.marks.now m c.args.p

pub overflow_mul-x : goal.overflow_mul-x
overflow_mul-x c =
    let l = c.loop-j in
    let a = c.args in
    let h = octet-lt a.marks.now (a.p + a.c) a.p l.j l.x (omega arith) (l.invariant (a.p + a.c) (omega arith) (λ _. refl)) in
    omega arith

pub overflow_add-x-in-loop-j : goal.overflow_add-x-in-loop-j
overflow_add-x-in-loop-j c =
    let l = c.loop-j in
    let a = c.args in
    let h = octet-lt a.marks.now (a.p + a.c) a.p l.j l.x (omega arith) (l.invariant (a.p + a.c) (omega arith) (λ _. refl)) in
    omega arith

pub loop-j-preserved : goal.loop-j-preserved
loop-j-preserved c =
    let l = c.loop-j in
    let a = c.args in
    λ m h e. octet-more a.marks.now m a.p l.j l.x (omega arith) (l.invariant m h e)

pub overflow_cast-result-3 : goal.overflow_cast-result-3
overflow_cast-result-3 c =
    let l = c.loop-j in
    let a = c.args in
    let e : l.j ≡ a.c = omega arith in
    let s : l.x ≡ run (F a.marks.now (a.p + a.c)) a.p a.c = l.invariant (a.p + a.c) (omega arith) (λ _. refl) ∙ ap (run (F a.marks.now (a.p + a.c)) a.p) e in
    let h = octet-full a.marks.now (a.p + a.c) a.p a.c l.x (omega arith) (λ _. refl) s in
    omega (arith, h.1)

pub returns : goal.returns
returns c = λ m h g.
    let l = c.loop-j in
    let a = c.args in
    let e : l.j ≡ a.c = omega arith in
    let s : l.x ≡ run (F a.marks.now m) a.p a.c = l.invariant m h g ∙ ap (run (F a.marks.now m) a.p) e in
    let f = octet-full a.marks.now m a.p a.c l.x (omega arith) g s in
    let k : l.x * 2 ^ (8 - a.c) % 4294967296 ≡ l.x * 2 ^ (8 - a.c) = omega (arith, f.1) in
    k ∙ f.0
