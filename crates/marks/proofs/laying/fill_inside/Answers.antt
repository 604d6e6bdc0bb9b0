use mathlib.Core.Path.{refl, ap, ap₂, ◌∙◌}
use mathlib.Core.List.{List, ◌++◌}
use Prim.Native.Nat.{ℕ, ◌+◌, ◌*◌}
use native.Mathlib.Omega.{arith}
use lib.ListN.{set, drop}
use Rattle.bits.specs.Tables.{tab}
use Rattle.bits.proofs.Fill.{fill}
use Rattle.marks.proofs.Points.{map-bit}
use Rattle.marks.proofs.Bitmaps.{G, octet-bit}
use Rattle.marks.proofs.laying.fill_inside.Goals as goal

pub loop-g-init : goal.loop-g-init
unfolding tab
loop-g-init c = refl

pub loop-j-preserved : goal.loop-j-preserved
loop-j-preserved c =
    let q = c.loop-j in
    let a = c.args in
    let f = G a.map.now a.k in
    let i = c.loop-g.g * 8 + q.j in
    ap₂ (λ (o : List ℕ) (x : ℕ). set o i x) q.invariant (octet-bit a.map.now a.k c.loop-g.g q.j (omega arith))
    ∙ fill f i a.marks.now (omega arith) ∙ ap (λ (n : ℕ). tab f n ++ drop n a.marks.now) (omega arith)

pub loop-i-preserved : goal.loop-i-preserved
loop-i-preserved c =
    let q = c.loop-i in
    let a = c.args in
    ap₂ (λ (o : List ℕ) (x : ℕ). set o q.i x) q.invariant (map-bit a.map.now a.k q.i)
    ∙ fill (G a.map.now a.k) q.i a.marks.now (omega arith)
