use mathlib.Core.Path.{ap, ◌∙◌}
use mathlib.Core.List.{List}
use Prim.Native.Nat.{ℕ, ◌*◌}
use native.Mathlib.Omega.{arith}
use lib.ListN.{get_or}
use Rattle.bits.specs.Bits.{put_at}
use Rattle.bits.proofs.Placed.{pack_turn}
use Rattle.packs.proofs.packing.pack_rest.Goals as goal

pub loop-i-preserved : goal.loop-i-preserved
loop-i-preserved c d e =
    let l = c.loop-i in
    let a = c.args in
    c.placed.ensures
    ∙ ap (λ (x : List ℕ). put_at x (l.i * a.n) a.n (get_or a.vs.now l.i 0)) (l.invariant d e)
    ∙ pack_turn a.n a.vs.now d l.i c.requires.wide (omega arith)
