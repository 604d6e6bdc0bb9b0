use mathlib.Core.Path.{refl, ap, ◌∙◌}
use Prim.Native.Nat.{ℕ}
use native.Mathlib.Nat.{add-zero}
use lib.ListN.{get_or}
use Rattle.marks.proofs.Points.{unlike-none, unlike-more}
use Rattle.marks.proofs.judging.unlike.Goals as goal

pub loop-i-init : goal.loop-i-init
loop-i-init c = unlike-none _ _ _

pub loop-i-preserved : goal.loop-i-preserved
loop-i-preserved c = let l = c.loop-i in unlike-more _ _ _ l.i _ _ _ l.invariant refl refl

pub loop-i-2-preserved : goal.loop-i-2-preserved
loop-i-2-preserved c =
    let l = c.loop-i-2 in
    let e = c.at-in-loop-i-2.ensures ∙ ap (λ (x : ℕ). get_or c.args.marks.now x 0) (add-zero l.i) in
    unlike-more _ _ _ l.i _ _ _ l.invariant c.at.ensures e
