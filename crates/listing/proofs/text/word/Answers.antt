use native.Mathlib.Omega.{arith}
use Prim.Native.Nat.{ℕ, ◌+◌}
use lib.ListN.{length, length-set}
use mathlib.Core.Path.{◌≡◌, subst}
use Rattle.listing.specs.Text.{Wrote}
use Rattle.bits.specs.Tables.{tab}
use Rattle.listing.proofs.Writes.{word-done, wrote_start, wrote_tab}
use Rattle.listing.proofs.text.word.Goals as goal

pub loop-i-init : goal.loop-i-init
unfolding tab
loop-i-init c = wrote_start _ _

pub loop-i-preserved : goal.loop-i-preserved
loop-i-preserved c =
    let l = c.loop-i in
    wrote_tab _ _ l.invariant (omega arith)

pub returns : goal.returns
returns c =
    let l = c.loop-i in
    let w = c.args.w.now in
    let e : l.i ≡ length w = omega arith in
    subst (λ (x : ℕ). Wrote c.args.text.now l.text c.args.at (c.args.at + x) w) e (word-done _ _ _ _ _ e l.invariant)
