use native.Mathlib.Omega.{arith}
use Prim.Native.Nat.{ℕ, ◌+◌, ◌-◌, ◌^◌}
use lib.ListN.{length-set}
use mathlib.Core.Path.{◌≡◌, sym, ap, ◌∙◌, subst}
use Rattle.rules.specs.Listing.{numeral}
use Rattle.listing.specs.Text.{Wrote}
use native.Mathlib.Nat.{sub-zero, mod-lt, lt_of_lt_of_le}
use Rattle.bits.specs.Tables.{tab}
use Rattle.listing.proofs.Writes.{wrote_start}
use Rattle.listing.proofs.Digits.{weight_next, weight_pos, digit_turn, numeral-done}
use Rattle.listing.proofs.text.numeral.Goals as goal

pub loop-j-init : goal.loop-j-init
unfolding tab
loop-j-init c = (
  c.requires.power_value
      ∙ ap (λ (x : ℕ). c.args.base ^ x) (sym (sub-zero c.args.c)),
  wrote_start _ _,
)

pub nonzero_div-n : goal.nonzero_div-n
nonzero_div-n c = weight_pos _ _ _ _ (omega arith) (omega arith) c.loop-j.invariant.0

pub digit-requires : goal.digit-requires
digit-requires c = lt_of_lt_of_le (mod-lt _ (omega arith)) (omega arith)

pub loop-j-preserved : goal.loop-j-preserved
loop-j-preserved c =
    let l = c.loop-j in (
      weight_next _ _ _ _ (omega arith) (omega arith) l.invariant.0,
      digit_turn _ _ _ _ _ _ _ _ _ (omega arith) (omega arith) l.invariant.0 (omega arith) l.invariant.1 c.digit.ensures,
    )

pub returns : goal.returns
returns c =
    let l = c.loop-j in
    let a = c.args in
    let e : l.j ≡ a.c = omega arith in
    subst (λ (x : ℕ). Wrote a.text.now l.text a.at (a.at + x) (numeral a.base a.c a.n)) e
    (numeral-done _ _ _ _ _ _ _ (omega arith) l.invariant.1)
