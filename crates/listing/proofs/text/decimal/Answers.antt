use borrow.Author.Rules.{rules}
use native.Mathlib.Omega.{arith}
use Prim.Native.Nat.{◌-◌, ◌≤◌, ◌<◌}
use mathlib.Core.Path.{refl}
use Rattle.bits.specs.Tables.{least_below}
use Rattle.listing.proofs.Digits.{more, enough, short-next, power-next, digits_are, decimal-done}
use Rattle.listing.proofs.Digits.{power-is}
use Rattle.listing.proofs.text.decimal.Goals as goal

pub loop-k-init : goal.loop-k-init
unfolding least_below
loop-k-init c = (refl, (omega arith, refl))

test : (c : goal.In-loop-k)
    → (c.loop-k.k < 9) × (c.loop-k.power ≤ c.args.n)
test c = more _ _ _ c.loop-k-test.true

pub overflow_mul-power : goal.overflow_mul-power
overflow_mul-power c = let h = test c in search rules

pub overflow_add-k : goal.overflow_add-k
overflow_add-k c = let h = test c in omega arith

pub loop-k-smaller : goal.loop-k-smaller
loop-k-smaller c = let h = test c in omega arith

pub loop-k-preserved : goal.loop-k-preserved
loop-k-preserved c =
    let h = test c in
    let l = c.loop-k.invariant in
    (power-next _ _ l.0, (omega arith, short-next _ _ _ l.0 h.1 l.1.1))

pub numeral-requires : goal.numeral-requires
numeral-requires c = record {
  base_nonzero = omega arith;
  base_bound = omega arith;
  power_value = power-is _ _ c.loop-k.invariant.0;
  c_in_bounds = omega arith;
}

pub returns : goal.returns
returns c =
    let l = c.loop-k in
    decimal-done _ _ _ _ _ _
    (digits_are _ _ _ l.invariant.0 l.invariant.1.1 l.invariant.1.0 (enough _ _ _ c.loop-k-test.false))
    c.numeral.ensures
