-- One bit of an octet, by a shift.
use mathlib.Core.Path.{refl}
use native.Mathlib.Nat.{mod-lt, zero-lt-suc}
use Rattle.bits.specs.Bits.{bit_of}
use Prim.Native.Nat.{◌-◌}
use Rattle.field.proofs.spread.bit.Goals as goal

pub returns : goal.returns
unfolding bit_of
returns c = (refl, mod-lt _ (zero-lt-suc 1))
