-- Bit 1 of PDS octet 8, call by call.
use Rattle.rules.specs.Places.{the_has_grid}
use Rattle.laws.proofs.Flags.{read_1}
use native.Mathlib.Omega.{arith}
use Rattle.writable.proofs.has_grid.Goals as goal

pub returns : goal.returns
unfolding the_has_grid
returns c = read_1 _ _ c.octet.ensures (omega arith)
