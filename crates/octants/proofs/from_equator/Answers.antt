-- The table in the code is document 003's: they compute to the same list.
use Rattle.rules.specs.Counts.{the_from_equator}
use mathlib.Core.Path.{refl}
use Rattle.octants.proofs.from_equator.Goals as goal

pub returns : goal.returns
unfolding the_from_equator
returns c = refl
