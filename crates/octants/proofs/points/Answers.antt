-- The enum's three cases, computed.
use Rattle.rules.specs.Counts.{total, counts_of, the_from_equator}
use Rattle.octants.proofs.points.Goals as goal

pub returns-in-Equator : goal.returns-in-Equator
unfolding total counts_of the_from_equator
returns-in-Equator c = rw c.in-Equator.is

pub returns-in-Pole : goal.returns-in-Pole
unfolding total counts_of the_from_equator
returns-in-Pole c = rw c.in-Pole.is

pub returns-in-Neither : goal.returns-in-Neither
unfolding total counts_of the_from_equator
returns-in-Neither c = rw c.in-Neither.is
