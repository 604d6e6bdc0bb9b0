-- 9 of a grid that is given: the enum's two cases.
use Rattle.framing.proofs.given_bad.Goals as goal

pub returns-in-None : goal.returns-in-None
returns-in-None c = rw c.in-None.is

pub returns-in-Some : goal.returns-in-Some
returns-in-Some c = rw c.in-Some.is c.grid_bad.ensures
