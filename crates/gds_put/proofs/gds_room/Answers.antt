-- No grid, and a grid of a kind.
use Rattle.gds_put.proofs.Laws.{room-given}
use Rattle.gds_put.proofs.gds_room.Goals as goal

pub returns-in-Some : goal.returns-in-Some
returns-in-Some c = room-given _ _ c.in-Some.is _ c.kind_room.ensures
