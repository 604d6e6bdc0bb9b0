-- A BMS's length: the enum's three cases.
use Rattle.framing.specs.Layout.{the_bms_room}
use Rattle.framing.proofs.rooms.bms_room.Goals as goal

pub returns-in-Without : goal.returns-in-Without
unfolding the_bms_room
returns-in-Without c = rw c.in-Without.is

pub returns-in-Carried : goal.returns-in-Carried
unfolding the_bms_room
returns-in-Carried c = rw c.in-Carried.is c.carried_room.ensures

pub returns-in-Stored : goal.returns-in-Stored
unfolding the_bms_room
returns-in-Stored c = rw c.in-Stored.is
