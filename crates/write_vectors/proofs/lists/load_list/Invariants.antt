-- The place reached is within the room.
use Rattle.std.proofs.Common.{◌≤◌, length}
use Rattle.write_vectors.proofs.lists.load_list.Given as goal

abbrev pub invariant-loop-run : goal.invariant-loop-run
invariant-loop-run g l = l.at ≤ length l.room
