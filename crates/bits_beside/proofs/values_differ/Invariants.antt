-- No more values differ than were passed, and each is at most 24 bits after the one before.
use Rattle.std.proofs.Common.{◌≤◌, ◌+◌, ◌*◌}
use Rattle.bits_beside.proofs.values_differ.Given as goal

abbrev pub invariant-loop-v : goal.invariant-loop-v
invariant-loop-v l = (l.wrong ≤ l.v-index) × (l.place ≤ l.at + l.v-index * 24)
