-- No more runs differ than were passed.
use Rattle.std.proofs.Common.{◌≤◌}
use Rattle.bits_beside.proofs.fetch_differs.Given as goal

abbrev pub invariant-loop-k : goal.invariant-loop-k
invariant-loop-k l = l.wrong ≤ l.k
