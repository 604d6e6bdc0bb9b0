-- No more widths and offsets agree than were passed.
use Rattle.std.proofs.Common.{◌≤◌, ◌+◌, ◌*◌}
use Rattle.bits_beside.proofs.main.Given as goal

abbrev pub invariant-loop-o : goal.invariant-loop-o
invariant-loop-o l = l.agree ≤ l.initial.agree + l.o

abbrev pub invariant-loop-n : goal.invariant-loop-n
invariant-loop-n l = l.agree ≤ l.n * 8
