-- Row by row: the counts put so far are the fields of the first i rows (law put).
use Rattle.puts.proofs.Laying.{Laid}
use Rattle.gds_put.specs.Section.{count_fields}
use Prim.Native.Nat.{◌+◌}
use Rattle.gds_put.proofs.put_counts.Given as goal

abbrev pub invariant-loop-i : goal.invariant-loop-i
invariant-loop-i l = Laid l.initial.out (l.g + 32) 146 (count_fields l.start l.i) l.out
