-- The points out among those passed, a block more in a turn (law far-chunk), with the place reached after as many X as
-- points are present (law place-chunk).
use mathlib.Core.Path.{◌≡◌}
use Prim.Native.Nat.{◌+◌, ◌*◌, min}
use lib.ListN.{length}
use Rattle.std.specs.Iterator.Adapters.{enumerate_source, enumerate_count}
use Rattle.std.specs.Slice.Iter.{chunks_rest, chunks_size}
use Rattle.bits.specs.Bits.{count}
use Rattle.bits.specs.Tables.{any_below}
use Rattle.laws.specs.Marks.{here}
use Rattle.gathering.proofs.Chunks.{Left}
use Rattle.checker.specs.Points.{out as is_out}
use Rattle.checker.proofs.points.any_far.Given as goal

abbrev pub invariant-loop-b : goal.invariant-loop-b
invariant-loop-b l =
    let it = l.b-iterator in record {
      left : Left l.numbers (chunks_rest (enumerate_source it)) (chunks_size (enumerate_source it)) (enumerate_count it);
      place : l.at ≡ l.from + count (here l.marks) 0 (min (enumerate_count it * 256) (length l.numbers)) * l.n;
      judged : l.out ≡ any_below (is_out l.s l.numbers l.marks l.from l.n l.r l.e) (min (enumerate_count it * 256) (length l.numbers));
    }
