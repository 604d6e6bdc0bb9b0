-- One walk: what it keeps is that of the points passed, a block more in a turn (law fold_block), and the rest of the
-- longer list adds nothing.
use mathlib.Core.Path.{◌≡◌}
use Prim.Native.Nat.{◌*◌, min}
use lib.ListN.{length, take}
use Rattle.std.specs.Iterator.Adapters.{enumerate_source, enumerate_count}
use Rattle.std.specs.Slice.Iter.{chunks_rest, chunks_size}
use Rattle.gathering.proofs.Chunks.{Left}
use Rattle.scaling.specs.Spread.{lowest_in, Highest}
use Rattle.scaling.proofs.walk.Given as goal

abbrev pub invariant-loop-b : goal.invariant-loop-b
invariant-loop-b l =
    let it = l.b-iterator in record {
      left : Left (take l.n l.numbers) (chunks_rest (enumerate_source it)) (chunks_size (enumerate_source it)) (enumerate_count it);
      room : length l.held ≡ 256;
      low : l.low ≡ lowest_in l.numbers l.marks (min (enumerate_count it * 256) (length (take l.n l.numbers)));
      high : Highest l.numbers l.marks (min (enumerate_count it * 256) (length (take l.n l.numbers))) l.high;
    }
