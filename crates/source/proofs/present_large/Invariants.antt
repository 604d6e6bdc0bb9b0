-- The present numbers outside their bound among the points passed, a block more in a turn (law far-chunk).
use mathlib.Core.Path.{◌≡◌}
use Prim.Native.Nat.{◌*◌, min}
use lib.ListN.{length}
use Rattle.std.specs.Iterator.Adapters.{enumerate_source, enumerate_count}
use Rattle.std.specs.Slice.Iter.{chunks_rest, chunks_size}
use Rattle.bits.specs.Tables.{any_below}
use Rattle.gathering.proofs.Chunks.{Left}
use Rattle.source.specs.Present.{far as is_far}
use Rattle.source.proofs.present_large.Given as goal

abbrev pub invariant-loop-b : goal.invariant-loop-b
invariant-loop-b l =
    let it = l.b-iterator in record {
      left : Left l.numbers (chunks_rest (enumerate_source it)) (chunks_size (enumerate_source it)) (enumerate_count it);
      room : length l.held ≡ 256;
      judged : l.far ≡ any_below (is_far l.numbers l.marks) (min (enumerate_count it * 256) (length l.numbers));
    }
