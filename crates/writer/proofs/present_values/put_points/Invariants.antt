-- A block of points at a time: of the values so far, whole blocks are packed and the rest are held.
use Prim.Native.Nat.{◌*◌, ◌<◌, min}
use lib.ListN.{length}
use Rattle.std.specs.Iterator.Adapters.{enumerate_source, enumerate_count}
use Rattle.std.specs.Slice.Iter.{chunks_rest, chunks_size}
use Rattle.rules.specs.Bitmap.{mark_of, value_of}
use Rattle.rules.specs.Points.{gathered}
use Rattle.blocks.proofs.Chunks.{Left}
use Rattle.blocks.specs.Passed.{Passed}
use Rattle.writer.proofs.present_values.put_points.Given as goal

abbrev pub invariant-loop-b : goal.invariant-loop-b
invariant-loop-b l =
    let it = l.b-iterator in record {
      left : Left l.values (chunks_rest (enumerate_source it)) (chunks_size (enumerate_source it)) (enumerate_count it);
      few : l.progress.held < 256;
      passed : Passed l.bits (gathered (mark_of l.marks) (value_of l.values) (min (enumerate_count it * 256) (length l.values)))
          l.initial.out l.progress l.held l.out;
    }
