-- A block of points at a time, as the writer puts them, with X made first.
use Prim.Native.Nat.{◌*◌, ◌<◌, min}
use lib.ListN.{length}
use Rattle.std.specs.Iterator.Adapters.{enumerate_source, enumerate_count}
use Rattle.std.specs.Slice.Iter.{chunks_rest, chunks_size}
use Rattle.rules.specs.Bitmap.{mark_of, value_of}
use Rattle.rules.specs.Points.{gathered}
use Rattle.blocks.proofs.Chunks.{Left}
use Rattle.blocks.specs.Passed.{Passed}
use Rattle.packer.specs.Scaled.{scaled_from}
use Rattle.packer.proofs.putting.put_points.Given as goal

abbrev pub invariant-loop-b : goal.invariant-loop-b
invariant-loop-b l =
    let it = l.b-iterator in record {
      left : Left l.numbers (chunks_rest (enumerate_source it)) (chunks_size (enumerate_source it)) (enumerate_count it);
      few : l.progress.held < 256;
      passed : Passed l.bits
          (gathered (mark_of l.marks) (value_of (scaled_from l.numbers l.marks l.r l.e)) (min (enumerate_count it * 256) (length l.numbers)))
          l.initial.out l.progress l.held l.out;
    }
