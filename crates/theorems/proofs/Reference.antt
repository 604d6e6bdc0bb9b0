-- The packer's R is the least present number, and 0 where no point is present.
use Rattle.theorems.specs.Checks.{LeastReference}
use Rattle.laws.proofs.Lowest.{over, one-is, reference-none}

pub least-reference : LeastReference
least-reference f ok = record { over = over f; one = one-is f ok; none = reference-none f }
