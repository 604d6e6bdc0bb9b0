-- A length is below 2^24, as any number of 24 bits.
use Rattle.std.proofs.Common.{◌<◌, ℕ, sym, subst}
use Rattle.bits.proofs.Runs.{bits_in-bits, run-lt}
use Rattle.vector_io.proofs.file.next_size.Goals as goal

pub returns : goal.returns
returns g c = subst (λ (y : ℕ). y < 16777216) (sym c.size.ensures) (run-lt (bits_in-bits 8 c.load.new.room) 0 24)
