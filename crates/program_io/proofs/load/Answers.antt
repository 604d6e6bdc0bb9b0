-- What is read lies between the two places.
use Rattle.std.proofs.Common.{rules}
use Rattle.std.proofs.lemmas.Slice.{overwrites}
use Rattle.program_io.proofs.load.Goals as goal

pub returns-then-end-room-clause-after : goal.returns-then-end-room-clause-after
returns-then-end-room-clause-after g c = search (rules, overwrites)
