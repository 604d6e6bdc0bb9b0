-- Refusal 11: the flags as numbers (law packing-read).
use Rattle.laws.proofs.Flags.{packing-read}
use Rattle.data_section.proofs.packing_bad.Goals as goal

pub returns : goal.returns
returns c = packing-read _
