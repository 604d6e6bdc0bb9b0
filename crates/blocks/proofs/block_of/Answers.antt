-- Fewer than 256 points left, or more.
use mathlib.Core.Logic.{⊎_elim}
use mathlib.Core.Path.{◌∙◌}
use native.Mathlib.Omega.{arith}
use Rattle.bits.proofs.Runs.{lt_or_ge}
use Rattle.blocks.proofs.Fitting.{of-few, of-many}
use Rattle.blocks.proofs.block_of.Goals as goal

pub returns : goal.returns
returns c =
    let left = c.args.left in
    ⊎_elim (λ h. omega arith ∙ of-few left h) (λ h. omega arith ∙ of-many left h) (lt_or_ge left 256)
