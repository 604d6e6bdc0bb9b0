-- The four octets behind above the four in front: no count asks for their order.
use mathlib.Core.Path.{◌∙◌}
use lib.Count.{ones_cat}
use native.Mathlib.Omega.{arith}
use Rattle.runs.proofs.Tallies.{then}
use Rattle.runs.proofs.words.reversed8.Goals as goal

pub returns : goal.returns
returns c =
    let a = c.args in
    let back = c.reversed in
    let front = c.reversed-2 in
    ones_cat 32 back.result front.result front.ensures.1
    ∙ omega (arith, then a.s.now a.k 4 32 _ _ front.ensures.0 back.ensures.0)
