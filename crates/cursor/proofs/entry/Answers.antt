-- Past the end there is no entry.
use mathlib.Core.Path.{sym}
use native.Mathlib.Omega.{arith}
use lib.ListN.{get_or-eq_default}
use Rattle.cursor.proofs.entry.Goals as goal

pub returns : goal.returns
returns c = let a = c.args in sym (get_or-eq_default a.index.now 0 (omega arith))
