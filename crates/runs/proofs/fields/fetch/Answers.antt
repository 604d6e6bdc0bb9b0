-- By the width: a run of bits, or 0.
use native.Mathlib.Omega.{arith}
use Rattle.runs.proofs.Bits.{fetched-some, fetched-none}
use Rattle.runs.proofs.fields.fetch.Goals as goal

pub returns-then-n-le32 : goal.returns-then-n-le32
returns-then-n-le32 c = let a = c.args in fetched-some a.s.now a.from a.n _ (omega arith) c.taken.ensures

pub returns : goal.returns
returns c = let a = c.args in fetched-none a.s.now a.from a.n (omega arith)
