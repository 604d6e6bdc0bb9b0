-- The values at present points: the whole list packed where all are (law pack-whole), else a block of points at a time.
use native.Mathlib.Omega.{arith}
use Rattle.framing.proofs.Ending.{pack-whole}
use Rattle.writer.proofs.present_values.put_values.Goals as goal

pub returns-then-m-values : goal.returns-then-m-values
returns-then-m-values c =
    let a = c.args in
    pack-whole a.values.now a.marks.now a.bits a.m a.out.now _ (omega arith) c.requires.listed
    c.requires.m_value (omega arith) c.requires.bits_in_bounds c.pack.ensures.out_after
