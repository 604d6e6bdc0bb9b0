-- The two tests are the definition's, and what `unpack_all` needs.
use mathlib.Core.Path.{◌∙◌}
use Rattle.runs.proofs.Lists.{unpack-answer, unpack-left}
use Rattle.runs.proofs.Lists.{no-unpack-answer, no-unpack-left}
use Rattle.runs.proofs.unpacking.unpack.Goals as goal

pub returns-then-n-m : goal.returns-then-n-m
returns-then-n-m c =
    let a = c.args in record {
      value = unpack-answer a.s.now a.out.now a.at a.n a.m c.if-n-m.true;
      out_after = c.unpack_all.ensures
          ∙ unpack-left a.s.now a.out.now a.at a.n a.m c.if-n-m.true;
    }

pub returns : goal.returns
returns c =
    let a = c.args in record {
      value = no-unpack-answer a.s.now a.out.now a.at a.n a.m c.if-n-m.false;
      out_after = no-unpack-left a.s.now
          a.out.now a.at a.n a.m c.if-n-m.false;
    }
