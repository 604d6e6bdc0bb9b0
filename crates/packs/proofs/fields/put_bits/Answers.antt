-- The three tests are the definition's, and what `placed` needs.
use mathlib.Core.Path.{◌∙◌}
use Rattle.packs.proofs.Bits.{bits-answer, bits_left, no-bits-answer}
use Rattle.packs.proofs.Bits.{no-bits-left}
use Rattle.packs.proofs.fields.put_bits.Goals as goal

pub returns-then-n-below : goal.returns-then-n-below
returns-then-n-below c =
    let a = c.args in
    let o = a.out.now in record {
      value = bits-answer o a.from a.n a.v _ c.below.ensures c.if-n-below.true;
      out_after = c.placed.ensures
          ∙ bits_left o a.from a.n a.v _ c.below.ensures c.if-n-below.true;
    }

pub returns : goal.returns
returns c =
    let a = c.args in
    let o = a.out.now in record {
      value = no-bits-answer o a.from a.n a.v _ c.below.ensures c.if-n-below.false;
      out_after = no-bits-left o a.from a.n
          a.v _ c.below.ensures c.if-n-below.false;
    }
