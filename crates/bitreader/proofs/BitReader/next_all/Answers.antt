-- Many numbers and the place after them, where they fit and where they do not.
use Rattle.bitreader.proofs.Many.{all-taken, none-taken}
use Rattle.bitreader.proofs.BitReader.next_all.Goals as goal

pub returns-then-unpack : goal.returns-then-unpack
returns-then-unpack c =
    let a = c.args in record {
      value = all-taken a.self.at a.n a.m _ _ c.unpack.ensures.value c.if-unpack.true _ c.reached.ensures;
      out_after = c.unpack.ensures.out_after;
    }

pub returns : goal.returns
returns c =
    let a = c.args in record {
      value = none-taken a.self.at a.n a.m _ _ c.unpack.ensures.value c.if-unpack.false;
      out_after = c.unpack.ensures.out_after;
    }
