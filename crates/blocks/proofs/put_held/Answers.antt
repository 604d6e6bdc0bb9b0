-- A part of what is held packed into a part of the octets (laws part-fits, part-packed).
use Rattle.blocks.proofs.Parts.{part-fits, part-packed}
use Rattle.blocks.proofs.put_held.Goals as goal

pub returns : goal.returns
returns c =
    let a = c.args in
    let k = c.pack in record {
      value = part-fits a.bits a.c a.held.now a.place a.out.now _ k.ensures.value;
      out_after = part-packed a.bits a.c
          a.held.now a.place a.out.now _ k.ensures.out_after;
    }
