-- The two tests, one after the other, are the definition's.
use Rattle.packs.proofs.Lists.{pack-judged, pack-refused}
use Rattle.packs.proofs.packing.packable.Goals as goal

pub returns-then-n-vs : goal.returns-then-n-vs
returns-then-n-vs c =
    let a = c.args in
    pack-judged a.n a.vs.now a.room c.if-n-vs.true c.all_below.result c.all_below.ensures

pub returns : goal.returns
returns c = let a = c.args in pack-refused a.n a.vs.now a.room c.if-n-vs.false
