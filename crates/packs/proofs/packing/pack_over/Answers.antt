use Rattle.packs.proofs.Over.{over_none}
use Rattle.packs.proofs.packing.pack_over.Goals as goal

pub loop-g-init : goal.loop-g-init
loop-g-init c = let a = c.args in over_none a.vs.now a.n a.out.now
