-- A rectangle that has a point has sides.
use Rattle.chart.proofs.Laws.{sides}
use Rattle.chart.proofs.spot_on.Goals as goal

pub spot-requires : goal.spot-requires
spot-requires c =
    let t = sides _ _ c.in-Even.is _ c.requires in
    record { ni_nonzero = t.0; nj_nonzero = t.1 }
