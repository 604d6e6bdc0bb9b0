use Rattle.layout.proofs.Walked.{near}
use Rattle.layout.proofs.layout.Goals as goal

-- The sections lie where their places can be told (law near).
pub walk-requires : goal.walk-requires
walk-requires c = near _ _ c.places.ensures
