-- What is gathered is a block that fits (law fits_said).
use lib.ListN.{length}
use mathlib.Core.Path.{sym, ◌∙◌}
use Rattle.gathering.proofs.Here.{fits_said}
use Rattle.gathering.proofs.gather.Goals as goal

pub gather_fitting-requires : goal.gather_fitting-requires
gather_fitting-requires g c =
    let a = c.args in
    fits_said (length a.values.now) (length a.held.now) a.at (length a.marks.now)
    (sym c.fits.ensures ∙ c.if-fits.true)
