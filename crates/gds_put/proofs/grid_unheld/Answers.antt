-- The geometry's cases (law kind_unheld).
use mathlib.Core.Path.{sym, ◌∙◌}
use Rattle.rules.specs.Grid.{cells_by}
use Rattle.gds_put.specs.Section.{cells_unheld}
use Rattle.gds_put.proofs.Laws.{kind_unheld}
use Rattle.gds_put.proofs.grid_unheld.Goals as goal

pub returns-in-LatLon : goal.returns-in-LatLon
unfolding cells_unheld cells_by
returns-in-LatLon c = c.corners_unheld.ensures ∙ sym (kind_unheld _ _ c.in-LatLon.is)

pub returns-in-Thinned : goal.returns-in-Thinned
unfolding cells_unheld cells_by
returns-in-Thinned c = c.corners_unheld-in-Thinned.ensures ∙ sym (kind_unheld _ _ c.in-Thinned.is)

pub returns-in-Mercator : goal.returns-in-Mercator
returns-in-Mercator c = c.mercator_unheld.ensures ∙ sym (kind_unheld _ _ c.in-Mercator.is)

pub returns-in-Lambert : goal.returns-in-Lambert
returns-in-Lambert c = c.lambert_unheld.ensures ∙ sym (kind_unheld _ _ c.in-Lambert.is)

pub returns-in-Gaussian : goal.returns-in-Gaussian
unfolding cells_unheld cells_by
returns-in-Gaussian c = c.corners_unheld-in-Gaussian.ensures ∙ sym (kind_unheld _ _ c.in-Gaussian.is)

pub returns-in-Polar : goal.returns-in-Polar
unfolding cells_unheld cells_by
returns-in-Polar c = c.plane_unheld.ensures ∙ sym (kind_unheld _ _ c.in-Polar.is)
