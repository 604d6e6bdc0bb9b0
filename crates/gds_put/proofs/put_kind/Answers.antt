-- What the octets hold of the grid, they hold of its geometry (law kind_unheld).
use mathlib.Core.Path.{sym, ◌∙◌}
use Rattle.gds_put.proofs.Laws.{kind_unheld}
use Rattle.gds_put.proofs.put_kind.Goals as goal

pub put_latlon-requires-clause-x_value : goal.put_latlon-requires-clause-x_value
put_latlon-requires-clause-x_value c = sym (kind_unheld _ _ c.in-LatLon.is) ∙ c.requires.grid_value

pub put_thinned-requires-clause-o_value : goal.put_thinned-requires-clause-o_value
put_thinned-requires-clause-o_value c = sym (kind_unheld _ _ c.in-Thinned.is) ∙ c.requires.grid_value

pub put_mercator-requires-clause-x_value : goal.put_mercator-requires-clause-x_value
put_mercator-requires-clause-x_value c = sym (kind_unheld _ _ c.in-Mercator.is) ∙ c.requires.grid_value

pub put_lambert-requires-clause-x_value : goal.put_lambert-requires-clause-x_value
put_lambert-requires-clause-x_value c = sym (kind_unheld _ _ c.in-Lambert.is) ∙ c.requires.grid_value

pub put_gaussian-requires-clause-x_value : goal.put_gaussian-requires-clause-x_value
put_gaussian-requires-clause-x_value c = sym (kind_unheld _ _ c.in-Gaussian.is) ∙ c.requires.grid_value

pub put_polar-requires-clause-x_value : goal.put_polar-requires-clause-x_value
put_polar-requires-clause-x_value c = sym (kind_unheld _ _ c.in-Polar.is) ∙ c.requires.grid_value
