-- Of the cells of a grid section's table: what their types hold by themselves, and that their octets hold them.
use Rattle.std.specs.Prelude.{ℕ, ◌*◌, ◌^◌, ◌<◌, List, [], ◌∷◌}
use Rattle.rules.specs.Columns.{Sort, carried, needed, distance, side, latitude, longitude, reserved, Column, Cell, Cells}
use Rattle.laws.specs.Signs.{SignFree}

-- a number of one or two octets has a type of as many; signed fields and distances have wider ones
abbrev pub CellTyped : (t : Sort) → ℕ → Cell t → Type 0
CellTyped carried c x = x < 2 ^ (c * 8)
CellTyped needed c x = x < 2 ^ (c * 8)
CellTyped distance c x = Unit {0}
CellTyped side c x = x < 2 ^ (c * 8)
CellTyped latitude c z = Unit {0}
CellTyped longitude c z = Unit {0}
CellTyped reserved c x = Unit {0}

abbrev pub CellsTyped : (cs : List Column) → Cells cs → Type 0
CellsTyped [] x = Unit {0}
CellsTyped (c ∷ cs) x = CellTyped c.sort c.width x.0 × CellsTyped cs x.1

-- a cell fits its octets
abbrev pub CellFits : (t : Sort) → ℕ → Cell t → Type 0
CellFits carried c x = x < 2 ^ (c * 8)
CellFits needed c x = x < 2 ^ (c * 8)
CellFits distance c x = x < 2 ^ (c * 8)
CellFits side c x = x < 2 ^ (c * 8)
CellFits latitude c z = SignFree c z
CellFits longitude c z = SignFree c z
CellFits reserved c x = Unit {0}

abbrev pub CellsFit : (cs : List Column) → Cells cs → Type 0
CellsFit [] x = Unit {0}
CellsFit (c ∷ cs) x = CellFits c.sort c.width x.0 × CellsFit cs x.1
