-- What the answers about a grid point stand for in document 01, and presence where there is no bitmap.
use Rattle.std.specs.Prelude.{ℕ}
use Rattle.rules.specs.Points.{Numbering, numbered, absent, outside}
use Rattle.data_numbers.specs.declared.{Numbered.Numbered, Numbered.TheVariants.Present}
use Rattle.data_numbers.specs.declared.{Numbered.TheVariants.Absent, Numbered.TheVariants.Outside}

abbrev pub told : Numbered → Numbering
told (Present d) = numbered d.0
told Absent = absent
told Outside = outside

-- every point is present
abbrev pub always : ℕ → ℕ
always i = 1
