-- `told` gives no two answers the same meaning: the answer can be had back from what it means.
use mathlib.Core.Path.{◌≡◌, refl, sym, ap, ◌∙◌}
use Rattle.rules.specs.Points.{Numbering, numbered, absent, outside}
use Rattle.data_numbers.specs.declared.{Numbered.Numbered, Numbered.TheVariants.Present}
use Rattle.data_numbers.specs.declared.{Numbered.TheVariants.Absent, Numbered.TheVariants.Outside}
use Rattle.data_numbers.specs.Told.{told}

-- the answer that a meaning is of
abbrev answer : Numbering → Numbered
answer (numbered n) = Present (record { 0 = n })
answer absent = Absent
answer outside = Outside

back : (x : Numbered) → answer (told x) ≡ x
back (Present d) = refl
back Absent = refl
back Outside = refl

pub told-one : (x y : Numbered) → told x ≡ told y → x ≡ y
told-one x y e = sym (back x) ∙ ap answer e ∙ back y
