-- What refusal 18 asks of a present point.
use Rattle.std.specs.Prelude.{ℕ, Bool, ◌&&◌, List, eqb, ℤ, pos, get_or}
use Rattle.rules.specs.Bounds.{source_most}
use Rattle.rules.specs.Numbers.{beyond}
use Rattle.rules.specs.Bitmap.{mark_of}

-- "a present number outside its bound"
abbrev pub far : List ℤ → List ℕ → ℕ → Bool
far numbers marks i = eqb (mark_of marks i) 1 && beyond source_most (get_or numbers i (pos 0))
