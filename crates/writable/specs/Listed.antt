-- What 13 leaves of the lists.
use Rattle.std.specs.Prelude.{ℕ, ◌^◌, ◌≤◌, ◌<◌, ◌≡◌, List, length}
use Rattle.rules.specs.Bounds.{points_most}
use Rattle.rules.specs.Bitmap.{mark_of, marks_long, value_of}

pub record Listed (values marks : List ℕ) (bits : ℕ) : Type 0 where
  pub same : length marks ≡ marks_long (length values)
  pub few : length values ≤ points_most
  pub mark : (i : ℕ) → mark_of marks i < 2
  pub away : (i : ℕ) → mark_of marks i ≡ 0 → value_of values i ≡ 0
  pub value : (i : ℕ) → value_of values i < 2 ^ bits
