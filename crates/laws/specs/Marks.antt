-- What a mark says of its point.
use Rattle.std.specs.Prelude.{ℕ, cond, List, eqb}
use Rattle.rules.specs.Bitmap.{mark_of}

-- 1 where a point is present, and 0 elsewhere: the mark itself, once those that are not 0 or 1 are refused
unfoldable pub here : List ℕ → ℕ → ℕ
here marks i = cond (eqb (mark_of marks i) 1) 1 0
