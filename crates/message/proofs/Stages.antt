-- The message's own rows, and then others; by the law of a table read in stages.
use mathlib.Core.Path.{◌≡◌, ◌∙◌}
use mathlib.Core.Bool.{Bool, cond}
use mathlib.Core.List.{List, [], ◌∷◌, ◌++◌}
use Prim.Native.Nat.{ℕ}
use Rattle.rules.specs.Table.{Row, row, refusal, first_or, first, accepted}
use Rattle.rules.specs.Bitmap.{Lent}
use Rattle.rules.specs.Reading.{message_table, own_refusal}
use Rattle.laws.proofs.Judged.{own-numbered}
use Rattle.reply.proofs.Stages.{or_append, staged}

pub own_first : (s : List ℕ) (lent : Lent) (rows : List Row)
    → first (message_table s lent ++ rows)
    ≡ cond (accepted (own_refusal s lent)) (first_or rows (refusal 0)) (own_refusal s lent)
unfolding own_refusal first
own_first s lent rows =
    or_append (message_table s lent) rows (refusal 0)
    ∙ staged (message_table s lent) (first_or rows (refusal 0)) (own-numbered s lent)

-- one row more
pub one_more : (s : List ℕ) (lent : Lent) (n : ℕ) (test : Bool)
    → first (message_table s lent ++ (row n test ∷ []))
    ≡ cond (accepted (own_refusal s lent)) (cond test (refusal n) (refusal 0)) (own_refusal s lent)
unfolding first_or
one_more s lent n test = own_first s lent (row n test ∷ [])
