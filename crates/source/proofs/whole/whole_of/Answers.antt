-- The whole number that R is, from its parts and its sign.
use Rattle.source.proofs.Reference.{number-none, number-plus, number-minus}
use mathlib.Core.Path.{◌∙◌, sym}
use Rattle.source.proofs.whole.whole_of.Goals as goal

pub returns-then-whole_bad : goal.returns-then-whole_bad
returns-then-whole_bad c = number-none _ (sym c.whole_bad.ensures ∙ c.if-whole_bad.true)

pub returns-then-word-lt2147483648 : goal.returns-then-word-lt2147483648
returns-then-word-lt2147483648 c =
    number-plus _ _ c.parts.ensures
    (sym c.whole_bad.ensures ∙ c.if-whole_bad.false) c.if-word-lt2147483648.true

pub returns : goal.returns
returns c =
    number-minus _ _ c.parts.ensures
    (sym c.whole_bad.ensures ∙ c.if-whole_bad.false) c.if-word-lt2147483648.false
