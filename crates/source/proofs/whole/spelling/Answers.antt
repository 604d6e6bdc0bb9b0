-- R's octets for a whole number, by its sign: each need is a law of Digits.
use Rattle.source.proofs.Digits.{out, minus_is, plus-is, neither-is}
use mathlib.Core.Path.{sym, ◌∙◌}
use Rattle.source.proofs.whole.spelling.Goals as goal

pub returns-then-large : goal.returns-then-large
returns-then-large c = out _ c.ranges.z (sym c.large.ensures ∙ c.if-large.true)

pub returns-then-z-lt0 : goal.returns-then-z-lt0
returns-then-z-lt0 c =
    minus_is _ c.ranges.z
    (sym c.large.ensures ∙ c.if-large.false) c.if-z-lt0.true
    _ c.spelt.ensures.0

pub returns-then-z-gt0 : goal.returns-then-z-gt0
returns-then-z-gt0 c =
    plus-is _ c.ranges.z
    (sym c.large.ensures ∙ c.if-large.false)
    c.if-z-gt0.true
    _ c.spelt-then-z-gt0.ensures.0

pub returns : goal.returns
returns c =
    neither-is _ c.ranges.z
    (sym c.large.ensures ∙ c.if-large.false) c.if-z-lt0.false
    c.if-z-gt0.false
