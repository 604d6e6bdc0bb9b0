-- How many parts R is: its four cases, each a law of Reference.
use Rattle.source.proofs.Reference.{naught, small, great, middle}
use Rattle.source.proofs.whole.parts.Goals as goal

pub returns-then-b-eq0 : goal.returns-then-b-eq0
returns-then-b-eq0 c = naught _ c.if-b-eq0.true

pub returns-then-a-lt65 : goal.returns-then-a-lt65
returns-then-a-lt65 c = small _ c.if-b-eq0.false c.if-a-lt65.true

pub returns-then-a-gt75 : goal.returns-then-a-gt75
returns-then-a-gt75 c = great _ c.if-b-eq0.false c.if-a-gt75.true

pub returns : goal.returns
returns c = middle _ c.if-a-lt65.false c.if-a-gt75.false
