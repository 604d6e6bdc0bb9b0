-- A section's start and length in both cases of its presence, and how large the length can be.
use Rattle.octets.proofs.Numbers.{three-lt}
use mathlib.Core.Path.{refl}
use Rattle.rules.specs.Places.{the_section_at}
use borrow.Author.Rules.{rules}
use Rattle.layout.proofs.section_at.Goals as goal

pub returns-then-there : goal.returns-then-there
unfolding the_section_at
returns-then-there c = record { is = simp (c.if-there.true, c.three.ensures); begins = refl; small = three-lt _ _ _ c.three.ensures }

pub returns : goal.returns
unfolding the_section_at
returns c = record { is = simp c.if-there.false; begins = refl; small = search rules }
