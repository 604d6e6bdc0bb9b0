-- The kind of bitmap: three returns, each by its tests.
use Rattle.rules.specs.Bitmap.{the_bitmap_at}
use mathlib.Core.Path.{sym}
use borrow.Author.Tests.{eq-eqb, ne_eqb}
use Rattle.bitmap.proofs.bitmap_at.Goals as goal

pub returns-then-number-eq0 : goal.returns-then-number-eq0
unfolding the_bitmap_at
returns-then-number-eq0 c = simp (c.if-there.true, sym c.two-number.ensures, eq-eqb _ _ c.if-number-eq0.true)

pub returns-then-there : goal.returns-then-there
unfolding the_bitmap_at
returns-then-there c = simp (c.if-there.true, sym c.two-number.ensures, ne_eqb _ _ c.if-number-eq0.false)

pub returns : goal.returns
unfolding the_bitmap_at
returns c = simp c.if-there.false
