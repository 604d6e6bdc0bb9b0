-- By the room for marks: the laws off-odd and off_gap.
use mathlib.Core.Path.{ap, ◌∙◌}
use mathlib.Core.Bool.{not}
use Rattle.writable.proofs.Marked.{off-odd, off_gap}
use Rattle.writable.proofs.unlisted.marks_off.Goals as goal

pub returns-then-bitmap : goal.returns-then-bitmap
returns-then-bitmap c = rw c.if-bitmap.true (c.odd.ensures ∙ off-odd _ _)

pub returns : goal.returns
returns c = rw c.if-bitmap.false (ap not c.all_present.ensures ∙ off_gap _ _)
