-- The parts of a form.
use Rattle.records.proofs.forms.form_by.Goals as goal

pub returns : goal.returns
returns c = rw (c.bitmap_by.ensures, c.grid_by.ensures)
