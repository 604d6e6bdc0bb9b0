-- The records that come in from C. Every number in them means something: a kind that has no name stands for a part that
-- document 01 refuses, in the place of its order where that part is judged.
use Rattle.std.specs.Prelude.{ℕ, ◌<◌, ◌≡◌, true, cond, List, eqb, ℤ, None, Option, Some}
use Rattle.rules.specs.declared.{Figures.Figures, Grid.Grid}
use Rattle.rules.specs.declared.{Bitmap.Bitmap, Bitmap.TheVariants.Without, Bitmap.TheVariants.Carried}
use Rattle.rules.specs.declared.{Bitmap.TheVariants.Stored, Form.Form, Scale.Scale}
use Rattle.rules.specs.Numbers.{plain}
use Rattle.rules.specs.Table.{any_of}
use Rattle.rules.specs.Figures.{figures, the_geometry_of}
use Rattle.rules.specs.Grid.{grid_with, the_no_grid, grid_or_zeros, grid_faults}
use Rattle.rules.specs.Bitmap.{Lent}
use Rattle.rules.specs.Writing.{stored_faults}
use Rattle.records.specs.declared.{GridRecord.GridRecord}
use Rattle.records.specs.declared.forms.{FormRecord.FormRecord}
use Rattle.records.specs.Records.{the_bitmap_kind, the_bitmap_number, the_grid_record}

abbrev pub the_figures_back : GridRecord → Figures
the_figures_back g =
    figures g.kind g.rows (plain g.la2) (plain g.lo2) g.di g.dj g.dx g.dy (plain g.lov)
    (plain g.latin1) (plain g.latin2) (plain g.pole_la) (plain g.pole_lo) g.centre g.circles

abbrev pub the_grid_back : GridRecord → Grid
the_grid_back g =
    grid_with g.ni g.nj (plain g.la1) (plain g.lo1) g.resolution g.scan (the_geometry_of (the_figures_back g))

-- 0 no grid, 1 the one in the record, any other number a grid of zeros, which 9 refuses
unfoldable pub the_grid_by : ℕ → GridRecord → Option Grid
the_grid_by kind g = cond (eqb kind 0) None (cond (eqb kind 1) (Some (the_grid_back g)) (Some the_no_grid))

-- 0 none, 1 carried, 2 the stored one of a number, any other number the stored one of number 0, which 10 refuses
unfoldable pub the_bitmap_by : ℕ → ℕ → Bitmap
the_bitmap_by kind number =
    cond (eqb kind 0) Without (cond (eqb kind 1) Carried (cond (eqb kind 2) (Stored number) (Stored 0)))

abbrev pub the_form_by : FormRecord → Form
the_form_by f = record { grid = the_grid_by f.given f.grid; bitmap = the_bitmap_by f.bitmap f.bitmap_number; packing = record { flags = f.packing_flags; bits = f.bits } }

-- E and R
abbrev pub the_scale_by : ℤ → ℕ → Scale
the_scale_by e r = record { e = plain e; r = r }

-- a kind that has no name is refused by the writer's and the packer's own row
abbrev pub UnknownGrid : Type 0
UnknownGrid = (kind : ℕ) (g : GridRecord) → 1 < kind → any_of (grid_faults (grid_or_zeros (the_grid_by kind g))) ≡ true

abbrev pub UnknownBitmap : Type 0
UnknownBitmap =
    (kind number : ℕ) (lent : Lent) (values marks : List ℕ) (n : ℕ) → 2 < kind
    → any_of (stored_faults (the_bitmap_by kind number) lent values marks n) ≡ true

-- what goes out comes back: a header's grid and bitmap may be put into a form
abbrev pub GridReturns : Type 0
GridReturns = (g : Grid) → the_grid_by 1 (the_grid_record g) ≡ Some g

abbrev pub BitmapReturns : Type 0
BitmapReturns = (b : Bitmap) → the_bitmap_by (the_bitmap_kind b) (the_bitmap_number b) ≡ b
