-- The records that the C face hands out: each field as a number of the answer in `rules`. The answer to a refusal has
-- zero in every field but its reply, and of 20 to 23 the section and the place, and so has its record.
use Rattle.std.specs.Prelude.{ℕ, Bool, false, cond, Err, None, Ok, Option, Result, Some}
use Rattle.rules.specs.declared.{Refusal.Refusal, Part.Part, Grid.Grid, Bitmap.Bitmap, Spot.Spot, GridPoint.GridPoint}
use Rattle.rules.specs.declared.{Bitmap.TheVariants.Without, Bitmap.TheVariants.Carried, Bitmap.TheVariants.Stored}
use Rattle.rules.specs.Answers.{Display, Header, Indexed, Written}
use Rattle.std.specs.Float.{binary64}
use Rattle.std.specs.Float.Ieee.{of_bits}
use Rattle.rules.specs.declared.{Header.Header as Said, Display.Display as Shown}
use Rattle.rules.specs.Table.{refusal}
use Rattle.rules.specs.Reading.{refused_by}
use Rattle.rules.specs.Figures.{the_figures_of}
use Rattle.records.specs.declared.{PartRecord.PartRecord, GridRecord.GridRecord, HeaderRecord.HeaderRecord}
use Rattle.records.specs.declared.{PlaceRecord.PlaceRecord, PointRecord.PointRecord, DisplayRecord.DisplayRecord}
use Rattle.records.specs.declared.{WrittenRecord.WrittenRecord, CheckRecord.CheckRecord}
use Rattle.records.specs.declared.{IndexedRecord.IndexedRecord, CursorRecord.CursorRecord}

-- an answer of the code, as the rules say it: the reply beside what was found, and zeros beside one that refuses
abbrev pub with_reply : Refusal → Said → Header
with_reply r h = record {
  refusal = r;
  places = h.places;
  time = h.time;
  d = h.d;
  grid = h.grid;
  points = h.points;
  bitmap = h.bitmap;
  present = h.present;
  packing = h.packing;
  scale = h.scale;
}

abbrev pub header_answer : Result Said Refusal → Header
header_answer (Ok h) = with_reply (refusal 0) h
header_answer (Err r) = refused_by r

abbrev pub display_answer : Result Shown Refusal → Display
display_answer (Ok d) = record { refusal = refusal 0; reference = d.reference; step = d.step }
display_answer (Err r) = record { refusal = r; reference = of_bits binary64 0; step = of_bits binary64 0 }

abbrev pub length_answer : Result ℕ Refusal → Written
length_answer (Ok n) = record { refusal = refusal 0; len = n }
length_answer (Err r) = record { refusal = r; len = 0 }

abbrev pub entries_answer : Result ℕ Refusal → Indexed
entries_answer (Ok n) = record { refusal = refusal 0; entries = n }
entries_answer (Err r) = record { refusal = r; entries = 0 }

abbrev pub check_answer : Result (Unit {0}) Refusal → Refusal
check_answer (Ok u) = refusal 0
check_answer (Err r) = r

-- a bitmap's kind and, where it is a stored one, its number
abbrev pub the_bitmap_kind : Bitmap → ℕ
the_bitmap_kind Without = 0
the_bitmap_kind Carried = 1
the_bitmap_kind (Stored number) = 2

abbrev pub the_bitmap_number : Bitmap → ℕ
the_bitmap_number Without = 0
the_bitmap_number Carried = 0
the_bitmap_number (Stored number) = number

-- a part of the lent bitmap, or else of the message
abbrev pub part_by : Bool → Part → PartRecord
part_by stored p = record { stored = cond stored 1 0; start = p.start; len = p.len }

abbrev pub the_part_record : Part → PartRecord
the_part_record p = part_by false p

-- a grid of any kind, by its geometry's figures; what its kind does not have is zero
abbrev pub the_grid_record : Grid → GridRecord
the_grid_record g =
    let x = the_figures_of g.geometry in
    record {
      la1 = g.la1.value;
      lo1 = g.lo1.value;
      la2 = x.la2.value;
      lo2 = x.lo2.value;
      lov = x.lov.value;
      latin1 = x.latin1.value;
      latin2 = x.latin2.value;
      pole_la = x.pole_la.value;
      pole_lo = x.pole_lo.value;
      dx = x.dx;
      dy = x.dy;
      ni = g.ni;
      nj = g.nj;
      di = x.di;
      dj = x.dj;
      circles = x.circles;
      resolution = g.flags;
      scan = g.scan;
      rows = x.rows;
      kind = x.kind;
      centre = x.centre;
    }

abbrev pub the_header_record : Header → HeaderRecord
the_header_record h = record {
  reply = h.refusal.number;
  section = h.refusal.section;
  place = h.refusal.place;
  points = h.points;
  present = h.present;
  d = h.d.value;
  e = h.scale.e.value;
  r = h.scale.r;
  bitmap = the_bitmap_kind h.bitmap;
  grid = the_grid_record h.grid;
  pds = the_part_record h.places.pds;
  gds = the_part_record h.places.gds;
  bms = the_part_record h.places.bms;
  bds = the_part_record h.places.bds;
  bitmap_number = the_bitmap_number h.bitmap;
  year = h.time.year;
  month = h.time.month;
  day = h.time.day;
  hour = h.time.hour;
  minute = h.time.minute;
  packing_flags = h.packing.flags;
  bits = h.packing.bits;
}

-- a place of the chart, or 0 and zeros where the grid has no such point
abbrev pub the_place_record : Option Spot → PlaceRecord
the_place_record (Some c) = record { on = 1; row = c.row; column = c.column }
the_place_record None = record { on = 0; row = 0; column = 0 }

-- a grid point, or 0 and zero where the chart has no such place
abbrev pub the_point_record : Option GridPoint → PointRecord
the_point_record (Some k) = record { on = 1; point = k.0 }
the_point_record None = record { on = 0; point = 0 }

abbrev pub the_display_record : Display → DisplayRecord
the_display_record d = record {
  reply = d.refusal.number;
  section = d.refusal.section;
  place = d.refusal.place;
  reference = d.reference;
  step = d.step;
}

-- of a refusal by the writer or the packer the number is all that may not be zero (StopsToldAlone, `theorems`)
abbrev pub the_written_record : Written → WrittenRecord
the_written_record w = record { reply = w.refusal.number; len = w.len }

abbrev pub the_check_record : Refusal → CheckRecord
the_check_record r = record { reply = r.number; section = r.section; place = r.place }

abbrev pub the_indexed_record : Indexed → IndexedRecord
the_indexed_record i = record {
  reply = i.refusal.number;
  section = i.refusal.section;
  place = i.refusal.place;
  entries = i.entries;
}

-- what a place has under the cursor: 1 and its value, 2 where it is absent, 0 where it is refused
abbrev pub the_cursor_record : Result (Option ℕ) Refusal → CursorRecord
the_cursor_record (Err r) = record { reply = r.number; section = r.section; place = r.place; kind = 0; value = 0 }
the_cursor_record (Ok None) = record { reply = 0; section = 0; place = 0; kind = 2; value = 0 }
the_cursor_record (Ok (Some x)) = record { reply = 0; section = 0; place = 0; kind = 1; value = x }
