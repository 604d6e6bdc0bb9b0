-- A header's record, and a grid's, of what the calls made of their parts.
use mathlib.Core.Path.{◌≡◌}
use Prim.Native.Nat.{ℕ}
use lib.IntN.{ℤ}
use Rattle.rules.specs.declared.{Figures.Figures, Grid.Grid}
use Rattle.rules.specs.Answers.{Header}
use Rattle.rules.specs.Figures.{the_figures_of}
use Rattle.records.specs.declared.{PartRecord.PartRecord, GridRecord.GridRecord, HeaderRecord.HeaderRecord}
use Rattle.records.specs.Records.{the_bitmap_kind, the_bitmap_number, the_part_record, the_grid_record, the_header_record}

pub header_made : (h : Header) (d e : ℤ) (kind : ℕ) (g : GridRecord) (pds gds bms bds : PartRecord) (number : ℕ)
    → d ≡ h.d.value
    → e ≡ h.scale.e.value
    → kind ≡ the_bitmap_kind h.bitmap
    → g ≡ the_grid_record h.grid
    → pds ≡ the_part_record h.places.pds
    → gds ≡ the_part_record h.places.gds
    → bms ≡ the_part_record h.places.bms
    → bds ≡ the_part_record h.places.bds
    → number ≡ the_bitmap_number h.bitmap
    → ◌≡◌ {A = HeaderRecord}
    (record {
      reply = h.refusal.number;
      section = h.refusal.section;
      place = h.refusal.place;
      points = h.points;
      present = h.present;
      d = d;
      e = e;
      r = h.scale.r;
      bitmap = kind;
      grid = g;
      pds = pds;
      gds = gds;
      bms = bms;
      bds = bds;
      bitmap_number = number;
      year = h.time.year;
      month = h.time.month;
      day = h.time.day;
      hour = h.time.hour;
      minute = h.time.minute;
      packing_flags = h.packing.flags;
      bits = h.packing.bits;
    })
    (the_header_record h)
header_made h d e kind g pds gds bms bds number e1 e2 e3 e4 e5 e6 e7 e8 e9 = rw (e1, e2, e3, e4, e5, e6, e7, e8, e9)

-- and a grid's
pub grid-made : (g : Grid) (x : Figures) (la1 lo1 la2 lo2 lov latin1 latin2 la lo : ℤ) → x ≡ the_figures_of g.geometry
    → la1 ≡ g.la1.value
    → lo1 ≡ g.lo1.value
    → la2 ≡ x.la2.value
    → lo2 ≡ x.lo2.value
    → lov ≡ x.lov.value
    → latin1 ≡ x.latin1.value
    → latin2 ≡ x.latin2.value
    → la ≡ x.pole_la.value
    → lo ≡ x.pole_lo.value
    → ◌≡◌ {A = GridRecord}
    (record {
      la1 = la1;
      lo1 = lo1;
      la2 = la2;
      lo2 = lo2;
      lov = lov;
      latin1 = latin1;
      latin2 = latin2;
      pole_la = la;
      pole_lo = lo;
      dx = x.dx;
      dy = x.dy;
      ni = g.ni;
      nj = g.nj;
      di = x.di;
      dj = x.dj;
      circles = x.circles;
      resolution = g.flags;
      scan = g.scan;
      rows = x.rows;
      kind = x.kind;
      centre = x.centre;
    })
    (the_grid_record g)
grid-made g x la1 lo1 la2 lo2 lov latin1 latin2 la lo e e1 e2 e3 e4 e5 e6 e7 e8 e9 =
    rw (e1, e2, e3, e4, e5, e6, e7, e8, e9, e)
