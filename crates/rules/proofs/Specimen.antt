-- The specimen of document 01, computed: read, shown, taken apart, written, packed, checked, listed.
use Rattle.std.specs.Prelude.{Some}
use mathlib.Core.Path.{◌≡◌, refl}
use mathlib.Core.List.{[], ◌∷◌, ◌++◌, map}
use mathlib.Core.Bool.{true, false}
use lib.IntN.{pos, negsuc}
use lib.ListN.{take, drop}
use lib.Ieee.{binary64, of_bits}
use Rattle.rules.specs.declared.{Geometry.TheVariants.LatLon}
use Rattle.rules.specs.declared.{Grid.Grid, Form.Form, Bitmap.TheVariants.Carried}
use Rattle.rules.specs.Numbers.{plain}
use Rattle.rules.specs.Table.{refusal}
use Rattle.rules.specs.Chart.{spot_of}
use Rattle.rules.specs.Points.{numbered, absent, outside}
use Rattle.rules.specs.Reading.{header_of, read_of, the_values_after, the_marks_after, bitmap_of, section_of, numbering_of}
use Rattle.rules.specs.Display.{display_of}
use Rattle.rules.specs.Writing.{Parts, write_of, output_after}
use Rattle.rules.specs.RoundTrip.{parts_in, canonical}
use Rattle.rules.specs.Checking.{Source, check_of}
use Rattle.rules.specs.Packing.{pack_of, packed_after}
use Rattle.rules.specs.Listing.{listing_of}
use Rattle.rules.proofs.Computes.{computes, specimen, nothing}

abbrev pub grid : Grid
grid = record {
  ni = 2;
  nj = 2;
  la1 = plain (pos 50000);
  lo1 = plain (negsuc 1999);
  flags = 128;
  scan = 64;
  geometry = LatLon (record { la2 = plain (pos 51000); lo2 = plain (negsuc 999); di = 1000; dj = 1000 });
}

header : header_of specimen nothing
    ≡ record {
      refusal = refusal 0;
      places = record { pds = record { start = 8; len = 28 }; gds = record { start = 36; len = 32 }; bms = record { start = 68; len = 8 }; bds = record { start = 76; len = 14 } };
      time = record { year = 1998; month = 3; day = 10; hour = 6; minute = 0 };
      d = plain (pos 1);
      grid = grid;
      points = 4;
      bitmap = Carried;
      present = 3;
      packing = record { flags = 0; bits = 3 };
      scale = record { e = plain (pos 0); r = 0x439c4000 };
    }
unfolding computes
header = refl

-- into longer lists: the third point is absent, and "elements after n stay"
values : the_values_after specimen nothing (9 ∷ 9 ∷ 9 ∷ 9 ∷ 9 ∷ []) (8 ∷ 8 ∷ 8 ∷ 8 ∷ 8 ∷ 8 ∷ []) ≡ 0 ∷ 2 ∷ 0 ∷ 7 ∷ 9 ∷ []
unfolding computes
values = refl

marks : the_marks_after specimen nothing (9 ∷ 9 ∷ 9 ∷ 9 ∷ 9 ∷ []) (8 ∷ 8 ∷ 8 ∷ 8 ∷ 8 ∷ 8 ∷ []) ≡ 1 ∷ 1 ∷ 0 ∷ 1 ∷ 8 ∷ 8 ∷ []
unfolding computes
marks = refl

reply : read_of specimen nothing (9 ∷ 9 ∷ 9 ∷ 9 ∷ []) (8 ∷ 8 ∷ 8 ∷ 8 ∷ []) ≡ header_of specimen nothing
unfolding computes
reply = refl

-- "- 7 / 0 2": rows run north, so points 0 and 1 stand below 2 and 3
spots : map (spot_of 2 2 64) (0 ∷ 1 ∷ 2 ∷ 3 ∷ [])
    ≡ record { row = 1; column = 0 } ∷ record { row = 1; column = 1 } ∷ record { row = 0; column = 0 } ∷ record { row = 0; column = 1 } ∷ []
unfolding computes
spots = refl

numbers : map (numbering_of specimen nothing) (0 ∷ 1 ∷ 2 ∷ 3 ∷ 4 ∷ []) ≡ numbered 0 ∷ numbered 1 ∷ absent ∷ numbered 2 ∷ outside ∷ []
unfolding computes
numbers = refl

-- the bitmap in force, and sections 0 to 6
force : bitmap_of specimen nothing ≡ record { stored = false; part = record { start = 74; len = 1 } }
unfolding computes
force = refl

sections : map (section_of specimen nothing) (0 ∷ 1 ∷ 2 ∷ 3 ∷ 4 ∷ 5 ∷ 6 ∷ [])
    ≡ record { start = 0; len = 8 }
    ∷ record { start = 8; len = 28 }
    ∷ record { start = 36; len = 32 }
    ∷ record { start = 68; len = 8 }
    ∷ record { start = 76; len = 14 }
    ∷ record { start = 90; len = 4 }
    ∷ record { start = 0; len = 0 }
    ∷ []
unfolding computes
sections = refl

-- R = 2,500 and 2^0 as doubles
shown : display_of specimen nothing ≡ record { refusal = refusal 0; reference = of_bits binary64 0x40a3880000000000; step = of_bits binary64 0x3ff0000000000000 }
unfolding computes
shown = refl

-- the specimen's parts: reading gives them, and writing them gives the specimen
abbrev pub form : Form
form = record { grid = Some grid; bitmap = Carried; packing = record { flags = 0; bits = 3 } }

abbrev pub parts : Parts
parts = record { pds = take 28 (drop 8 specimen); form = form; scale = record { e = plain (pos 0); r = 0x439c4000 }; lent = nothing; values = 0 ∷ 2 ∷ 0 ∷ 7 ∷ []; marks = 1 ∷ 1 ∷ 0 ∷ 1 ∷ [] }

parts-read : parts_in specimen nothing ≡ parts
unfolding computes
parts-read = refl

clean : canonical specimen nothing ≡ true
unfolding computes
clean = refl

written : output_after parts (0xaa ∷ specimen ++ (0xbb ∷ [])) ≡ specimen ++ (0x37 ∷ 0xbb ∷ [])
unfolding computes
written = refl

written-length : write_of parts specimen ≡ record { refusal = refusal 0; len = 94 }
unfolding computes
written-length = refl

-- the source that the specimen renders: the packer gives the specimen for it, and the check says yes
abbrev pub source : Source
source = record { numbers = pos 2500 ∷ pos 2502 ∷ pos 77 ∷ pos 2507 ∷ []; marks = 1 ∷ 1 ∷ 0 ∷ 1 ∷ []; d = pos 1 }

packed-specimen : packed_after parts.pds form nothing source specimen ≡ specimen
unfolding computes
packed-specimen = refl

packed-length : pack_of parts.pds form nothing source specimen ≡ record { refusal = refusal 0; len = 94 }
unfolding computes
packed-length = refl

checked : check_of specimen nothing source ≡ refusal 0
unfolding computes
checked = refl

-- "4 3 2 2 1 0 439c4000 3 / - 7 / 0 2"
listed : listing_of specimen
    ≡ 0x34 ∷ 0x20 ∷ 0x33 ∷ 0x20 ∷ 0x32 ∷ 0x20 ∷ 0x32 ∷ 0x20 ∷ 0x31 ∷ 0x20 ∷ 0x30 ∷ 0x20
    ∷ 0x34 ∷ 0x33 ∷ 0x39 ∷ 0x63 ∷ 0x34 ∷ 0x30 ∷ 0x30 ∷ 0x30 ∷ 0x20 ∷ 0x33 ∷ 0x0a
    ∷ 0x2d ∷ 0x20 ∷ 0x37 ∷ 0x0a
    ∷ 0x30 ∷ 0x20 ∷ 0x32 ∷ 0x0a
    ∷ []
unfolding computes
listed = refl

-- "refused 1"
listed-empty : listing_of [] ≡ 0x72 ∷ 0x65 ∷ 0x66 ∷ 0x75 ∷ 0x73 ∷ 0x65 ∷ 0x64 ∷ 0x20 ∷ 0x31 ∷ 0x0a ∷ []
unfolding computes
listed-empty = refl
