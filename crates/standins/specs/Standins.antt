-- Document 01, "Name these stand-ins and show which rule rejects each": our codec, each stand-in as our codec with
-- other answers in one place, and the demand that rejects it.
use Rattle.std.specs.Prelude.{ℕ, ◌/◌, ◌^◌, cond, List, [], ◌∷◌, eqb, pos, negsuc, length, get_or}
use Rattle.bits.specs.Tables.{tab}
use Rattle.rules.specs.declared.{Refusal.Refusal, Form.Form}
use Rattle.rules.specs.Answers.{Header, Written}
use Rattle.rules.specs.declared.{Geometry.TheVariants.LatLon, Bitmap.TheVariants.Carried}
use Rattle.rules.specs.Numbers.{plain}
use Rattle.rules.specs.Table.{refusal, filled}
use Rattle.rules.specs.Places.{places_of}
use Rattle.rules.specs.Bitmap.{Lent}
use Rattle.rules.specs.Points.{scattered}
use Rattle.rules.specs.Values.{values_at}
use Rattle.rules.specs.Reading.{points_in, present_in, present_count, packing_in, refused_by, read_refusal, read_of}
use Rattle.rules.specs.Reading.{the_values_after, the_marks_after}
use Rattle.rules.specs.Writing.{Parts, message, length_of, write_of, output_after}
use Rattle.rules.specs.Checking.{Source, present_of, check_of}
use Rattle.rules.specs.Packing.{above, exponent, packed_parts, pack_refusal, pack_of, packed_after}
use Rattle.standins.specs.Codec.{Codec, ReadsAll, ValuesAtPoints, CountsPresent, ReadsBack, ChecksExactly}
use Rattle.standins.specs.Codec.{PassesCheck, PacksExactly, RepliesByTable}

-- what stands for a reader: nothing is read
abbrev pub refusing : List ℕ → Lent → List ℕ → List ℕ → Header
refusing s lent values marks = refused_by (refusal 1)

abbrev pub values_kept : List ℕ → Lent → List ℕ → List ℕ → List ℕ
values_kept s lent values marks = values

abbrev pub marks_kept : List ℕ → Lent → List ℕ → List ℕ → List ℕ
marks_kept s lent values marks = marks

-- one fixed field, the specimen's, whatever the message is
abbrev pub fixed_header : List ℕ → Lent → List ℕ → List ℕ → Header
fixed_header s lent values marks =
    record {
      refusal = refusal 0;
      places = record { pds = record { start = 8; len = 28 }; gds = record { start = 36; len = 32 }; bms = record { start = 68; len = 8 }; bds = record { start = 76; len = 14 } };
      time = record { year = 1998; month = 3; day = 10; hour = 6; minute = 0 };
      d = plain (pos 1);
      grid = record {
        ni = 2;
        nj = 2;
        la1 = plain (pos 50000);
        lo1 = plain (negsuc 1999);
        flags = 128;
        scan = 64;
        geometry = LatLon (record { la2 = plain (pos 51000); lo2 = plain (negsuc 999); di = 1000; dj = 1000 });
      };
      points = 4;
      bitmap = Carried;
      present = 3;
      packing = record { flags = 0; bits = 3 };
      scale = record { e = plain (pos 0); r = 0x439c4000 };
    }

abbrev pub fixed_values : List ℕ → Lent → List ℕ → List ℕ → List ℕ
fixed_values s lent values marks = filled (refusal 0) (0 ∷ 2 ∷ 0 ∷ 7 ∷ []) values

abbrev pub fixed_marks : List ℕ → Lent → List ℕ → List ℕ → List ℕ
fixed_marks s lent values marks = filled (refusal 0) (1 ∷ 1 ∷ 0 ∷ 1 ∷ []) marks

-- the first value out_kept, at every present point
abbrev pub repeated_values : List ℕ → Lent → List ℕ → List ℕ → List ℕ
repeated_values s lent values marks =
    let x = get_or (values_at s (places_of s).bds.start (packing_in s).bits 1) 0 0 in
    filled (read_refusal s lent values marks)
    (scattered (present_in s lent) (tab (λ k. x) (present_count s lent)) (points_in s)) values

-- as many present points as there are points
abbrev pub invented_header : List ℕ → Lent → List ℕ → List ℕ → Header
invented_header s lent values marks =
    let h = read_of s lent values marks in
    record {
      refusal = h.refusal;
      places = h.places;
      time = h.time;
      d = h.d;
      grid = h.grid;
      points = h.points;
      bitmap = h.bitmap;
      present = h.points;
      packing = h.packing;
      scale = h.scale;
    }

-- every section where the PDS lies
abbrev pub misplaced_header : List ℕ → Lent → List ℕ → List ℕ → Header
misplaced_header s lent values marks =
    let h = read_of s lent values marks in
    let p = h.places.pds in
    record {
      refusal = h.refusal;
      places = record { pds = p; gds = p; bms = p; bds = p };
      time = h.time;
      d = h.d;
      grid = h.grid;
      points = h.points;
      bitmap = h.bitmap;
      present = h.present;
      packing = h.packing;
      scale = h.scale;
    }

-- what stands for a writer: nothing is written, and our length answered
abbrev pub unwritten : Parts → List ℕ → List ℕ
unwritten w out = out

-- what stands for a check
abbrev pub yes_always : List ℕ → Lent → Source → Refusal
yes_always s lent f = refusal 0

abbrev pub no_always : List ℕ → Lent → Source → Refusal
no_always s lent f = refusal 17

-- what stands for a packer: nothing is packed; or X is rounded down
abbrev pub unpacking : List ℕ → Form → Lent → Source → List ℕ → Written
unpacking pds form lent f out = record { refusal = refusal 19; len = 0 }

abbrev pub out_kept : List ℕ → Form → Lent → Source → List ℕ → List ℕ
out_kept pds form lent f out = out

abbrev pub down_parts : List ℕ → Form → Lent → Source → Parts
down_parts pds form lent f =
    let w = packed_parts pds form lent f in
    record {
      pds = w.pds;
      form = w.form;
      scale = w.scale;
      lent = w.lent;
      values = tab (λ i. cond (eqb (present_of f i) 1) (above f i / 2 ^ exponent f form.packing.bits) 0)
          (length f.numbers);
      marks = w.marks;
    }

abbrev pub packing_down : List ℕ → Form → Lent → Source → List ℕ → Written
packing_down pds form lent f out = length_of (pack_refusal pds form lent f out) (message (down_parts pds form lent f))

abbrev pub packed_down : List ℕ → Form → Lent → Source → List ℕ → List ℕ
packed_down pds form lent f out = filled (pack_refusal pds form lent f out) (message (down_parts pds form lent f)) out

-- our codec: the definitions that the contracts of the code are equations with
abbrev pub ours : Codec
ours = record {
  read = read_of;
  values = the_values_after;
  marks = the_marks_after;
  write = write_of;
  output = output_after;
  check = check_of;
  pack = pack_of;
  packed = packed_after;
}

-- ours but for the reader, the output, the check or the packer
abbrev pub reading : (List ℕ → Lent → List ℕ → List ℕ → Header) → (List ℕ → Lent → List ℕ → List ℕ → List ℕ)
    → (List ℕ → Lent → List ℕ → List ℕ → List ℕ) → Codec
reading read values marks =
    record { read = read; values = values; marks = marks; write = write_of; output = output_after; check = check_of; pack = pack_of; packed = packed_after }

abbrev pub outputting : (Parts → List ℕ → List ℕ) → Codec
outputting output =
    record { read = read_of; values = the_values_after; marks = the_marks_after; write = write_of; output = output; check = check_of; pack = pack_of; packed = packed_after }

abbrev pub checking : (List ℕ → Lent → Source → Refusal) → Codec
checking check =
    record { read = read_of; values = the_values_after; marks = the_marks_after; write = write_of; output = output_after; check = check; pack = pack_of; packed = packed_after }

abbrev pub packing : (List ℕ → Form → Lent → Source → List ℕ → Written)
    → (List ℕ → Form → Lent → Source → List ℕ → List ℕ) → Codec
packing pack packed_parts =
    record { read = read_of; values = the_values_after; marks = the_marks_after; write = write_of; output = output_after; check = check_of; pack = pack; packed = packed_parts }

abbrev pub refuses_all : Codec
refuses_all = reading refusing values_kept marks_kept

abbrev pub fixed_field : Codec
fixed_field = reading fixed_header fixed_values fixed_marks

abbrev pub first_repeated : Codec
first_repeated = reading read_of repeated_values the_marks_after

abbrev pub count_invented : Codec
count_invented = reading invented_header the_values_after the_marks_after

abbrev pub misplaces_sections : Codec
misplaces_sections = reading misplaced_header the_values_after the_marks_after

abbrev pub the_writes_nothing : Codec
the_writes_nothing = outputting unwritten

abbrev pub always_yes : Codec
always_yes = checking yes_always

abbrev pub always_no : Codec
always_no = checking no_always

abbrev pub packs_nothing : Codec
packs_nothing = packing unpacking out_kept

abbrev pub rounds_down : Codec
rounds_down = packing packing_down packed_down

-- which demand rejects each. "Demand 3 alone would allow a packer that always refuses": it meets PassesCheck, and "the
-- table's exact conditions in demand 1 reject it"
pub record Rejected : Type 0 where
  pub refuses-all : ReadsAll refuses_all → ⊥
  pub fixed-field : ReadsAll fixed_field → ⊥
  pub first-repeated : ValuesAtPoints first_repeated → ⊥
  pub count-invented : CountsPresent count_invented → ⊥
  pub misplaces-sections : ReadsAll misplaces_sections → ⊥
  pub writes_nothing : ReadsBack the_writes_nothing → ⊥
  pub always-yes : ChecksExactly always_yes → ⊥
  pub always-no : ChecksExactly always_no → ⊥
  pub packs-nothing-passes : PassesCheck packs_nothing
  pub packs-nothing : RepliesByTable packs_nothing → ⊥
  pub packs-nothing_exactly : PacksExactly packs_nothing → ⊥
  pub rounds-down : PassesCheck rounds_down → ⊥
