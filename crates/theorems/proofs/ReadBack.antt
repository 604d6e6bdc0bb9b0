-- The message that the writer has for parts it accepts is taken, and its parts are those; section by section from where
-- each stands, then the reader's twelve rows from the writer's eight.
use Rattle.std.specs.Prelude.{None, Option, Some}
use Prim.Native.Nat.{ℕ, ◌+◌, ◌^◌, ◌≤◌, ◌<◌}
use mathlib.Core.Bool.{Bool, ◌&&◌, cond}
use mathlib.Core.Path.{◌≡◌, sym, ap, subst, ◌∙◌}
use mathlib.Core.List.{List, [], ◌++◌, append-nil}
use native.Mathlib.Omega.{arith}
use lib.ListN.{length, drop}
use lib.Dec.{T}
use Rattle.bits.specs.Bits.{count}
use Rattle.bits.specs.Tables.{tab}
use Rattle.bits.proofs.Marks.{count_same}
use Rattle.rules.specs.declared.{Places.Places, Packing.Packing, Grid.Grid}
use Rattle.rules.specs.Bounds.{gds_least, bms_least, points_most}
use Rattle.rules.specs.Numbers.{laid, joined}
use Rattle.rules.specs.Table.{refusal, accepted, any_of}
use Rattle.rules.specs.Places.{pds_start, the_has_grid, the_has_bitmap, places_of}
use Rattle.rules.specs.Grid.{the_grid_at, the_grid_from, the_grid_missing, grid_or_zeros, the_gds_bad, grid_faults, points_of}
use Rattle.rules.specs.Bitmap.{the_bitmap_given, mark_of, value_of, the_bitmap_at, bitmap_faults, in_force, bitmap_octets, present_by}
use Rattle.rules.specs.Bitmap.{bms_of}
use Rattle.rules.specs.Points.{gathered, scattered}
use Rattle.rules.specs.Values.{the_packing_at, scale_at, packing_faults, the_length_bad, values_at, bds_of}
use Rattle.rules.specs.Reading.{grid_in, grid_of, points_in, bitmap_in, in_force_in, present_in, present_count, packing_in}
use Rattle.rules.specs.Reading.{the_scale_in, data_in, values_in, marks_in, own_refusal}
use Rattle.rules.specs.Writing.{Parts, grid_for, points_for, the_grid_given, gds_for, sections_for, message, write_refusal}
use Rattle.rules.specs.RoundTrip.{parts_in}
use Rattle.laws.specs.Taken.{Taken}
use Rattle.theorems.specs.Returns.{FoundFits, NumberFits}
use Rattle.laws.proofs.Rows.{taken-by}
use Rattle.laws.proofs.Judged.{unjudged}
use Rattle.laws.proofs.Fields.{laid-length}
use Rattle.theorems.proofs.Laid.{Sec, ahead, ending, body, length-body, laid_places, Laid, at_g, at-m, at-d}
use Rattle.theorems.proofs.Laid.{pds-octet, same-grid, same-bitmap, laid-places, size_none, mark-none}
use Rattle.theorems.proofs.Laid.{edition-none, total-none, lengths_none, time-none, pds-back}
use Rattle.theorems.proofs.GridSection.{FoundOk, found_ok, found_sec, found-most, found_back, found_none}
use Rattle.theorems.proofs.GridSection.{from-same}
use Rattle.laws.proofs.Gathered.{length-gathered, scattered-back, marks-back}
use Rattle.theorems.proofs.DataSection.{DataOk, bds_sec, packing-back, scale_back, length_none, values-back}
use Rattle.laws.proofs.Lengths.{bds-length}
use Rattle.theorems.proofs.BitmapSection.{MapOk, bms-most, bms_sec, bitmap-back, bitmap-none, present-back}
use Rattle.theorems.proofs.Offered as offer
use Rattle.theorems.proofs.Offered.{Offer, offered}

-- the sections written
abbrev pub marks_for : Parts → ℕ → ℕ
marks_for w = mark_of w.marks

abbrev pub packed_for : Parts → List ℕ
packed_for w = gathered (mark_of w.marks) (value_of w.values) (points_for w)

abbrev pub gds_part : Parts → List ℕ
gds_part w = gds_for w.form.grid

abbrev pub bms_part : Parts → List ℕ
bms_part w = bms_of w.form.bitmap (marks_for w) (points_for w)

abbrev pub bds_part : Parts → List ℕ
bds_part w = bds_of w.form.packing w.scale (packed_for w)

abbrev pub body_for : Parts → List ℕ
body_for w = body w.pds (gds_part w) (bms_part w) (bds_part w)

pub message-laid : (w : Parts) → message w ≡ laid (ahead (8 + length (body_for w))) (body_for w)
unfolding message sections_for joined
message-laid w =
    ap (λ (x : List ℕ). laid (ahead (8 + length (w.pds ++ (gds_part w ++ (bms_part w ++ (bds_part w ++ x))))))
    (w.pds ++ (gds_part w ++ (bms_part w ++ (bds_part w ++ x)))))
    (append-nil (laid ending []))

pub message-length : (w : Parts) → length (message w) ≡ 8 + length (body_for w)
message-length w = ap length (message-laid w) ∙ laid-length (ahead (8 + length (body_for w))) (body_for w)

module _ (w : Parts) (out : List ℕ) (gf : FoundFits w.form.grid) (nf : NumberFits w.form.bitmap)
    (rf : w.scale.r < 2 ^ 32) (acc : T (accepted (write_refusal w out))) where
  abbrev s : List ℕ
  s = message w

  told : Offer w out
  told = offered w out acc

  pub grid_fine : FoundOk w.form.grid
  unfolding grid_for
  grid_fine = found_ok w.form.grid w.pds gf told.grid

  pub few : points_for w ≤ points_most
  few = offer.points-most w out nf rf told

  pub marks-bits : (i : ℕ) → marks_for w i < 2
  marks-bits = offer.mark-bits w out nf rf told

  map_fine : MapOk w.form.bitmap w.lent (marks_for w) (points_for w)
  map_fine = offer.map_ok w out nf rf told

  pub data_fine : DataOk w.form.packing w.scale (packed_for w)
  data_fine = offer.data_ok w out nf rf told

  whole-laid : Laid s w.pds (gds_part w) (bms_part w) (bds_part w)
  whole-laid = record {
    whole = message-laid w ∙ ap (λ (x : ℕ). laid (ahead x) (body_for w)) (sym (message-length w));
    fits =
        omega (
          arith,
          message-length w,
          length-body w.pds (gds_part w) (bms_part w) (bds_part w),
          offer.pds-most w out nf rf told,
          found-most w.form.grid,
          bms-most w.form.bitmap (marks_for w) (points_for w) points_most few,
          bds-length w.form.packing w.scale (packed_for w),
          data_fine.few,
        );
    most = offer.pds-most w out nf rf told;
    pds = offer.pds_sec w out nf rf told;
    gds = subst (λ (b : Bool). Sec b gds_least (gds_part w)) (sym (offer.has-grid w out nf rf told))
        (found_sec w.form.grid grid_fine);
    bms = subst (λ (b : Bool). Sec b bms_least (bms_part w)) (sym (offer.has-bitmap w out nf rf told))
        (bms_sec w.form.bitmap w.lent (marks_for w) (points_for w) few map_fine);
    bds = bds_sec w.form.packing w.scale (packed_for w) data_fine;
  }

  pub places : places_of s ≡ laid_places w.pds (gds_part w) (bms_part w) (bds_part w)
  places = laid-places s w.pds (gds_part w) (bms_part w) (bds_part w) whole-laid

  pub grid-there : the_has_grid s pds_start ≡ the_grid_given w.form.grid
  grid-there = same-grid s w.pds (gds_part w) (bms_part w) (bds_part w) whole-laid ∙ offer.has-grid w out nf rf told

  bitmap-there : the_has_bitmap s pds_start ≡ the_bitmap_given w.form.bitmap
  bitmap-there =
      same-bitmap s w.pds (gds_part w) (bms_part w) (bds_part w) whole-laid ∙ offer.has-bitmap w out nf rf told

  pub stands-g : drop (8 + length w.pds) s ≡ gds_part w ++ (bms_part w ++ (bds_part w ++ laid ending []))
  stands-g = at_g s w.pds (gds_part w) (bms_part w) (bds_part w) whole-laid

  pub stands-m : drop (8 + length w.pds + length (gds_part w)) s ≡ bms_part w ++ (bds_part w ++ laid ending [])
  stands-m = at-m s w.pds (gds_part w) (bms_part w) (bds_part w) whole-laid

  pub stands-d : drop (8 + length w.pds + length (gds_part w) + length (bms_part w)) s ≡ bds_part w ++ laid ending []
  stands-d = at-d s w.pds (gds_part w) (bms_part w) (bds_part w) whole-laid

  grid-in : grid_in s ≡ w.form.grid
  unfolding grid_in
  grid-in =
      (λ i. cond (grid-there i) (Some (the_grid_at s (places i).gds)) None)
      ∙ found_back s (8 + length w.pds) w.form.grid _ stands-g grid_fine

  grid-of : grid_of s ≡ grid_for w
  unfolding grid_of grid_for
  grid-of =
      ap (λ (f : Option Grid). the_grid_from f s pds_start) grid-in
      ∙ from-same w.form.grid s 8 w.pds
      (pds-octet s w.pds (gds_part w) (bms_part w) (bds_part w) whole-laid 6 (omega arith))

  pub points-in : points_in s ≡ points_for w
  unfolding points_in points_for
  points-in = ap (λ (f : Option Grid). points_of (grid_or_zeros f)) grid-of

  pub bitmap-in : bitmap_in s ≡ w.form.bitmap
  unfolding bitmap_in
  bitmap-in =
      (λ i. the_bitmap_at s (bitmap-there i) (places i).bms.start)
      ∙ bitmap-back s w.lent (8 + length w.pds + length (gds_part w)) (marks_for w) (points_for w) _ few marks-bits
      w.form.bitmap map_fine stands-m

  present-in : (i : ℕ) → i < points_for w → present_in s w.lent i ≡ marks_for w i
  unfolding present_in in_force_in
  present-in i l =
      (λ j. present_by (bitmap-in j)
      (bitmap_octets s w.lent.octets (in_force (bitmap-in j) (places j).bms (points-in j))) i)
      ∙ present-back s w.lent (8 + length w.pds + length (gds_part w)) (marks_for w) (points_for w) _ few marks-bits
      w.form.bitmap map_fine stands-m i l

  pub present-count : present_count s w.lent ≡ length (packed_for w)
  unfolding present_count
  present-count =
      ap (count (present_in s w.lent) 0) points-in
      ∙ count_same (present_in s w.lent) (marks_for w) (points_for w) present-in (points_for w) (omega arith)
      ∙ sym (length-gathered (marks_for w) marks-bits (value_of w.values) (points_for w))

  pub packing-in : packing_in s ≡ w.form.packing
  unfolding packing_in
  packing-in =
      ap (λ (x : Places). the_packing_at s x.bds.start) places
      ∙ packing-back s _ w.form.packing w.scale (packed_for w) _ stands-d data_fine

  scale_in : the_scale_in s ≡ w.scale
  unfolding the_scale_in
  scale_in =
      ap (λ (x : Places). scale_at s x.bds.start) places
      ∙ scale_back s _ w.form.packing w.scale (packed_for w) _ stands-d data_fine

  data-in : data_in s w.lent ≡ packed_for w
  unfolding data_in
  data-in =
      (λ i. values_at s (places i).bds.start (packing-in i).bits (present-count i))
      ∙ values-back s _ w.form.packing w.scale (packed_for w) _ stands-d data_fine

  values-in : values_in s w.lent ≡ w.values
  unfolding values_in
  values-in =
      (λ i. scattered (present_in s w.lent) (data-in i) (points-in i))
      ∙ scattered-back (present_in s w.lent) (marks_for w) w.values (points_for w) marks-bits
      (offer.values-long w out nf rf told) present-in (offer.absent-zero w out nf rf told)

  marks-in : marks_in s w.lent ≡ w.marks
  unfolding marks_in
  marks-in =
      ap (tab (present_in s w.lent)) points-in
      ∙ marks-back (present_in s w.lent) w.marks (points_for w) (offer.marks-long w out nf rf told) present-in

  taken : own_refusal s w.lent ≡ refusal 0
  taken =
      let p = w.pds in
      let g = gds_part w in
      let m = bms_part w in
      let d = bds_part w in
      let h = whole-laid in
      unjudged s w.lent (record {
        size = size_none s p g m d h;
        mark = mark-none s p g m d h;
        edition = edition-none s p g m d h;
        total = total-none s p g m d h;
        lengths = lengths_none s p g m d h;
        time = time-none s p g m d h told.time;
        found = ap the_grid_missing grid-of ∙ told.found;
        gds = (λ i. grid-there i && the_gds_bad s (places i).gds)
            ∙ found_none s (8 + length p) w.form.grid _ stands-g grid_fine;
        grid = ap (λ (f : Option Grid). any_of (grid_faults (grid_or_zeros f))) grid-of ∙ told.grid;
        bitmap =
            (λ i. any_of (bitmap_faults s w.lent (places i).bms (bitmap-in i) (points-in i)))
            ∙ bitmap-none s w.lent (8 + length p + length g) (marks_for w) (points_for w) _ few marks-bits
            w.form.bitmap map_fine stands-m;
        packing = ap (λ (x : Packing). any_of (packing_faults x)) packing-in ∙ offer.packing-none w out told;
        length =
            (λ i. the_length_bad s (places i).bds (present-count i) (packing-in i))
            ∙ length_none s (8 + length p + length g + length m) w.form.packing w.scale (packed_for w) _ stands-d
            data_fine;
      })

  parts-in : parts_in s w.lent ≡ w
  unfolding parts_in
  parts-in = λ i. record {
    pds = pds-back s w.pds (gds_part w) (bms_part w) (bds_part w) whole-laid i;
    form = record { grid = grid-in i; bitmap = bitmap-in i; packing = packing-in i };
    scale = scale_in i;
    lent = w.lent;
    values = values-in i;
    marks = marks-in i;
  }

pub message-reads : (w : Parts) (out : List ℕ) → FoundFits w.form.grid → NumberFits w.form.bitmap
    → w.scale.r < 2 ^ 32 → T (accepted (write_refusal w out))
    → Taken (message w) w.lent × (parts_in (message w) w.lent ≡ w)
message-reads w out gf nf rf acc = (taken-by _ (taken w out gf nf rf acc), parts-in w out gf nf rf acc)
