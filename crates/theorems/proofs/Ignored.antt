-- What is read of a message does not depend on its padding bits nor on its reserved octets: every field lies outside of
-- them, section by section.
use Rattle.std.specs.Prelude.{None, Option, Some}
use Prim.Native.Nat.{ℕ, ◌+◌, ◌-◌, ◌*◌, ◌/◌, ◌%◌, ◌≤◌, ◌<◌}
use mathlib.Core.Bool.{Bool, true, false, not, ◌&&◌, cond}
use mathlib.Core.Path.{◌≡◌, refl, sym, subst, ◌∙◌, ap}
use mathlib.Core.Logic.{◌⊎◌, inl, inr, ⊎_elim}
use mathlib.Core.List.{List, [], ◌∷◌, map}
use native.Mathlib.Omega.{arith}
use borrow.Author.Tests.{eqb-true}
use lib.Dec.{T, ltb, eqb}
use lib.ListN.{length, get_or, take, drop}
use lib.Seq.{get_or-drop}
use Rattle.bits.specs.Bits.{bits_in, run, count, octets_for}
use Rattle.bits.specs.Tables.{tab}
use Rattle.bits.proofs.Runs.{run_ext}
use Rattle.bits.proofs.Fill.{tab_ext}
use Rattle.bits.proofs.Trip.{runs_ext}
use Rattle.bits.proofs.Cut.{bits-drop, bits-take, octets-here}
use Rattle.bits.proofs.Marks.{count_same}
use Rattle.rules.specs.declared.{Part.Part, Places.Places, Packing.Packing, Grid.Grid}
use Rattle.rules.specs.declared.{Bitmap.Bitmap, Bitmap.TheVariants.Without}
use Rattle.rules.specs.declared.{Bitmap.TheVariants.Carried, Bitmap.TheVariants.Stored}
use Rattle.rules.specs.Bounds.{message_least, message_most}
use Rattle.rules.specs.Numbers.{octet, bit, number, signed, not_within}
use Rattle.rules.specs.Table.{any_of}
use Rattle.rules.specs.Places.{octets_of, grib, sevens, pds_start, the_end_start, the_has_grid, the_has_bitmap, the_section_at, places_of}
use Rattle.rules.specs.Places.{the_size_bad, the_grib_bad, the_edition_bad, total_faults}
use Rattle.rules.specs.Time.{moment_faults, time_faults}
use Rattle.rules.specs.Columns.{Sort, carried, needed, distance, side, latitude, longitude, reserved as kept, Column}
use Rattle.rules.specs.Columns.{column_at, cell_of, cells_at, tiles}
use Rattle.rules.specs.Layouts.{Kind, columns, length_by, fifth, sixth, kinds}
use Rattle.rules.specs.Grid.{the_gds_bad, first_kind, kind_at, grid_of_cells, the_grid_at, the_grid_from, the_grid_missing, grid_or_zeros}
use Rattle.rules.specs.Grid.{grid_faults, points_of}
use Rattle.rules.specs.Bitmap.{Lent, the_bitmap_at, lent_faults, bitmap_faults, the_bitmap_given, in_force, bitmap_octets, present_by}
use Rattle.rules.specs.Points.{value_at, scattered}
use Rattle.rules.specs.Values.{the_packing_at, scale_at, packing_faults, the_length_bad, values_at}
use Rattle.rules.specs.Reading.{grid_in, grid_of, points_in, bitmap_in, in_force_in, present_in, present_count, packing_in}
use Rattle.rules.specs.Reading.{the_scale_in, data_in, values_in, marks_in}
use Rattle.rules.specs.RoundTrip.{parts_in}
use Rattle.laws.specs.Lengths.{places_faults, lengths_bad}
use Rattle.laws.specs.Taken.{Taken}
use Rattle.theorems.specs.Returns.{Below, is_reserved, InReserved, Ignored, reserved, bitmap, padding}
use Rattle.theorems.specs.Returns.{PaddingIgnored}
use Rattle.laws.proofs.Rows.{taken-by, none_of, is_true, is_eq, and_false}
use Rattle.laws.proofs.Judged.{Judged, judged, unjudged}
use Rattle.laws.proofs.Sections.{Sections, sections}
use Rattle.laws.proofs.Fields.{one}
use Rattle.laws.proofs.Columns.{tiled, kind-tiles}
use Rattle.theorems.proofs.GridSection.{from-same, admitted}
use Rattle.laws.proofs.Bounded.{kind}

-- the reserved places of a table that begins after octet j lie from there on, and before its end
tiles-le : (cs : List Column) (j n : ℕ) → tiles cs j n ≡ true → j ≤ n
unfolding tiles
tiles-le [] j n h = omega (arith, eqb-true j n h)
tiles-le (c ∷ cs) j n h = omega (arith, tiles-le cs (j + c.width) n (tiled c cs j n h).next)

reserved-from : (cs : List Column) (j n : ℕ) → tiles cs j n ≡ true → (g i : ℕ) → InReserved cs g i
    → ((g + j) * 8 ≤ i) × (i < (g + n) * 8)
reserved-from [] j n h g i r = absurd r
reserved-from (c ∷ cs) j n h g i r =
    let t = tiled c cs j n h in
    let l = tiles-le cs (j + c.width) n t.next in
    ⊎_elim (λ q. (omega (arith, t.here, q.1.0), omega (arith, t.here, l, q.1.1)))
    (λ q. let k = reserved-from cs (j + c.width) n t.next g i q in (omega (arith, k.0), k.1)) r

-- so that the cells of a section are the same where its bits are, but for the reserved ones; of any table that tiles it
module _ (o s : List ℕ) (g : ℕ) (ws : Below 256 s) (wo : Below 256 o) where
  column-by : (c : Column)
      → run (bits_in 8 o) ((g + (c.first - 1)) * 8) (c.width * 8)
      ≡ run (bits_in 8 s) ((g + (c.first - 1)) * 8) (c.width * 8)
      → column_at c o g ≡ column_at c s g
  column-by c e = go (eqb c.width 1) refl
    where
      go : (t : Bool) → eqb c.width 1 ≡ t
          → cond t (octet o g c.first) (run (bits_in 8 o) ((g + (c.first - 1)) * 8) (c.width * 8))
          ≡ cond t (octet s g c.first) (run (bits_in 8 s) ((g + (c.first - 1)) * 8) (c.width * 8))
      go true d =
          let n = eqb-true c.width 1 d in
          let at = g + (c.first - 1) in
          sym (one o wo at)
          ∙ (λ i. run (bits_in 8 o) (at * 8) (sym n i * 8)) ∙ e ∙ (λ i. run (bits_in 8 s) (at * 8) (n i * 8))
          ∙ one s ws at
      go false d = e

  cell-by : (t : Sort) (c v w : ℕ) → (is_reserved t ≡ false → v ≡ w) → cell_of t c v ≡ cell_of t c w
  cell-by carried c v w f = f refl
  cell-by needed c v w f = f refl
  cell-by distance c v w f = f refl
  cell-by side c v w f = f refl
  cell-by latitude c v w f = ap (signed c) (f refl)
  cell-by longitude c v w f = ap (signed c) (f refl)
  cell-by kept c v w f = refl

  cells_same : (cs : List Column) (j n : ℕ) → tiles cs j n ≡ true
      → ((i : ℕ) → (g + j) * 8 ≤ i → i < (g + n) * 8 → (InReserved cs g i → ⊥) → bits_in 8 o i ≡ bits_in 8 s i)
      → cells_at cs o g ≡ cells_at cs s g
  unfolding cells_at
  cells_same [] j n h f = refl
  cells_same (c ∷ cs) j n h f =
      let t = tiled c cs j n h in
      let l = tiles-le cs (j + c.width) n t.next in
      let a = (g + (c.first - 1)) * 8 in
      let x = cell-by c.sort c.width (column_at c o g) (column_at c s g) (λ e. column-by c
      (run_ext (bits_in 8 o) (bits_in 8 s) a a (c.width * 8)
      (λ i m. f (a + i) (omega (arith, t.here)) (omega (arith, t.here, l)) (λ r.
      ⊎_elim (λ q. subst T e q.0)
      (λ q. omega (arith, t.here, (reserved-from cs (j + c.width) n t.next g (a + i) q).0)) r)))) in
      let y = cells_same cs (j + c.width) n t.next (λ i m k r. f i (omega (arith, m)) k
      (λ q. ⊎_elim (λ z. omega (arith, t.here, m, z.1.1)) r q)) in
      λ i. (x i, y i)

module _ (s o : List ℕ) (lent : Lent) (ws : Below 256 s) (wo : Below 256 o) (len : length o ≡ length s)
    (same : (i : ℕ) → (Ignored s lent i → ⊥) → bits_in 8 o i ≡ bits_in 8 s i) (t : Taken s lent) where
  at : Sections s
  at = sections s lent t

  j : Judged s lent
  j = judged s lent t

  abbrev G : ℕ
  G = (places_of s).gds.start

  abbrev M : ℕ
  M = (places_of s).bms.start

  abbrev D : ℕ
  D = (places_of s).bds.start

  abbrev end : ℕ
  end = D + (places_of s).bds.len

  abbrev n : ℕ
  n = points_in s

  abbrev used : ℕ
  used = present_count s lent * (packing_in s).bits

  -- where the sections end
  grid-end : the_has_grid s pds_start ≡ true → G + 32 ≤ M
  grid-end h = omega (arith, at.at-bms, at.gds.least h)

  map_head : the_has_bitmap s pds_start ≡ true → M + 6 ≤ D
  map_head h = omega (arith, at.at-bds, at.bms.least h)

  map-end : bitmap_in s ≡ Carried → (M + 6) * 8 + n + octet s M 4 ≡ D * 8
  unfolding bitmap_faults
  map-end e =
      let h = none_of _ (subst (λ (m : Bitmap). any_of (bitmap_faults s lent (places_of s).bms m n) ≡ false) e j.bitmap) in
      let r : 8 * ((places_of s).bms.len - 6) ≡ n + octet s M 4 = is_eq _ _ h.1.0 in
      omega (arith, r, at.at-bds, map_head (kind s ∙ ap the_bitmap_given e))

  data_end : (D + 11) * 8 + used ≤ end * 8
  unfolding the_length_bad
  data_end =
      omega (arith, at.bds.least refl, is_eq (8 * ((places_of s).bds.len - 11)) (used + octet s D 4 % 16) j.length)

  -- the grid's reserved places lie after octet 6 of its section and before the next one
  abbrev P : Part
  P = (places_of s).gds

  abbrev table : List Column
  table = columns (kind_at s P)

  abbrev NotReserved : ℕ → Type 0
  NotReserved i = the_has_grid s pds_start ≡ true → InReserved table G i → ⊥

  grid-long : the_has_grid s pds_start ≡ true → M ≡ G + length_by (kind_at s P)
  grid-long h = at.at-bms ∙ ap (λ (k : ℕ). G + k) (admitted s P (and_false _ _ h j.gds)).len

  reserved_in : the_has_grid s pds_start ≡ true → (i : ℕ) → InReserved table G i → ((G + 6) * 8 ≤ i) × (i < M * 8)
  reserved_in h i r =
      let q = reserved-from table 6 (length_by (kind_at s P)) (kind-tiles (kind_at s P)) G i r in
      (q.0, omega (arith, q.1, grid-long h))

  early : (i : ℕ) → i < (G + 6) * 8 → NotReserved i
  early i l h r = omega (arith, l, (reserved_in h i r).0)

  late : (i : ℕ) → M * 8 ≤ i → NotReserved i
  late i l h r = omega (arith, l, (reserved_in h i r).1)

  -- a place that is before or after each of the three is none of them
  clear_of : (i : ℕ) → NotReserved i
      → (i < (M + 6) * 8 + n) ⊎ (D * 8 ≤ i)
      → (i < (D + 11) * 8 + used) ⊎ (end * 8 ≤ i) → Ignored s lent i → ⊥
  clear_of i a b c (reserved g h) = a (is_true _ g) h
  clear_of i a b c (bitmap e h) = ⊎_elim (λ l. omega (arith, h.0, l)) (λ l. omega (arith, h.1, l, map-end e)) b
  clear_of i a b c (padding h) = ⊎_elim (λ l. omega (arith, h.0, l)) (λ l. omega (arith, h.1, l, data_end)) c

  -- so that numbers are the same before the grid's reserved octets, in the bitmap section's head, in the data and in
  -- the end
  front-bits : (a k : ℕ) → a + k ≤ G * 8 → run (bits_in 8 o) a k ≡ run (bits_in 8 s) a k
  front-bits a k l =
      run_ext (bits_in 8 o) (bits_in 8 s) a a k
      (λ i q. same (a + i)
      (clear_of (a + i) (early _ (omega arith)) (inl (omega (arith, at.at-bms)))
      (inl (omega (arith, at.at-bms, at.at-bds)))))

  grid-bits : the_has_grid s pds_start ≡ true → (a k : ℕ) → a + k ≤ (G + 6) * 8 → run (bits_in 8 o) a k ≡ run (bits_in 8 s) a k
  grid-bits h a k l =
      run_ext (bits_in 8 o) (bits_in 8 s) a a k
      (λ i q. same (a + i)
      (clear_of (a + i) (early _ (omega arith)) (inl (omega (arith, grid-end h)))
      (inl (omega (arith, grid-end h, at.at-bds)))))

  map-bits : the_has_bitmap s pds_start ≡ true → (a k : ℕ) → M * 8 ≤ a → a + k ≤ (M + 6) * 8
      → run (bits_in 8 o) a k ≡ run (bits_in 8 s) a k
  map-bits h a k m l =
      run_ext (bits_in 8 o) (bits_in 8 s) a a k
      (λ i q. same (a + i)
      (clear_of (a + i) (late _ (omega arith)) (inl (omega arith)) (inl (omega (arith, map_head h)))))

  data_bit : (i : ℕ) → D * 8 ≤ i → i < (D + 11) * 8 + used → bits_in 8 o i ≡ bits_in 8 s i
  data_bit i m l = same i (clear_of i (late i (omega (arith, m, at.at-bds))) (inr m) (inl l))

  data-bits : (a k : ℕ) → D * 8 ≤ a → a + k ≤ (D + 11) * 8 + used → run (bits_in 8 o) a k ≡ run (bits_in 8 s) a k
  data-bits a k m l = run_ext (bits_in 8 o) (bits_in 8 s) a a k (λ i q. data_bit (a + i) (omega arith) (omega arith))

  end-bits : (a k : ℕ) → end * 8 ≤ a → run (bits_in 8 o) a k ≡ run (bits_in 8 s) a k
  end-bits a k m =
      run_ext (bits_in 8 o) (bits_in 8 s) a a k
      (λ i q. same (a + i)
      (clear_of (a + i) (late _ (omega (arith, at.at-bds))) (inr (omega arith)) (inr (omega arith))))

  -- an octet is the number in its bits
  by_bits : (k : ℕ) → run (bits_in 8 o) (k * 8) 8 ≡ run (bits_in 8 s) (k * 8) 8 → get_or o k 0 ≡ get_or s k 0
  by_bits k e = sym (one o wo k) ∙ e ∙ one s ws k

  pds-least : 36 ≤ G
  pds-least = omega (arith, at.at-gds, at.pds.least refl)

  -- the sections lie where they lay
  grid-there : the_has_grid o pds_start ≡ the_has_grid s pds_start
  unfolding the_has_grid
  grid-there = ap (bit 1) (by_bits 15 (front-bits 120 8 (omega (arith, pds-least))))

  bitmap-there : the_has_bitmap o pds_start ≡ the_has_bitmap s pds_start
  unfolding the_has_bitmap
  bitmap-there = ap (bit 2) (by_bits 15 (front-bits 120 8 (omega (arith, pds-least))))

  gated-same : (b : Bool) (x y : ℕ) → (b ≡ true → x ≡ y) → cond b x 0 ≡ cond b y 0
  gated-same true x y h = h refl
  gated-same false x y h = refl

  pds-len : number o 8 1 3 ≡ number s 8 1 3
  pds-len = front-bits 64 24 (omega (arith, pds-least))

  gds-len : cond (the_has_grid o pds_start) (number o (8 + number o 8 1 3) 1 3) 0 ≡ (places_of s).gds.len
  unfolding places_of the_section_at
  gds-len =
      (λ i. cond (grid-there i) (number o (8 + pds-len i) 1 3) 0)
      ∙ gated-same (the_has_grid s pds_start) _ _ (λ h. grid-bits h _ 24 (omega arith))

  bms-len : cond (the_has_bitmap o pds_start)
      (number o (8 + number o 8 1 3 + cond (the_has_grid o pds_start) (number o (8 + number o 8 1 3) 1 3) 0) 1 3) 0
      ≡ (places_of s).bms.len
  unfolding places_of the_section_at
  bms-len =
      (λ i. cond (bitmap-there i) (number o (8 + pds-len i + gds-len i) 1 3) 0)
      ∙ gated-same (the_has_bitmap s pds_start) _ _ (λ h. map-bits h _ 24 (omega arith) (omega arith))

  bds-len : (k : ℕ) → k ≡ D → number o k 1 3 ≡ number s D 1 3
  bds-len k e = ap (λ (x : ℕ). number o x 1 3) e ∙ data-bits ((D + 0) * 8) 24 (omega arith) (omega arith)

  places_same : places_of o ≡ places_of s
  unfolding places_of the_section_at
  places_same = λ i. record {
    pds = record { start = 8; len = pds-len i };
    gds = record { start = 8 + pds-len i; len = gds-len i };
    bms = record { start = 8 + pds-len i + gds-len i; len = bms-len i };
    bds = record { start = 8 + pds-len i + gds-len i + bms-len i; len = bds-len _ (λ k. 8 + pds-len k + gds-len k + bms-len k) i };
  }

  -- the PDS
  pds-octet : (k : ℕ) → k < 36 → get_or o k 0 ≡ get_or s k 0
  pds-octet k l = by_bits k (front-bits (k * 8) 8 (omega (arith, pds-least)))

  pds-same : octets_of o (places_of o).pds ≡ octets_of s (places_of s).pds
  unfolding places_of the_section_at
  pds-same =
      let c = number s 8 1 3 in
      let f : ℕ → ℕ = λ i. bits_in 8 s (64 + i) in
      ap (λ (k : ℕ). take k (drop 8 o)) pds-len
      ∙ sym (octets-here o 8 c f wo (omega (arith, len, at.at-gds, at.at-bms, at.at-bds, at.end))
      (λ i l. sym (same (64 + i) (clear_of (64 + i)
      (early _ (omega (arith, at.at-gds))) (inl (omega (arith, at.at-gds, at.at-bms)))
      (inl (omega (arith, at.at-gds, at.at-bms, at.at-bds)))))))
      ∙ octets-here s 8 c f ws (omega (arith, at.at-gds, at.at-bms, at.at-bds, at.end)) (λ i l. refl)

  -- the grid
  grid-octet : the_has_grid s pds_start ≡ true → (k : ℕ) → k < 6 → get_or o (G + k) 0 ≡ get_or s (G + k) 0
  grid-octet h k l = by_bits (G + k) (grid-bits h ((G + k) * 8) 8 (omega arith))

  table_same : the_has_grid s pds_start ≡ true → cells_at table o G ≡ cells_at table s G
  table_same h =
      cells_same o s G ws wo table 6 (length_by (kind_at s P)) (kind-tiles (kind_at s P))
      (λ i l m r. same i
      (clear_of i (λ k. r) (inl (omega (arith, m, grid-long h))) (inl (omega (arith, m, grid-long h, at.at-bds)))))

  kind-same : the_has_grid s pds_start ≡ true → kind_at o P ≡ kind_at s P
  unfolding kind_at
  kind-same h = λ i.
      first_kind kinds (λ k. eqb P.len (length_by k) && (eqb (grid-octet h 3 (omega arith) i) 0
      && (eqb (grid-octet h 4 (omega arith) i) (fifth k) && eqb (grid-octet h 5 (omega arith) i) (sixth k))))

  grid-same : the_has_grid s pds_start ≡ true → the_grid_at o P ≡ the_grid_at s P
  unfolding the_grid_at
  grid-same h =
      ap (λ (k : Kind). grid_of_cells k (cells_at (columns k) o G)) (kind-same h)
      ∙ ap (grid_of_cells (kind_at s P)) (table_same h)

  grid-in : grid_in o ≡ grid_in s
  unfolding grid_in
  grid-in =
      (λ i. cond (grid-there i) (Some (the_grid_at o (places_same i).gds)) None)
      ∙ found (the_has_grid s pds_start) grid-same
    where
      found : (b : Bool) → (b ≡ true → the_grid_at o P ≡ the_grid_at s P)
          → cond b (Some (the_grid_at o P)) None ≡ cond b (Some (the_grid_at s P)) None
      found true h = ap Some (h refl)
      found false h = refl

  grid-of : grid_of o ≡ grid_of s
  unfolding grid_of
  grid-of =
      ap (λ (f : Option Grid). the_grid_from f o pds_start) grid-in
      ∙ from-same (grid_in s) o 8 (drop 8 s) (pds-octet 14 (omega arith) ∙ sym (get_or-drop 8 s 6 0))
      ∙ sym (from-same (grid_in s) s 8 (drop 8 s) (sym (get_or-drop 8 s 6 0)))

  points-same : points_in o ≡ points_in s
  unfolding points_in
  points-same = ap (λ (f : Option Grid). points_of (grid_or_zeros f)) grid-of

  -- the bitmap
  map-number : the_has_bitmap s pds_start ≡ true → number o M 5 6 ≡ number s M 5 6
  map-number h = map-bits h ((M + 4) * 8) 16 (omega arith) (omega arith)

  bitmap-same : bitmap_in o ≡ bitmap_in s
  unfolding bitmap_in the_bitmap_at
  bitmap-same =
      (λ i. the_bitmap_at o (bitmap-there i) (places_same i).bms.start)
      ∙ kinds (the_has_bitmap s pds_start) (number o M 5 6) (number s M 5 6) map-number
    where
      kinds : (b : Bool) (x y : ℕ) → (b ≡ true → x ≡ y)
          → cond b (cond (eqb x 0) Carried (Stored x)) Without ≡ cond b (cond (eqb y 0) Carried (Stored y)) Without
      kinds true x y h = ap (λ (k : ℕ). cond (eqb k 0) Carried (Stored k)) (h refl)
      kinds false x y h = refl

  map-octet : the_has_bitmap s pds_start ≡ true → get_or o (M + 3) 0 ≡ get_or s (M + 3) 0
  map-octet h = by_bits (M + 3) (map-bits h ((M + 3) * 8) 8 (omega arith) (omega arith))

  given-there : (m : Bitmap) → bitmap_in s ≡ m → the_bitmap_given m ≡ true → the_has_bitmap s pds_start ≡ true
  given-there m e g = kind s ∙ ap the_bitmap_given e ∙ g

  present_as : (m : Bitmap) → bitmap_in s ≡ m → (i : ℕ) → i < n
      → present_by m (bitmap_octets o lent.octets (in_force m (places_of s).bms n)) i
      ≡ present_by m (bitmap_octets s lent.octets (in_force m (places_of s).bms n)) i
  unfolding present_by bitmap_octets in_force
  present_as Without e i l = refl
  present_as (Stored k) e i l = refl
  present_as Carried e i l =
      bits-take (octets_for n) (drop (M + 6) o) i (omega arith) ∙ sym (bits-drop (M + 6) o i)
      ∙ same ((M + 6) * 8 + i)
      (clear_of ((M + 6) * 8 + i) (late _ (omega arith)) (inl (omega arith)) (inl (omega (arith, map-end e))))
      ∙ bits-drop (M + 6) s i ∙ sym (bits-take (octets_for n) (drop (M + 6) s) i (omega arith))

  present-same : (i : ℕ) → i < n → present_in o lent i ≡ present_in s lent i
  unfolding present_in in_force_in
  present-same i l =
      (λ k. present_by (bitmap-same k)
      (bitmap_octets o lent.octets (in_force (bitmap-same k) (places_same k).bms (points-same k))) i)
      ∙ present_as (bitmap_in s) refl i l

  count-upto : (i : ℕ) → i ≤ n → count (present_in o lent) 0 i ≡ count (present_in s lent) 0 i
  count-upto = count_same (present_in o lent) (present_in s lent) n present-same

  present-count : present_count o lent ≡ present_count s lent
  unfolding present_count
  present-count = ap (count (present_in o lent) 0) points-same ∙ count-upto n (omega arith)

  -- the data
  data_octet : (k : ℕ) → k < 11 → get_or o (D + k) 0 ≡ get_or s (D + k) 0
  data_octet k l = by_bits (D + k) (data-bits ((D + k) * 8) 8 (omega arith) (omega arith))

  packing-same : packing_in o ≡ packing_in s
  unfolding packing_in the_packing_at
  packing-same =
      ap (λ (p : Places). the_packing_at o p.bds.start) places_same
      ∙ (λ i. record { flags = data_octet 3 (omega arith) i / 16; bits = data_octet 10 (omega arith) i })

  scale_same : the_scale_in o ≡ the_scale_in s
  unfolding the_scale_in scale_at
  scale_same =
      let e = data-bits ((D + 4) * 8) 16 (omega arith) (omega arith) in
      let r = data-bits ((D + 6) * 8) 32 (omega arith) (omega arith) in
      ap (λ (p : Places). scale_at o p.bds.start) places_same ∙ (λ i. record { e = signed 2 (e i); r = r i })

  data_same : data_in o lent ≡ data_in s lent
  unfolding data_in values_at
  data_same =
      (λ i. values_at o (places_same i).bds.start (packing-same i).bits (present-count i))
      ∙ runs_ext (bits_in 8 o) (bits_in 8 s) ((D + 11) * 8) ((D + 11) * 8) (packing_in s).bits (present_count s lent)
      (λ i l. data_bit ((D + 11) * 8 + i) (omega arith) (omega arith))

  values_same : values_in o lent ≡ values_in s lent
  unfolding values_in scattered value_at
  values_same =
      (λ i. scattered (present_in o lent) (data_same i) (points-same i))
      ∙ tab_ext (value_at (present_in o lent) (data_in s lent)) (value_at (present_in s lent) (data_in s lent)) n
      (λ k l i. cond (eqb (present-same k l i) 1) (get_or (data_in s lent) (count-upto k (omega arith) i) 0) 0)

  marks-same : marks_in o lent ≡ marks_in s lent
  unfolding marks_in
  marks-same = ap (tab (present_in o lent)) points-same ∙ tab_ext (present_in o lent) (present_in s lent) n present-same

  parts_same : parts_in o lent ≡ parts_in s lent
  unfolding parts_in
  parts_same = λ i. record {
    pds = pds-same i;
    form = record { grid = grid-in i; bitmap = bitmap-same i; packing = packing-same i };
    scale = scale_same i;
    lent = lent;
    values = values_same i;
    marks = marks-same i;
  }

  -- and the twelve rows
  gds-passes : (the_has_grid o pds_start && the_gds_bad o (places_of o).gds) ≡ false
  unfolding the_gds_bad
  gds-passes =
      (λ i. grid-there i && the_gds_bad o (places_same i).gds)
      ∙ gate (the_has_grid s pds_start) _ _
      (λ h i.
      not (any_of (map (λ k. eqb P.len (length_by k) && (eqb (grid-octet h 3 (omega arith) i) 0
      && (eqb (grid-octet h 4 (omega arith) i) (fifth k) && eqb (grid-octet h 5 (omega arith) i) (sixth k)))) kinds)))
      ∙ j.gds
    where
      gate : (b x y : Bool) → (b ≡ true → x ≡ y) → (b && x) ≡ (b && y)
      gate true x y h = h refl
      gate false x y h = refl

  map-passes : (m : Bitmap) → bitmap_in s ≡ m
      → bitmap_faults o lent (places_of s).bms m n ≡ bitmap_faults s lent (places_of s).bms m n
  unfolding bitmap_faults
  map-passes Without e = refl
  map-passes Carried e =
      ap (λ (u : ℕ). ltb 15 u ∷ not (eqb (8 * ((places_of s).bms.len - 6)) (n + u)) ∷ [])
      (map-octet (given-there Carried e refl))
  map-passes (Stored k) e =
      ap (λ (u : ℕ). not (eqb (places_of s).bms.len 6) ∷ not (eqb u 0) ∷ lent_faults lent k n)
      (map-octet (given-there (Stored k) e refl))

  total-passes : any_of (total_faults o) ≡ false
  unfolding total_faults
  total-passes =
      let e : length s - 4 ≡ end = omega (arith, at.end) in
      let a = front-bits 32 24 (omega (arith, pds-least)) in
      let b : number o (the_end_start o) 1 4 ≡ number s (the_end_start s) 1 4 = ap (λ (x : ℕ). number o (x - 4) 1 4) len ∙ end-bits ((length s - 4 + 0) * 8) 32 (omega arith) in
      (λ i. any_of (not (eqb (a i) (len i)) ∷ not (eqb (b i) sevens) ∷ [])) ∙ j.total

  time-passes : any_of (time_faults o pds_start) ≡ false
  unfolding time_faults
  time-passes =
      (λ i. any_of
      (moment_faults (pds-octet 32 (omega arith) i) (pds-octet 20 (omega arith) i) (pds-octet 21 (omega arith) i)
      (pds-octet 22 (omega arith) i) (pds-octet 23 (omega arith) i) (pds-octet 24 (omega arith) i)))
      ∙ j.time

  passes : Judged o lent
  unfolding the_size_bad the_grib_bad the_edition_bad lengths_bad the_length_bad
  passes = record {
    size = ap (not_within message_least message_most) len ∙ j.size;
    mark = ap (λ (x : ℕ). not (eqb x grib)) (front-bits 0 32 (omega (arith, pds-least))) ∙ j.mark;
    edition = ap (λ (x : ℕ). not (eqb x 1)) (pds-octet 7 (omega arith)) ∙ j.edition;
    total = total-passes;
    lengths = (λ i. any_of (places_faults (len i - 4) (grid-there i) (bitmap-there i) (places_same i))) ∙ j.lengths;
    time = time-passes;
    found = ap the_grid_missing grid-of ∙ j.found;
    gds = gds-passes;
    grid = ap (λ (f : Option Grid). any_of (grid_faults (grid_or_zeros f))) grid-of ∙ j.grid;
    bitmap = (λ i. any_of (bitmap_faults o lent (places_same i).bms (bitmap-same i) (points-same i)))
        ∙ ap any_of (map-passes (bitmap_in s) refl) ∙ j.bitmap;
    packing = ap (λ (p : Packing). any_of (packing_faults p)) packing-same ∙ j.packing;
    length =
        (λ i. the_length_bad o (places_same i).bds (present-count i) (packing-same i))
        ∙ ap (λ (x : ℕ). not (eqb (8 * ((places_of s).bds.len - 11)) (used + x % 16))) (data_octet 3 (omega arith))
        ∙ j.length;
  }

pub padding_ignored : PaddingIgnored
padding_ignored s o lent ws wo len same t =
    (taken-by _ (unjudged o lent (passes s o lent ws wo len same t)), parts_same s o lent ws wo len same t)
