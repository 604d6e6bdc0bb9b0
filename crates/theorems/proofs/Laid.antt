-- A message laid out of its sections: they are found where they were laid, and rows 1 to 6 give no fault; each place
-- from the one before, by cutting off what stands there.
use Prim.Native.Nat.{ℕ, ◌+◌, ◌-◌, ◌%◌, ◌≤◌, ◌<◌}
use mathlib.Core.Bool.{Bool, true, false}
use mathlib.Core.Path.{◌≡◌, refl, sym, ap, subst, ◌∙◌}
use mathlib.Core.List.{List, [], ◌∷◌, ◌++◌}
use native.Mathlib.Omega.{arith}
use native.Mathlib.Nat.{add-zero}
use borrow.Author.Tests.{le-ltb}
use lib.ListN.{length, get_or, take, drop, length-append}
use lib.Seq.{drop-append_seam, drop-drop, take-append_seam}
use lib.Dec.{eqb}
use Rattle.bits.proofs.Cut.{run_at}
use Rattle.rules.specs.declared.{Part.Part, Places.Places}
use Rattle.rules.specs.Bounds.{message_least, message_most, pds_least, pds_most, gds_least, bms_least, bds_least}
use Rattle.rules.specs.Numbers.{Field, field, laid, bit, number}
use Rattle.rules.specs.Table.{any_of}
use Rattle.rules.specs.Places.{octets_of, after, grib, sevens, pds_start, the_end_start, the_has_grid, the_has_bitmap, the_section_at}
use Rattle.rules.specs.Places.{places_of, the_size_bad, the_grib_bad, the_edition_bad, total_faults}
use Rattle.rules.specs.Time.{the_year_of, the_moment_at, time_faults, moment_faults}
use Rattle.laws.specs.Lengths.{section_faults, places_faults, lengths_bad}
use Rattle.laws.proofs.Rows.{any_none, clash, gated, not_eq, outside-no}
use Rattle.laws.proofs.Fields.{get_at, Back, all_back, after-fields, laid-length}

-- a section's octets: absent and none, or there, with its length in its first three
pub record Sec (there : Bool) (low : ℕ) (p : List ℕ) : Type 0 where
  pub none : there ≡ false → length p ≡ 0
  pub says : there ≡ true → number p 0 1 3 ≡ length p
  pub least : there ≡ true → low ≤ length p
  pub even : eqb (length p % 2) 1 ≡ false

pub empty_sec : (low : ℕ) → Sec false low []
empty_sec low = record { none = λ t. refl; says = λ t. clash false t refl; least = λ t. clash false t refl; even = refl }

pub whole_sec : (low : ℕ) (p : List ℕ) → number p 0 1 3 ≡ length p → low ≤ length p → eqb (length p % 2) 1 ≡ false
    → Sec true low p
whole_sec low p says least even = record { none = λ t. clash true refl t; says = λ t. says; least = λ t. least; even = even }

abbrev pub ahead : ℕ → List Field
ahead total = field 4 grib ∷ field 3 total ∷ field 1 1 ∷ []

abbrev pub ending : List Field
ending = field 4 sevens ∷ []

abbrev pub body : List ℕ → List ℕ → List ℕ → List ℕ → List ℕ
body p g m d = p ++ (g ++ (m ++ (d ++ laid ending [])))

drop-next : (s : List ℕ) (k : ℕ) (p rest : List ℕ) → drop k s ≡ p ++ rest → drop (k + length p) s ≡ rest
drop-next s k p rest e = sym (drop-drop (length p) k s) ∙ ap (drop (length p)) e ∙ drop-append_seam p rest

pub length-body : (p g m d : List ℕ) → length (body p g m d) ≡ length p + length g + length m + length d + 4
length-body p g m d =
    omega (
      arith,
      laid-length ending [],
      length-append p (g ++ (m ++ (d ++ laid ending []))),
      length-append g
          (m ++ (d ++ laid ending [])),
      length-append m (d ++ laid ending []),
      length-append d (laid ending []),
    )

abbrev pub part_is : ℕ → List ℕ → Part
part_is k p = record { start = k; len = length p }

abbrev pub laid_places : List ℕ → List ℕ → List ℕ → List ℕ → Places
laid_places p g m d = record {
  pds = part_is pds_start p;
  gds = part_is (pds_start + length p) g;
  bms = part_is (pds_start + length p + length g) m;
  bds = part_is (pds_start + length p + length g + length m) d;
}

section-read : (s : List ℕ) (b : Bool) (k low : ℕ) (p rest : List ℕ) → 3 ≤ low → Sec b low p → drop k s ≡ p ++ rest
    → the_section_at s b k ≡ part_is k p
unfolding the_section_at
section-read s true k low p rest l c e =
    ap (λ (x : ℕ). record { start = k; len = x }) (run_at s k p rest 0 3 e (omega (arith, c.least refl)) ∙ c.says refl)
section-read s false k low p rest l c e = ap (λ (x : ℕ). record { start = k; len = x }) (sym (c.none refl))

section-none : (b : Bool) (end low k : ℕ) (p : List ℕ) → Sec b low p → 3 ≤ low → k + length p ≤ end → b ≡ true
    → any_of (section_faults end low (part_is k p)) ≡ false
unfolding section_faults
section-none b end low k p c l h t =
    let m : low ≤ length p = c.least t in
    any_none _ (le-ltb end (k + 3) (omega arith), (c.even, (le-ltb _ _ m, (le-ltb _ _ h, tt))))

-- the places' parts in turn
places-by : (s : List ℕ) (a b c d : Part) → the_section_at s true pds_start ≡ a
    → the_section_at s (the_has_grid s pds_start) (after a) ≡ b → the_section_at s (the_has_bitmap s pds_start) (after b) ≡ c
    → the_section_at s true (after c) ≡ d
    → places_of s ≡ record { pds = a; gds = b; bms = c; bds = d }
unfolding places_of
places-by s a b c d e1 e2 e3 e4 =
    let f2 = ap (λ (x : Part). the_section_at s (the_has_grid s pds_start) (after x)) e1 ∙ e2 in
    let f3 = ap (λ (x : Part). the_section_at s (the_has_bitmap s pds_start) (after x)) f2 ∙ e3 in
    let f4 = ap (λ (x : Part). the_section_at s true (after x)) f3 ∙ e4 in
    λ i. record { pds = e1 i; gds = f2 i; bms = f3 i; bds = f4 i }

-- a PDS and what stands at place k with the same first octets say the same
module _ (s : List ℕ) (k : ℕ) (p : List ℕ) (same : (i : ℕ) → i < pds_least → get_or s (k + i) 0 ≡ get_or p i 0) where
  pub grid-same : the_has_grid s k ≡ the_has_grid p 0
  unfolding the_has_grid
  grid-same = ap (bit 1) (same 7 (omega arith))

  pub bitmap-same : the_has_bitmap s k ≡ the_has_bitmap p 0
  unfolding the_has_bitmap
  bitmap-same = ap (bit 2) (same 7 (omega arith))

  pub time-same : time_faults s k ≡ time_faults p 0
  unfolding time_faults
  time-same =
      let a = same 24 (omega arith) in
      let b = same 12 (omega arith) in
      let c = same 13 (omega arith) in
      let e = same 14 (omega arith) in
      let f = same 15 (omega arith) in
      let g = same 16 (omega arith) in
      λ i. moment_faults (a i) (b i) (c i) (e i) (f i) (g i)

  pub moment_same : the_moment_at s k ≡ the_moment_at p 0
  unfolding the_moment_at
  moment_same =
      let a = same 24 (omega arith) in
      let b = same 12 (omega arith) in
      λ i. record { year = the_year_of (a i) (b i); month = same 13 (omega arith) i; day = same 14 (omega arith) i; hour = same 15 (omega arith) i; minute = same 16 (omega arith) i }

pub record Laid (s p g m d : List ℕ) : Type 0 where
  pub whole : s ≡ laid (ahead (length s)) (body p g m d)
  pub fits : length s ≤ message_most
  pub most : length p ≤ pds_most
  pub pds : Sec true pds_least p
  pub gds : Sec (the_has_grid p 0) gds_least g
  pub bms : Sec (the_has_bitmap p 0) bms_least m
  pub bds : Sec true bds_least d

module _ (s p g m d : List ℕ) (h : Laid s p g m d) where
  heads : Back s 0 0 (ahead (length s))
  heads =
      all_back s 0 0 (ahead (length s)) (body p g m d) h.whole
      (omega arith, (omega (arith, h.fits), (omega arith, tt)))

  at_p : drop pds_start s ≡ body p g m d
  at_p = after-fields s 0 0 (ahead (length s)) (body p g m d) h.whole

  pub at_g : drop (pds_start + length p) s ≡ g ++ (m ++ (d ++ laid ending []))
  at_g = drop-next s pds_start p _ at_p

  pub at-m : drop (pds_start + length p + length g) s ≡ m ++ (d ++ laid ending [])
  at-m = drop-next s (pds_start + length p) g _ at_g

  pub at-d : drop (pds_start + length p + length g + length m) s ≡ d ++ laid ending []
  at-d = drop-next s (pds_start + length p + length g) m _ at-m

  at-end : drop (pds_start + length p + length g + length m + length d) s ≡ laid ending []
  at-end = drop-next s (pds_start + length p + length g + length m) d _ at-d

  size : length s ≡ 8 + length p + length g + length m + length d + 4
  size = omega (arith, ap length h.whole, laid-length (ahead (length s)) (body p g m d), length-body p g m d)

  pub pds-octet : (i : ℕ) → i < pds_least → get_or s (pds_start + i) 0 ≡ get_or p i 0
  pds-octet i l = get_at s pds_start p _ i at_p (omega (arith, h.pds.least refl))

  pub same-grid : the_has_grid s pds_start ≡ the_has_grid p 0
  same-grid = grid-same s pds_start p pds-octet

  pub same-bitmap : the_has_bitmap s pds_start ≡ the_has_bitmap p 0
  same-bitmap = bitmap-same s pds_start p pds-octet

  pub laid-places : places_of s ≡ laid_places p g m d
  laid-places =
      places-by s (part_is 8 p) (part_is (8 + length p) g) (part_is (8 + length p + length g) m)
      (part_is (8 + length p + length g + length m) d)
      (section-read s true 8 pds_least p _ (omega arith) h.pds at_p)
      (section-read s (the_has_grid s pds_start) (8 + length p) gds_least g _ (omega arith)
      (subst (λ (b : Bool). Sec b gds_least g) (sym same-grid) h.gds) at_g)
      (section-read s (the_has_bitmap s pds_start) (8 + length p + length g) bms_least m _ (omega arith)
      (subst (λ (b : Bool). Sec b bms_least m) (sym same-bitmap) h.bms) at-m)
      (section-read s true (8 + length p + length g + length m) bds_least d _ (omega arith) h.bds at-d)

  pub size_none : the_size_bad s ≡ false
  unfolding the_size_bad
  size_none = outside-no message_least message_most (length s) (omega (arith, size)) h.fits

  pub mark-none : the_grib_bad s ≡ false
  unfolding the_grib_bad
  mark-none = not_eq _ _ heads.0

  pub edition-none : the_edition_bad s ≡ false
  unfolding the_edition_bad
  edition-none = not_eq _ _ (heads.2.2.1 refl)

  pub total-none : any_of (total_faults s) ≡ false
  unfolding total_faults
  total-none =
      let e : length s - 4 ≡ 8 + length p + length g + length m + length d = omega (arith, size) in
      let f = all_back s (length s - 4) 0 ending [] (ap (λ (k : ℕ). drop k s) (add-zero (length s - 4) ∙ e) ∙ at-end) (omega arith, tt) in
      any_none _ (not_eq _ _ heads.2.0, (not_eq _ _ f.0, tt))

  pub lengths_none : lengths_bad s ≡ false
  unfolding lengths_bad places_faults
  lengths_none =
      let e : the_end_start s ≡ 8 + length p + length g + length m + length d = omega (arith, size) in
      ap (λ (x : Places). any_of (places_faults (the_end_start s) (the_has_grid s pds_start) (the_has_bitmap s pds_start) x)) laid-places
      ∙ any_none _ (
        section-none true (the_end_start s) pds_least 8 p h.pds (omega arith) (omega arith) refl,
        (
          le-ltb _ _ h.most,
          (
            gated (the_has_grid s pds_start) _
                (λ t. section-none (the_has_grid p 0) (the_end_start s) gds_least (8 + length p) g h.gds (omega arith)
                (omega arith) (sym same-grid ∙ t)),
            (
              gated (the_has_bitmap s pds_start) _
                  (λ t. section-none (the_has_bitmap p 0) (the_end_start s) bms_least (8 + length p + length g) m h.bms
                  (omega arith) (omega arith) (sym same-bitmap ∙ t)),
              (
                section-none true (the_end_start s) bds_least (8 + length p + length g + length m) d h.bds (omega arith)
                    (omega arith) refl,
                (not_eq _ _ (sym e), tt),
              ),
            ),
          ),
        ),
      )

  pub time-none : any_of (time_faults p 0) ≡ false → any_of (time_faults s pds_start) ≡ false
  time-none e = ap any_of (time-same s pds_start p pds-octet) ∙ e

  pub pds-back : octets_of s (places_of s).pds ≡ p
  pds-back = ap (λ (x : Places). octets_of s x.pds) laid-places ∙ ap (take (length p)) at_p ∙ take-append_seam p _
