-- The walk over the section lengths stops nowhere exactly where document 01's row 5 does not apply: test by test.
use Prim.Native.Nat.{ℕ, ◌+◌, ◌≤◌}
use mathlib.Core.Bool.{Bool, true, false, ◌&&◌}
use mathlib.Core.Path.{◌≡◌, refl}
use mathlib.Core.List.{List, ◌++◌}
use native.Mathlib.Omega.{arith}
use borrow.Author.Tests.{ltb-false, le-ltb}
use lib.Dec.{ltb}
use Rattle.bits.proofs.Tests.{or_false, or_none}
use Rattle.rules.specs.declared.{Part.Part, Places.Places}
use Rattle.rules.specs.Bounds.{pds_least, pds_most, gds_least, bms_least, bds_least}
use Rattle.rules.specs.Numbers.{not_within}
use Rattle.rules.specs.Table.{Row, any_of}
use Rattle.rules.specs.Places.{after}
use Rattle.rules.specs.Walk.{section_rows, pds_rows, gds_rows, bms_rows, bds_rows, left_rows, walk_rows}
use Rattle.laws.specs.Tables.{Clear}
use Rattle.laws.specs.Lengths.{section_faults, places_faults, WalkAsRow}
use Rattle.laws.proofs.Rows.{clear-parts, clear-join, none_of, any_none, is_eq, not_eq}

-- one section: its four rows, and its tests in row 5, where being out of bounds says that it is under its least
section-clear : (end k : ℕ) (there out : Bool) (least : ℕ) (p : Part) → (out ≡ false → ltb p.len least ≡ false)
    → Clear (section_rows end k there out p)
    → (there && any_of (section_faults end least p)) ≡ false
unfolding section_rows section_faults
section-clear end k true out least p u h = any_none _ (h.0, (h.1.0, (u h.1.1.0, (h.1.1.1.0, tt))))
section-clear end k false out least p u h = refl

clear-section : (end k : ℕ) (there out : Bool) (least : ℕ) (p : Part) → (ltb p.len least ≡ false → out ≡ false)
    → (there && any_of (section_faults end least p)) ≡ false
    → Clear (section_rows end k there out p)
unfolding section_rows section_faults
clear-section end k true out least p u h =
    let f = none_of (section_faults end least p) h in
    (f.0, (f.1.0, (u f.1.1.0, (f.1.1.1.0, tt))))
clear-section end k false out least p u h = (refl, (refl, (refl, (refl, tt))))

module _ (end : ℕ) (grid bitmap : Bool) (p : Places) where
  abbrev late-rows : List Row
  late-rows = bds_rows end p ++ left_rows end p

  inside_of : not_within pds_least pds_most p.pds.len ≡ false
      → (ltb p.pds.len pds_least ≡ false) × (ltb pds_most p.pds.len ≡ false)
  inside_of e = or_false (ltb p.pds.len pds_least) (ltb pds_most p.pds.len) e

  row_of : Clear (walk_rows end grid bitmap p) → any_of (places_faults end grid bitmap p) ≡ false
  unfolding walk_rows section_rows places_faults
  row_of h =
      let a = clear-parts (pds_rows end p) (gds_rows end grid p ++ (bms_rows end bitmap p ++ late-rows)) h in
      let b = clear-parts (gds_rows end grid p) (bms_rows end bitmap p ++ late-rows) a.1 in
      let c = clear-parts (bms_rows end bitmap p) late-rows b.1 in
      let d = clear-parts (bds_rows end p) (left_rows end p) c.1 in
      let over : p.bds.start + p.bds.len ≤ end = ltb-false end (after p.bds) d.0.1.1.1.0 in
      let left : end ≤ p.bds.start + p.bds.len = ltb-false (after p.bds) end d.1.0 in
      any_none _ (
        section-clear end 1 true _ pds_least p.pds (λ e. (inside_of e).0) a.0,
        (
          (inside_of a.0.1.1.0).1,
          (
            section-clear end 2 grid _ gds_least p.gds (λ e. e) b.0,
            (
              section-clear end 3 bitmap _ bms_least p.bms (λ e. e) c.0,
              (
                section-clear end 4 true _ bds_least p.bds (λ e. e) d.0,
                (not_eq (after p.bds) end (omega (arith, over, left)), tt),
              ),
            ),
          ),
        ),
      )

  of_row : any_of (places_faults end grid bitmap p) ≡ false → Clear (walk_rows end grid bitmap p)
  unfolding walk_rows places_faults
  of_row h =
      let f = none_of (places_faults end grid bitmap p) h in
      let e : after p.bds ≡ end = is_eq _ _ f.1.1.1.1.1.0 in
      clear-join (pds_rows end p) _
      (clear-section end 1 true _ pds_least p.pds (λ u. or_none (ltb p.pds.len pds_least) _ u f.1.0) f.0)
      (clear-join (gds_rows end grid p) _ (clear-section end 2 grid _ gds_least p.gds (λ u. u) f.1.1.0)
      (clear-join (bms_rows end bitmap p) _ (clear-section end 3 bitmap _ bms_least p.bms (λ u. u) f.1.1.1.0)
      (clear-join (bds_rows end p) _ (clear-section end 4 true _ bds_least p.bds (λ u. u) f.1.1.1.1.0)
      (le-ltb (after p.bds) end (omega (arith, e)), tt))))

pub walk_as_row : WalkAsRow
walk_as_row end grid bitmap p = (row_of end grid bitmap p, of_row end grid bitmap p)
