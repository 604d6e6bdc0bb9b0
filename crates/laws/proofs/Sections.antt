-- Where the sections of a taken message lie, and that each has the octets of its fields; from row 5, which says that
-- each section starts where the one before ends.
use Prim.Native.Nat.{ℕ, ◌+◌, ◌%◌, ◌≤◌}
use mathlib.Core.Bool.{Bool, true, false, ◌&&◌, cond}
use mathlib.Core.Path.{◌≡◌, refl}
use mathlib.Core.List.{List}
use native.Mathlib.Omega.{arith}
use borrow.Author.Tests.{ltb-false, eqb-false}
use lib.ListN.{length}
use Rattle.rules.specs.declared.{Part.Part}
use Rattle.rules.specs.Bounds.{message_most, pds_least, pds_most, gds_least, bms_least, bds_least}
use Rattle.rules.specs.Numbers.{number}
use Rattle.rules.specs.Table.{any_of}
use Rattle.rules.specs.Places.{after, the_end_start, pds_start, the_has_grid, the_has_bitmap, the_size_bad}
use Rattle.rules.specs.Places.{places_of, the_section_at}
use Rattle.rules.specs.Bitmap.{Lent}
use Rattle.laws.specs.Lengths.{section_faults, places_faults, lengths_bad}
use Rattle.laws.specs.Taken.{Taken, ReadsInside}
use Rattle.laws.proofs.Rows.{none_of, clash, is_true, is_eq, inside}
use Rattle.laws.proofs.Judged.{judged}

-- what row 5 leaves of a section, there or not
pub record Cut (there : Bool) (low : ℕ) (s : List ℕ) (p : Part) : Type 0 where
  pub says : p.len ≡ cond there (number s p.start 1 3) 0
  pub least : there ≡ true → low ≤ p.len
  pub even : there ≡ true → p.len % 2 ≡ 1 → ⊥

cut_of : (there : Bool) (end low : ℕ) (s : List ℕ) (p : Part) → p.len ≡ cond there (number s p.start 1 3) 0
    → (there && any_of (section_faults end low p)) ≡ false → Cut there low s p
unfolding section_faults
cut_of true end low s p e h =
    let f = none_of (section_faults end low p) h in
    record { says = e; least = λ q. ltb-false p.len low f.1.1.0; even = λ q. eqb-false (p.len % 2) 1 f.1.0 }
cut_of false end low s p e h = record { says = e; least = λ q. clash false q refl; even = λ q. clash false q refl }

-- where the sections of a taken message lie
pub record Sections (s : List ℕ) : Type 0 where
  pub pds : Cut true pds_least s (places_of s).pds
  pub gds : Cut (the_has_grid s pds_start) gds_least s (places_of s).gds
  pub bms : Cut (the_has_bitmap s pds_start) bms_least s (places_of s).bms
  pub bds : Cut true bds_least s (places_of s).bds
  pub most : (places_of s).pds.len ≤ pds_most
  pub at-pds : (places_of s).pds.start ≡ pds_start
  pub at-gds : (places_of s).gds.start ≡ pds_start + (places_of s).pds.len
  pub at-bms : (places_of s).bms.start ≡ (places_of s).gds.start + (places_of s).gds.len
  pub at-bds : (places_of s).bds.start ≡ (places_of s).bms.start + (places_of s).bms.len
  pub end : (places_of s).bds.start + (places_of s).bds.len + 4 ≡ length s

pub sections : (s : List ℕ) (lent : Lent) → Taken s lent → Sections s
unfolding lengths_bad places_faults places_of the_section_at the_size_bad
sections s lent t =
    let h = none_of _ (judged s lent t).lengths in
    let l = (inside 8 message_most (length s) (judged s lent t).size).0 in
    let e : after (places_of s).bds ≡ the_end_start s = is_eq _ _ h.1.1.1.1.1.0 in
    record {
      pds = cut_of true (the_end_start s) pds_least s (places_of s).pds refl h.0;
      gds = cut_of (the_has_grid s pds_start) (the_end_start s) gds_least s (places_of s).gds refl h.1.1.0;
      bms = cut_of (the_has_bitmap s pds_start) (the_end_start s) bms_least s (places_of s).bms refl h.1.1.1.0;
      bds = cut_of true (the_end_start s) bds_least s (places_of s).bds refl h.1.1.1.1.0;
      most = ltb-false pds_most (places_of s).pds.len h.1.0;
      at-pds = refl;
      at-gds = refl;
      at-bms = refl;
      at-bds = refl;
      end = omega (arith, l, e);
    }

pub reads-inside : ReadsInside
reads-inside s lent t =
    let c = sections s lent t in
    record {
      pds = c.pds.least refl;
      gds = λ g. c.gds.least (is_true (the_has_grid s pds_start) g);
      bms = λ b. c.bms.least (is_true (the_has_bitmap s pds_start) b);
      bds = c.bds.least refl;
      end = c.end;
    }
