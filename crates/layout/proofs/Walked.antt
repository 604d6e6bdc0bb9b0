-- The sections of a message lie where their places can be told, since a length is below 2^24; and the walk's rows are
-- those of its sections, one after another.
use Prim.Native.Nat.{ℕ, ◌<◌}
use mathlib.Core.Path.{◌≡◌, refl, sym, subst, ◌∙◌, ap}
use mathlib.Core.Bool.{Bool, true, false}
use mathlib.Core.List.{List}
use native.Mathlib.Omega.{arith}
use Rattle.octets.proofs.Numbers.{three-lt}
use Rattle.rules.specs.declared.{Places.Places, Refusal.Refusal}
use Rattle.rules.specs.Table.{first_or}
use Rattle.rules.specs.Places.{after, pds_start, the_has_grid, the_has_bitmap, the_section_at, places_of}
use Rattle.rules.specs.Walk.{pds_rows, gds_rows, bms_rows, bds_rows, left_rows, walk_rows}
use Rattle.reply.proofs.Stages.{or_append}
use Rattle.layout.specs.Parts.{PlacesFit}

small : (s : List ℕ) (there : Bool) (start : ℕ) → (the_section_at s there start).len < 16777216
unfolding the_section_at
small s true start = three-lt s _ _ refl
small s false start = omega arith

pub near : (s : List ℕ) (p : Places) → p ≡ places_of s → PlacesFit p
unfolding places_of the_section_at
near s p e = subst PlacesFit (sym e) (record {
  pds = omega arith;
  gds = omega (arith, small s true pds_start);
  bms = omega (arith, small s true pds_start, small s (the_has_grid s pds_start) (after (places_of s).pds));
  bds = omega (
    arith,
    small s true pds_start,
    small s (the_has_grid s pds_start) (after (places_of s).pds),
    small s (the_has_bitmap s pds_start) (after (places_of s).gds),
    small s true (after (places_of s).bms),
  );
})

module _ (end : ℕ) (grid bitmap : Bool) (p : Places) (below : Refusal) where
  pub walked : (over bds bms gds pds : Refusal) → over ≡ first_or (left_rows end p) below
      → bds ≡ first_or (bds_rows end p) over → bms ≡ first_or (bms_rows end bitmap p) bds
      → gds ≡ first_or (gds_rows end grid p) bms → pds ≡ first_or (pds_rows end p) gds
      → pds ≡ first_or (walk_rows end grid bitmap p) below
  unfolding walk_rows
  walked over bds bms gds pds eo ed em eg ep =
      ep
      ∙ ap (first_or (pds_rows end p))
      (eg ∙ ap (first_or (gds_rows end grid p))
      (em ∙ ap (first_or (bms_rows end bitmap p)) (ed ∙ ap (first_or (bds_rows end p)) eo)))
      ∙ sym (or_append (pds_rows end p) _ below
      ∙ ap (first_or (pds_rows end p)) (or_append (gds_rows end grid p) _ below
      ∙ ap (first_or (gds_rows end grid p)) (or_append (bms_rows end bitmap p) _ below
      ∙ ap (first_or (bms_rows end bitmap p)) (or_append (bds_rows end p) (left_rows end p) below))))
