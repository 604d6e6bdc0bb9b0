-- What the packer replies: 19 exactly when the rows above it pass and no E fits, since no other row has that number;
-- and by each number once, since what the writer's 5 and 11 ask has passed before.
use Prim.Native.Nat.{ℕ}
use mathlib.Core.Bool.{Bool, true, false, cond}
use mathlib.Core.Path.{◌≡◌, refl, subst, ◌∙◌, ap}
use mathlib.Core.List.{List, [], ◌∷◌}
use native.Mathlib.Omega.{arith}
use borrow.Author.Tests.{ltb-true, ltb-false, lt-ltb, eqb-false}
use lib.Dec.{ltb, eqb}
use lib.IntN.{pos}
use lib.Signed.{lt_z}
use Rattle.rules.specs.declared.{Refusal.Refusal, Form.Form}
use Rattle.rules.specs.Bounds.{step_most, exponent_most}
use Rattle.rules.specs.Numbers.{decimal_at, beyond}
use Rattle.rules.specs.Table.{refusal, first_or, first, any_of}
use Rattle.rules.specs.Bitmap.{Lent}
use Rattle.rules.specs.Time.{time_faults}
use Rattle.rules.specs.Grid.{the_grid_missing, grid_or_zeros, grid_faults}
use Rattle.rules.specs.Values.{packing_faults}
use Rattle.rules.specs.Writing.{Parts, grid_for, points_for, pds_faults, stored_faults, write_table}
use Rattle.rules.specs.Checking.{Source, source_faults, the_decimal_differs}
use Rattle.rules.specs.Packing.{exponent, packed_parts, pack_table, pack_refusal}
use Rattle.theorems.specs.Replies.{Among, once_table, PackerOnce}
use Rattle.theorems.specs.Checks.{NothingFits, NoStepReply}
use Rattle.bits.proofs.Tests.{or_false}
use Rattle.laws.proofs.Rows.{none_of, any_none}
use Rattle.theorems.proofs.Replies.{reply-among}
use Rattle.theorems.proofs.Among.{not-among}
use Rattle.laws.proofs.Whole.{lt_z_antisym, beyond-no}
use Rattle.laws.proofs.Sources.{well_formed, formed_well}
use Rattle.theorems.proofs.Steps.{no-step-fits}
use Rattle.theorems.proofs.Checked.{decimal-no}

-- a reply of another number than this row's: the row does not apply
pub not_this : (n k : ℕ) (test : Bool) (below : Refusal) → eqb n k ≡ false → cond test (refusal n) below ≡ refusal k
    → (test ≡ false) × (below ≡ refusal k)
not_this n k true below d e = absurd (eqb-false n k d (ap (λ (r : Refusal). r.number) e))
not_this n k false below d e = (refl, e)

-- a reply that no row below gives: this row applies
this_row : (n : ℕ) (test : Bool) (below : Refusal) → (below ≡ refusal n → ⊥) → cond test (refusal n) below ≡ refusal n
    → test ≡ true
this_row n true below h e = refl
this_row n false below h e = absurd (h e)

no_19 : (w : Parts) (out : List ℕ) → first (write_table w out) ≡ refusal 19 → ⊥
unfolding write_table
no_19 w out e =
    not-among 19 (0 ∷ 5 ∷ 6 ∷ 7 ∷ 9 ∷ 10 ∷ 11 ∷ 13 ∷ 14 ∷ []) tt
    (subst (λ (r : Refusal). Among r.number (0 ∷ 5 ∷ 6 ∷ 7 ∷ 9 ∷ 10 ∷ 11 ∷ 13 ∷ 14 ∷ [])) e
    (reply-among (write_table w out)))

-- a row that does not apply, and one that does
passes_on : (test : Bool) (r below : Refusal) → test ≡ false → cond test r below ≡ below
passes_on test r below e = ap (λ (t : Bool). cond t r below) e

under : (test : Bool) (r a b : Refusal) → (test ≡ false → a ≡ b) → cond test r a ≡ cond test r b
under true r a b h = refl
under false r a b h = h refl

module _ (pds : List ℕ) (form : Form) (lent : Lent) (f : Source) (out : List ℕ) where
  abbrev D : Bool
  D = the_decimal_differs (decimal_at pds 0).value f.d

  abbrev E : ℕ
  E = exponent f form.packing.bits

  abbrev w : Parts
  w = packed_parts pds form lent f

  nothing-fits : pack_refusal pds form lent f out ≡ refusal 19 → NothingFits pds form f
  unfolding pack_refusal pack_table first first_or
  nothing-fits e =
      let h5 = not_this 5 19 (any_of (pds_faults pds)) _ refl e in
      let h18 = not_this 18 19 (any_of (source_faults f)) _ refl h5.1 in
      let h15 = not_this 15 19 D _ refl h18.1 in
      let h11 = not_this 11 19 (any_of (packing_faults form.packing)) _ refl h15.1 in
      let h19 = this_row 19 (ltb step_most E) _ (no_19 w out) h11.1 in
      let q = or_false (lt_z (decimal_at pds 0).value f.d) (lt_z f.d (decimal_at pds 0).value) h15.0 in
      let ok = well_formed f h18.0 in
      let n = (no-step-fits f form.packing.bits ok).0 (ltb-true step_most E h19) in
      record {
        pds-passes = h5.0;
        source = ok;
        decimal = lt_z_antisym _ f.d q.0 q.1;
        packing = h11.0;
        flat = n.0;
        spread = n.1;
      }

  fits-nothing : NothingFits pds form f → pack_refusal pds form lent f out ≡ refusal 19
  unfolding pack_refusal pack_table first first_or
  fits-nothing h =
      passes_on (any_of (pds_faults pds)) (refusal 5) _ h.pds-passes
      ∙ passes_on (any_of (source_faults f)) (refusal 18) _ (formed_well f h.source)
      ∙ passes_on D (refusal 15) _ (decimal-no (decimal_at pds 0).value f.d h.decimal)
      ∙ passes_on (any_of (packing_faults form.packing)) (refusal 11) _ h.packing
      ∙ ap (λ (t : Bool). cond t (refusal 19) (first (write_table w out)))
      (lt-ltb step_most E ((no-step-fits f form.packing.bits h.source).1 (h.flat, h.spread)))

  -- the writer's 11 of an E that 19 does not refuse
  scale-passes : any_of (packing_faults form.packing) ≡ false → ltb step_most E ≡ false
      → any_of (beyond exponent_most (pos E) ∷ packing_faults form.packing) ≡ false
  scale-passes p e =
      any_none (beyond exponent_most (pos E) ∷ packing_faults form.packing) (
        beyond-no exponent_most (pos E) (omega (arith, ltb-false step_most E e)),
        none_of (packing_faults form.packing)
            p,
      )

  once : pack_refusal pds form lent f out ≡ first (once_table pds form lent f out)
  unfolding pack_refusal pack_table write_table first first_or packed_parts
  once =
      under (any_of (pds_faults pds)) (refusal 5) _ _ λ e5. under (any_of (source_faults f)) (refusal 18) _ _ λ e18. under D
      (refusal 15) _ _ λ e15.
      under (any_of (packing_faults form.packing)) (refusal 11) _ _ λ e11. under (ltb step_most E) (refusal 19) _ _
      λ e19.
      passes_on (any_of (pds_faults pds)) (refusal 5) _ e5
      ∙ under (any_of (time_faults pds 0)) (refusal 6) _ _ λ e6. under (the_grid_missing (grid_for w)) (refusal 7) _ _ λ e7.
      under (any_of (grid_faults (grid_or_zeros (grid_for w)))) (refusal 9) _ _ λ e9.
      under (any_of (stored_faults form.bitmap lent w.values f.marks (points_for w))) (refusal 10) _ _ λ e10.
      passes_on _ (refusal 11) _ (scale-passes e11 e19)

pub no-step-reply : NoStepReply
no-step-reply pds form lent f out = (nothing-fits pds form lent f out, fits-nothing pds form lent f out)

pub packer-once : PackerOnce
unfolding pack_table write_table
packer-once pds form lent f out = (once pds form lent f out, refl)
