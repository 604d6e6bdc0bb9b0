-- The packer's table, answer and lent octets after each way out: by rows 5, 18, 15, 11 or 19, or as the writer's over
-- the list of X, which 18 and 19 leave within N bits.
use Rattle.std.specs.Prelude.{Result, Ok, Err}
use mathlib.Core.Path.{◌≡◌, sym, ap, ap₂, ◌∙◌, subst}
use mathlib.Core.Bool.{Bool, true, false, cond}
use mathlib.Core.List.{List, ◌∷◌}
use Prim.Native.Nat.{ℕ, ◌^◌, ◌≤◌, ◌<◌}
use native.Mathlib.Omega.{arith}
use native.Mathlib.Decide.{ℕ_discrete}
use borrow.Author.Tests.{ne_eqb, eq-eqb, lt-ltb, le-ltb}
use lib.Dec.{eqb, ltb}
use lib.IntN.{ℤ, pos, nat_abs, ◌-ℤ◌}
use lib.Pow.{pow_pos}
use mir.Syntax.{w32}
use mir.Val.{SFits, to_z, of_z}
use mir.Facts.{to_z-of_z}
use lib.ListN.{length, get_or}
use Rattle.rules.specs.declared.{Refusal.Refusal, Form.Form, Packing.Packing, Scale.Scale, Signed.Signed}
use Rattle.rules.specs.Answers.{judged, length_reply}
use Rattle.rules.specs.Bounds.{source_most, step_most}
use Rattle.rules.specs.Numbers.{plain, beyond}
use Rattle.rules.specs.Table.{Row, row, refusal, accepted, first, first_or, filled}
use Rattle.rules.specs.Bitmap.{Lent, mark_of}
use Rattle.rules.specs.Writing.{Parts, message, write_table, write_refusal, write_of, output_after, length_of}
use Rattle.rules.specs.Checking.{Source}
use Rattle.rules.specs.Packing.{reference, spelling_of, stepped, above, exponent, packed_at, packed_parts, pack_table}
use Rattle.rules.specs.Packing.{pack_refusal, pack_of, packed_after}
use Rattle.laws.specs.Sources.{WellFormed}
use Rattle.laws.proofs.Sources.{well_formed}
use Rattle.laws.proofs.Lowest.{reference-most}
use Rattle.laws.proofs.Steps.{step_fits}
use Rattle.laws.proofs.Whole.{beyond-no}
use Rattle.source.specs.Whole.{spelling_from}
use Rattle.reply.proofs.Stages.{or_append}
use Rattle.reply.proofs.Judged.{stops, goes_on, passed, passed_over, refused_first}
use Rattle.laws.proofs.Rows.{Numbered}
use Rattle.framing.specs.Given.{parts}
use Rattle.writable.specs.Listed.{Listed}
use Rattle.packer.specs.Scaled.{scaled_from, pack_rows}
use Rattle.writable.proofs.Accepted.{PointOk, listed_of}
use Rattle.packer.proofs.Stepped.{length-scaled, scaled_at}

point-scaled : (bits mark x value : ℕ) → mark ≤ 1 → value ≡ cond (eqb mark 1) x 0 → (mark ≡ 1 → x < 2 ^ bits)
    → PointOk bits mark value
point-scaled bits mark x value m e h = record {
  mark = omega arith;
  away = λ z. e ∙ ap (λ (t : Bool). cond t x 0) (ne_eqb mark 1 (λ o. omega arith));
  value = elim (ℕ_discrete mark 1) [
    | yes o ↦ subst (λ (y : ℕ). y < 2 ^ bits) (sym (e ∙ ap (λ (t : Bool). cond t x 0) (eq-eqb mark 1 o))) (h o)
    | no o ↦ subst (λ (y : ℕ). y < 2 ^ bits) (sym (e ∙ ap (λ (t : Bool). cond t x 0) (ne_eqb mark 1 o))) (pow_pos bits)
  ];
}

-- D as code hands it on
pub source-same : (pds : List ℕ) (packing : Packing) (numbers : List ℤ) (marks : List ℕ) (d : ℤ) → SFits w32 d
    → (r : Result (Unit {0}) Refusal)
    → r ≡ judged (pack_rows pds packing (record { numbers = numbers; marks = marks; d = to_z w32 (of_z w32 d) }))
    → r ≡ judged (pack_rows pds packing (record { numbers = numbers; marks = marks; d = d }))
source-same pds packing numbers marks d h r e =
    e ∙ ap (λ (x : ℤ). judged (pack_rows pds packing (record { numbers = numbers; marks = marks; d = x }))) (to_z-of_z h)

module _ (pds : List ℕ) (form : Form) (number : ℕ) (store : List ℕ) (numbers : List ℤ) (marks : List ℕ) (d : ℤ)
    (out : List ℕ) where
  abbrev f : Source
  f = record { numbers = numbers; marks = marks; d = d }

  abbrev lent : Lent
  lent = record { number = number; octets = store }

  abbrev bits : ℕ
  bits = form.packing.bits

  abbrev rows : List Row
  rows = pack_rows pds form.packing f

  abbrev later : List Row
  later = row 19 (ltb step_most (exponent f bits)) ∷ write_table (packed_parts pds form lent f) out

  numbered : Numbered (pack_table pds form lent f out)
  unfolding pack_table write_table
  numbered = tt

  -- what the rows say of the table's refusal
  refusal_is : (r : Refusal) → Err r ≡ judged (pack_table pds form lent f out)
      → (pack_refusal pds form lent f out ≡ r) × (accepted r ≡ false)
  unfolding pack_refusal
  refusal_is r e = refused_first (pack_table pds form lent f out) numbered r e

  refused : (r : Refusal) → Err r ≡ judged (pack_table pds form lent f out)
      → (Err r ≡ length_reply (pack_of pds form lent f out)) × (out ≡ packed_after pds form lent f out)
  unfolding pack_of packed_after length_of filled
  refused r e = let t = refusal_is r e in (rw (t.0, t.1), rw (t.0, t.1))

  pub pack-early : (r : Refusal) → Err r ≡ judged rows
      → (Err r ≡ length_reply (pack_of pds form lent f out)) × (out ≡ packed_after pds form lent f out)
  unfolding pack_table pack_rows
  pack-early r e = refused r (stops rows later r e)

  module _ (u : Unit {0}) (eu : Ok u ≡ judged rows) where
    on : (q : Refusal) → q ≡ first_or later (refusal 0) → pack_refusal pds form lent f out ≡ q
    unfolding pack_refusal pack_table first pack_rows
    on q e = or_append rows later (refusal 0) ∙ passed_over rows u eu (first_or later (refusal 0)) ∙ sym e

    formed : WellFormed f
    unfolding pack_rows
    formed = well_formed f (passed rows u eu).1.0

    module _ (e : ℕ) (ee : e ≡ exponent f bits) where
      pub pack_19 : step_most < e
          → (Err (refusal 19) ≡ length_reply (pack_of pds form lent f out)) × (out ≡ packed_after pds form lent f out)
      unfolding judged pack_table pack_rows
      pack_19 l =
          let t : ltb step_most (exponent f bits) ≡ true = lt-ltb step_most (exponent f bits) (omega arith) in
          let k : Err (refusal 19) ≡ judged later = rw t in
          refused (refusal 19) (k ∙ goes_on rows later u eu)

      module _ (l : e ≤ step_most) (ρ : ℤ) (eρ : ρ ≡ reference f) where
        pub listed : Listed (scaled_from numbers marks ρ e) marks bits
        unfolding above
        listed =
            let ok = formed in
            listed_of (scaled_from numbers marks ρ e) marks bits (length numbers) (length-scaled numbers marks ρ e)
            (sym ok.lists) ok.most
            (λ i k. point-scaled bits (mark_of marks i) (stepped e (nat_abs (get_or numbers i (pos 0) -ℤ ρ))) _
            (ok.marks i k) (scaled_at numbers marks ρ e i k)
            (λ h. subst (λ (x : ℕ). x < 2 ^ bits)
            (ap₂ (λ (a : ℕ) (b : ℤ). stepped a (nat_abs (get_or numbers i (pos 0) -ℤ b))) (sym ee) (sym eρ))
            (step_fits f bits (subst (λ (x : ℕ). x ≤ step_most) ee l) i k h)))

        same : (scale : Scale) → scale.e ≡ plain (pos e) → scale.r ≡ spelling_from ρ
            → parts pds form scale number store (scaled_from numbers marks ρ e) marks ≡ packed_parts pds form lent f
        unfolding packed_parts packed_at above scaled_from spelling_from
        same scale p q =
            let b : beyond source_most ρ ≡ false = subst (λ (x : ℤ). beyond source_most x ≡ false) (sym eρ) (beyond-no source_most (reference f) (reference-most f formed)) in
            let s : scale.r ≡ spelling_of (reference f) = q ∙ ap (λ (t : Bool). cond t 0 (spelling_of ρ)) b ∙ ap spelling_of eρ in
            ap₂ {C = Parts} (λ (x : Signed) (y : ℕ). parts pds form (record { e = x; r = y }) number store (scaled_from numbers marks ρ e) marks) (p ∙ ap (λ (x : ℕ). plain (pos x)) ee) s
            ∙ ap₂ {C = Parts} (λ (x : ℤ) (y : ℕ). parts pds form (record { e = plain (pos (exponent f bits)); r = spelling_of (reference f) }) number store (scaled_from numbers marks x y) marks) eρ ee

        pub pack-done : (scale : Scale) → scale.e ≡ plain (pos e) → scale.r ≡ spelling_from ρ → (w : Result ℕ Refusal)
            → w ≡ length_reply (write_of (parts pds form scale number store (scaled_from numbers marks ρ e) marks) out)
            → (o : List ℕ)
            → o ≡ output_after (parts pds form scale number store (scaled_from numbers marks ρ e) marks) out
            → (w ≡ length_reply (pack_of pds form lent f out)) × (o ≡ packed_after pds form lent f out)
        unfolding pack_of packed_after write_of output_after write_refusal first first_or
        pack-done scale p q w ew o eo =
            let s = same scale p q in
            let t : ltb step_most (exponent f bits) ≡ false = le-ltb step_most (exponent f bits) (omega arith) in
            let k : pack_refusal pds form lent f out ≡ write_refusal (packed_parts pds form lent f) out = on (write_refusal (packed_parts pds form lent f) out) (rw t) in (
              ew ∙ ap (λ (x : Parts). length_reply (write_of x out)) s
                  ∙ sym (ap (λ (x : Refusal). length_reply (length_of x (message (packed_parts pds form lent f)))) k),
              eo ∙ ap (λ (x : Parts). output_after x out) s
                  ∙ sym (ap (λ (x : Refusal). filled x (message (packed_parts pds form lent f)) out) k),
            )
