-- Demand 3: when the packer accepts, row by row; and whatever it writes passes the check against its own source: what
-- is written reads back, and at each present point X is near by the rounding law.
use Prim.Native.Nat.{ℕ, ◌*◌, ◌^◌, ◌≤◌, ◌<◌}
use mathlib.Core.Bool.{Bool, cond}
use mathlib.Core.Path.{◌≡◌, sym, ◌∙◌, ap}
use mathlib.Core.List.{List}
use mathlib.Core.Logic.{⊎_elim}
use native.Mathlib.Omega.{arith}
use borrow.Author.Tests.{ltb-false, le-ltb, eq-eqb}
use lib.Dec.{T, ltb}
use lib.IntN.{ℤ, pos, nat_abs, ◌-ℤ◌}
use lib.Signed.{lt_z}
use lib.ListN.{length, get_or}
use Rattle.bits.specs.Tables.{tab}
use Rattle.bits.proofs.Runs.{lt_or_ge}
use Rattle.bits.proofs.Fill.{length-tab, get_or-tab}
use Rattle.rules.specs.declared.{Signed.Signed, Form.Form}
use Rattle.rules.specs.Bounds.{step_most, flat_spread}
use Rattle.rules.specs.Numbers.{decimal_at}
use Rattle.rules.specs.Table.{refusal, first_or, first, accepted, any_of}
use Rattle.rules.specs.Places.{octets_of, places_of}
use Rattle.rules.specs.Bitmap.{Lent, value_of}
use Rattle.rules.specs.Points.{scattered}
use Rattle.rules.specs.Values.{size_of, whole_of, packing_faults}
use Rattle.rules.specs.Reading.{points_in, present_in, values_in, marks_in, the_scale_in}
use Rattle.rules.specs.Writing.{Parts, pds_faults, message, write_refusal}
use Rattle.rules.specs.RoundTrip.{parts_in}
use Rattle.rules.specs.Checking.{Source, number_of, present_of, source_faults, the_decimal_differs, check_of}
use Rattle.rules.specs.Packing.{reference, spelling_of, stepped, above, exponent, packed_at, packed_parts, pack_table}
use Rattle.rules.specs.Packing.{pack_refusal, pack_of, packed_after}
use Rattle.laws.specs.Taken.{Taken}
use Rattle.laws.specs.Sources.{AtPresent, WellFormed, Agrees, InRange}
use Rattle.theorems.specs.Checks.{Near, PackedPasses, Packable, PackExactly}
use Rattle.bits.proofs.Tests.{or_false}
use Rattle.laws.proofs.Rows.{passed, accepts, taken-by}
use Rattle.theorems.proofs.Replies.{handed-is}
use Rattle.theorems.proofs.Told.{decimal-same}
use Rattle.laws.proofs.Whole.{lt_z_antisym}
use Rattle.laws.proofs.Sources.{well_formed, formed_well}
use Rattle.laws.proofs.Lowest.{reference-under, reference-most}
use Rattle.theorems.proofs.Steps.{no-step-fits}
use Rattle.theorems.proofs.Offered.{offered, packing-none, rows}
use Rattle.theorems.proofs.Rounded.{near}
use Rattle.theorems.proofs.Spelled.{spelled_exactly}
use Rattle.theorems.proofs.ReadBack.{message-reads}
use Rattle.theorems.proofs.Checked.{decimal-no, check_exactly}

-- a step fits exactly where N is not 0 or the spread is under half of the greatest
spread-of : (f : Source) (bits : ℕ) → WellFormed f → exponent f bits ≤ step_most → bits ≡ 0
    → AtPresent f (λ i. above f i < flat_spread)
spread-of f bits ok l z i b p =
    ⊎_elim (λ h. h) (λ h. absurd (omega (arith, (no-step-fits f bits ok).1 (z, record { at = i; below = b; here = p; holds = h })))) (lt_or_ge (above f i) flat_spread)

of-spread : (f : Source) (bits : ℕ) → WellFormed f → (bits ≡ 0 → AtPresent f (λ i. above f i < flat_spread))
    → exponent f bits ≤ step_most
of-spread f bits ok h = ⊎_elim
    (λ l. let n = (no-step-fits f bits ok).0 l in let o = n.1 in absurd (omega (arith, h n.0 o.at o.below o.here, o.holds)))
    (λ g. g)
    (lt_or_ge step_most (exponent f bits))

module _ (pds : List ℕ) (form : Form) (lent : Lent) (f : Source) (out : List ℕ) where
  packable : T (accepted (pack_refusal pds form lent f out)) → Packable pds form lent f out
  unfolding pack_refusal pack_table first first_or write_refusal
  packable t =
      let d = (decimal_at pds 0).value in
      let e = exponent f form.packing.bits in
      let h5 = passed (refusal 5) (any_of (pds_faults pds)) _ tt t in
      let h18 = passed (refusal 18) (any_of (source_faults f)) _ tt h5.1 in
      let h15 = passed (refusal 15) (the_decimal_differs d f.d) _ tt h18.1 in
      let h11 = passed (refusal 11) (any_of (packing_faults form.packing)) _ tt h15.1 in
      let h19 = passed (refusal 19) (ltb step_most e) _ tt h11.1 in
      let q = or_false (lt_z d f.d) (lt_z f.d d) h15.0 in
      let ok = well_formed f h18.0 in
      record {
        source = ok;
        decimal = lt_z_antisym d f.d q.0 q.1;
        spread = spread-of f form.packing.bits ok (ltb-false step_most e h19.0);
        written = h19.1;
      }

  packs : Packable pds form lent f out → pack_refusal pds form lent f out ≡ refusal 0
  unfolding pack_refusal pack_table packed_parts
  packs h =
      let w = packed_parts pds form lent f in
      let o = offered w out h.written in
      let e = exponent f form.packing.bits in
      accepts (pack_table pds form lent f out) (
        o.pds,
        (
          formed_well f h.source,
          (
            decimal-no (decimal_at pds 0).value f.d h.decimal,
            (
              packing-none w out o,
              (le-ltb step_most e (of-spread f form.packing.bits h.source h.spread), rows w out h.written),
            ),
          ),
        ),
      )

pub pack_exactly : PackExactly
pack_exactly pds form lent f out = (packable pds form lent f out, λ h. taken-by _ (packs pds form lent f out h))

near_same : (v r q : ℤ) (x y e d : ℕ) → r ≡ q → x ≡ y → e ≡ d → 2 * nat_abs (v -ℤ q -ℤ pos (y * 2 ^ d)) ≤ 2 ^ d
    → 2 * nat_abs (v -ℤ r -ℤ pos (x * 2 ^ e)) ≤ 2 ^ e
near_same v r q x y e d h k l n = rw (h, k, l) n

module _ (pds : List ℕ) (form : Form) (lent : Lent) (f : Source) (s : List ℕ) (t : Taken s lent)
    (same : parts_in s lent ≡ packed_parts pds form lent f) where
  abbrev E : ℕ
  E = exponent f form.packing.bits

  -- what reading back gives
  pds-is : octets_of s (places_of s).pds ≡ pds
  unfolding parts_in packed_parts
  pds-is = ap (λ (w : Parts). w.pds) same

  e-is : (the_scale_in s).e.value ≡ pos E
  unfolding parts_in packed_parts
  e-is = ap (λ (w : Parts). w.scale.e.value) same

  r-is : (the_scale_in s).r ≡ spelling_of (reference f)
  unfolding parts_in packed_parts
  r-is = ap (λ (w : Parts). w.scale.r) same

  values-is : values_in s lent ≡ tab (packed_at f E) (length f.numbers)
  unfolding parts_in packed_parts
  values-is = ap (λ (w : Parts). w.values) same

  marks-is : marks_in s lent ≡ f.marks
  unfolding parts_in packed_parts
  marks-is = ap (λ (w : Parts). w.marks) same

  points-same : length f.numbers ≡ points_in s
  unfolding values_in scattered
  points-same =
      sym (length-tab (packed_at f E) (length f.numbers)) ∙ ap length (sym values-is) ∙ length-tab _ (points_in s)

  present-same : (i : ℕ) → i < points_in s → present_in s lent i ≡ present_of f i
  unfolding marks_in
  present-same i l = sym (get_or-tab (present_in s lent) (points_in s) i 0 l) ∙ ap (λ (m : List ℕ). get_or m i 0) marks-is

  value_same : AtPresent f (λ i. value_of (values_in s lent) i ≡ stepped E (above f i))
  unfolding packed_at
  value_same i l p =
      ap (λ (v : List ℕ). get_or v i 0) values-is ∙ get_or-tab (packed_at f E) (length f.numbers) i 0 l
      ∙ ap (λ (b : Bool). cond b (stepped E (above f i)) 0) (eq-eqb (present_of f i) 1 p)

  agreed : (decimal_at pds 0).value ≡ f.d → Agrees s lent f
  agreed d = record { points = points-same; marks = present-same; d = ap (λ (z : Signed). z.value) (decimal-same s pds lent t pds-is) ∙ d }

  module _ (ok : WellFormed f) where
    ranged : E ≤ step_most → InRange (the_scale_in s)
    ranged m =
        let h = spelled_exactly (reference f) (reference-most f ok) in
        record { e = E; is = e-is; small = m; m = nat_abs (reference f); whole = ap size_of r-is ∙ h.whole; bound = reference-most f ok }

    nearby : AtPresent f (Near s lent f)
    unfolding above
    nearby i l p =
        near_same (number_of f i) _ (reference f) _ (stepped E (above f i)) _ E
        (ap whole_of r-is ∙ (spelled_exactly (reference f) (reference-most f ok)).is)
        (value_same i l p)
        (ap nat_abs e-is)
        (near E (number_of f i) (reference f) (reference-under f i l p))

pub packed-passes : PackedPasses
unfolding packed_parts pack_of packed_after
packed-passes pds form lent f out hg hn t =
    let k = packable pds form lent f out t in
    let w = packed_parts pds form lent f in
    let fits = (spelled_exactly (reference f) (reference-most f k.source)).fits in
    let r = message-reads w out hg hn fits k.written in
    ap (λ (s : List ℕ). check_of s lent f) (handed-is (pack_refusal pds form lent f out) (message w) out t)
    ∙ (check_exactly (message w) lent f).1 (record {
      taken = r.0;
      source = k.source;
      agrees = agreed pds form lent f (message w) r.0 r.1 k.decimal;
      scale = ranged pds form lent f (message w) r.0 r.1 k.source
          (of-spread f form.packing.bits k.source k.spread);
      near = nearby pds form lent f (message w) r.0 r.1 k.source;
    })
