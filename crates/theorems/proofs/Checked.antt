-- Demand 3: the check says yes exactly when the message is taken, the source well formed, both agree, the scales are in
-- range and each present point is near; each of the checker's rows there and back.
use Prim.Native.Nat.{ℕ, ◌*◌, ◌%◌, ◌≤◌}
use mathlib.Core.Bool.{Bool, false, not}
use mathlib.Core.Path.{◌≡◌, sym, subst, ◌∙◌, ap}
use mathlib.Core.List.{List, [], ◌∷◌}
use native.Mathlib.Omega.{arith}
use native.Mathlib.Nat.{mul-mod_left, mul-le-mul_right}
use borrow.Author.Tests.{ltb-false, le-ltb}
use lib.Dec.{eqb}
use lib.IntN.{ℤ, pos, nat_abs}
use lib.Signed.{lt_z}
use Rattle.bits.proofs.Below.{no-below}
use Rattle.rules.specs.declared.{Scale.Scale}
use Rattle.rules.specs.Bounds.{source_most, step_most}
use Rattle.rules.specs.Table.{Row, row, refusal, any_of}
use Rattle.rules.specs.Bitmap.{Lent, value_of}
use Rattle.rules.specs.Values.{unit, size_of, whole, whole_of}
use Rattle.rules.specs.Reading.{message_table, own_refusal, points_in, present_in, values_in, the_scale_in, decimal_in}
use Rattle.rules.specs.Checking.{Source, number_of, present_of, source_faults, the_decimal_differs, source_differs, scale_faults}
use Rattle.rules.specs.Checking.{far_from, point_out, check_table, check_of}
use Rattle.laws.specs.Tables.{Clear}
use Rattle.laws.specs.Sources.{AtPresent, Agrees, InRange}
use Rattle.theorems.specs.Checks.{Near, Passes, CheckExactly}
use Rattle.bits.proofs.Tests.{or_none}
use Rattle.laws.proofs.Rows.{numbered-append, clear, clear-parts, accepts, taken-by, first-after, any_none, not_eq}
use Rattle.laws.proofs.Judged.{own-numbered, rows}
use Rattle.laws.proofs.Whole.{lt_z_irrefl}
use Rattle.laws.proofs.Sources.{at_none, none-at, well_formed, formed_well}
use Rattle.laws.proofs.Agreed.{agrees, in_range}

-- 15
pub decimal-no : (a b : ℤ) → a ≡ b → the_decimal_differs a b ≡ false
decimal-no a b e =
    let r = lt_z_irrefl b in
    ap (λ (x : ℤ). the_decimal_differs x b) e ∙ or_none (lt_z b b) (lt_z b b) r r

agree : (s : List ℕ) (lent : Lent) (f : Source) → Agrees s lent f → any_of (source_differs s lent f) ≡ false
unfolding source_differs
agree s lent f h = any_none (source_differs s lent f) (
  not_eq _ _ h.points,
  (
    no-below (λ i. not (eqb (present_in s lent i) (present_of f i))) (points_in s) (λ i l. not_eq _ _ (h.marks i l)),
    (decimal-no (decimal_in s).value f.d h.d, tt),
  ),
)

-- 16
range_in : (c : Scale) → InRange c → any_of (scale_faults c) ≡ false
unfolding scale_faults whole
range_in c h = any_none (scale_faults c) (
  ap (λ (z : ℤ). lt_z z (pos 0)) h.is ∙ le-ltb h.e 0 (omega arith),
  (
    ap (λ (z : ℤ). lt_z (pos step_most) z) h.is ∙ le-ltb step_most h.e h.small,
    (
      not_eq _ _ (ap (λ (x : ℕ). x % unit) h.whole ∙ mul-mod_left h.m unit),
      (
        le-ltb (source_most * unit) (size_of c.r)
            (subst (λ (x : ℕ). x ≤ source_most * unit) (sym h.whole) (mul-le-mul_right unit h.bound)),
        tt,
      ),
    ),
  ),
)

-- 17
module _ (s : List ℕ) (lent : Lent) (f : Source) where
  abbrev far : ℕ → Bool
  far i = far_from (number_of f i) (whole_of (the_scale_in s).r) (value_of (values_in s lent) i) (nat_abs (the_scale_in s).e.value)

  near_of : point_out s lent f ≡ false → AtPresent f (Near s lent f)
  unfolding point_out far_from
  near_of e i l p = ltb-false _ _ (at_none f far e i l p)

  of-near : AtPresent f (Near s lent f) → point_out s lent f ≡ false
  unfolding point_out far_from
  of-near h = none-at f far (λ i l p. le-ltb _ _ (h i l p))

  abbrev four : List Row
  four =
      row 18 (any_of (source_faults f)) ∷ row 15 (any_of (source_differs s lent f))
      ∷ row 16 (any_of (scale_faults (the_scale_in s))) ∷ row 17 (point_out s lent f) ∷ []

  through : check_of s lent f ≡ refusal 0 → Clear (message_table s lent) × Clear four
  unfolding check_of check_table
  through e =
      clear-parts (message_table s lent) four
      (clear (check_table s lent f) (numbered-append (message_table s lent) four (own-numbered s lent) tt) (taken-by _ e))

  passes : check_of s lent f ≡ refusal 0 → Passes s lent f
  unfolding own_refusal
  passes e =
      let h = through e in
      let b = h.1 in
      record {
        taken = taken-by _ (accepts (message_table s lent) h.0);
        source = well_formed f b.0;
        agrees = agrees s lent f b.1.0;
        scale = in_range (the_scale_in s) b.1.1.0;
        near = near_of b.1.1.1.0;
      }

  yes-to : Passes s lent f → check_of s lent f ≡ refusal 0
  unfolding check_of check_table
  yes-to h =
      first-after (message_table s lent) four (rows s lent h.taken)
      ∙ accepts four (
        formed_well f h.source,
        (agree s lent f h.agrees, (range_in (the_scale_in s) h.scale, (of-near h.near, tt))),
      )

pub check_exactly : CheckExactly
check_exactly s lent f = (passes s lent f, yes-to s lent f)
