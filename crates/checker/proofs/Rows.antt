-- Each of the checker's rows as code judges it, from what the header of a taken message says.
use Rattle.std.specs.Prelude.{Ok}
use mathlib.Core.Path.{◌≡◌, refl, sym, ap, ap₂, ◌∙◌, subst}
use mathlib.Core.Bool.{Bool, true, false, not, ◌||◌, cond, or_assoc}
use mathlib.Core.List.{List}
use Prim.Native.Nat.{ℕ, zero, suc, ◌+◌, ◌-◌, ◌*◌, ◌^◌, ◌<◌, ◌≤◌}
use native.Mathlib.Omega.{arith}
use borrow.Author.Tests.{eqb-true}
use lib.Dec.{T, eqb, ltb, lit<}
use lib.IntN.{ℤ, pos, neg_ℤ, nat_abs}
use lib.Signed.{mag, non_neg, lt_z}
use lib.ListN.{length}
use mir.Syntax.{w32}
use mir.Val.{to_z, of_z}
use mir.Facts.{to_z-of_z}
use Rattle.bits.proofs.Tests.{or_right}
use Rattle.bits.specs.Bits.{bits_in, run}
use Rattle.bits.specs.Tables.{any_below}
use Rattle.bits.proofs.Runs.{run-lt, bits_in-bits}
use Rattle.rules.specs.declared.{Places.Places, Bitmap.Bitmap, Packing.Packing, Scale.Scale, Signed.Signed, Header.Header}
use Rattle.rules.specs.Answers.{header_reply}
use Rattle.rules.specs.Bounds.{bds_head, the_bits_most, step_most}
use Rattle.bitreader.specs.Taken.{the_data_place as data_from}
use Rattle.bitreader.proofs.Places.{data_begins}
use Rattle.rules.specs.Table.{any_of, or_all}
use Rattle.rules.specs.Numbers.{signed}
use Rattle.rules.specs.Places.{pds_start, the_has_grid, the_has_bitmap, places_of, the_section_at, after}
use Rattle.rules.specs.Bitmap.{Lent, mark_of, present_by, bitmap_octets, in_force}
use Rattle.rules.specs.Values.{whole_of}
use Rattle.rules.specs.Reading.{header_of, found_in, found_by, points_in, bitmap_in, in_force_in, present_in, packing_in}
use Rattle.rules.specs.Reading.{decimal_in}
use Rattle.rules.specs.Checking.{Source, source_faults, the_decimal_differs, source_differs, scale_faults, point_out}
use Rattle.laws.proofs.Data.{the_data_place}
use Rattle.laws.proofs.Sources.{well_formed}
use Rattle.laws.proofs.Agreed.{agrees, in_range}
use Rattle.message.proofs.Said as S
use Rattle.source.specs.Whole.{the_whole_bad, whole_from}
use Rattle.checker.specs.Points.{out}
use Rattle.checker.proofs.Present.{point-out}

-- 16, of E read back as z and of R
pub scale-is : (c : Scale) (z : ℤ) (w : Bool) → z ≡ c.e.value → w ≡ the_whole_bad c.r
    → lt_z z (pos 0) || lt_z (pos step_most) z || w ≡ any_of (scale_faults c)
unfolding any_of or_all scale_faults the_whole_bad
scale-is c z w e h = rw (e, h) (sym (or_assoc (lt_z c.e.value (pos 0) || lt_z (pos step_most) c.e.value) _ _))

-- E, read back as z, and R, once 16 has passed
module _ (c : Scale) (h : any_of (scale_faults c) ≡ false) where
  pub step_is : (z : ℤ) → z ≡ c.e.value → T (non_neg z) × (nat_abs z ≤ step_most)
  step_is z e = let r = in_range c h in rw (e ∙ r.is) (tt, r.small)

  pub whole_is : whole_from c.r ≡ whole_of c.r
  unfolding whole_from
  whole_is = let b : the_whole_bad c.r ≡ false = or_right (lt_z c.e.value (pos 0) || lt_z (pos step_most) c.e.value) (the_whole_bad c.r) (scale-is c _ _ refl refl ∙ h) in rw b

-- E for the walk
pub step-none : (c : Scale) (b : Bool) → b ≡ any_of (scale_faults c) → b ≡ true
    → (0 ≤ step_most) × (any_of (scale_faults c) ≡ false → 0 ≡ nat_abs c.e.value)
step-none c b e t = (omega arith, λ f. absurd (subst T (sym t ∙ e ∙ f) tt))

pub step-some : (c : Scale) (b : Bool) (z : ℤ) → z ≡ c.e.value → b ≡ any_of (scale_faults c) → b ≡ false
    → (nat_abs z ≤ step_most) × (any_of (scale_faults c) ≡ false → nat_abs z ≡ nat_abs c.e.value)
step-some c b z e p t = ((step_is c (sym p ∙ t) z e).1, λ f. ap nat_abs e)

-- D fits
mag_neg : (m : ℕ) → mag (neg_ℤ (pos m)) ≤ m
mag_neg zero = omega arith
mag_neg (suc m) = omega arith

signed-fits : (b : Bool) (v w k : ℕ) → v < k → w < k → mag (cond b (pos v) (neg_ℤ (pos w))) < k
signed-fits true v w k p q = p
signed-fits false v w k p q = omega (arith, mag_neg w)

decimal-fits : (s : List ℕ) → mag (decimal_in s).value < 2147483648
unfolding decimal_in signed
decimal-fits s =
    let l = run-lt (bits_in-bits 8 s) ((8 + 26) * 8) 16 in
    let v = run (bits_in 8 s) ((8 + 26) * 8) 16 in
    signed-fits (ltb v 32768) v (v - 32768) 2147483648 (omega arith) (omega arith)

-- where the data start, whatever the octets are
length-small : (s : List ℕ) (there : Bool) (p : ℕ) → (the_section_at s there p).len < 16777216
unfolding the_section_at
length-small s true p = run-lt (bits_in-bits 8 s) _ 24
length-small s false p = lit< tt

after_small : (s : List ℕ) (there : Bool) (p : ℕ) → after (the_section_at s there p) ≤ p + 16777215
unfolding the_section_at
after_small s there p = let l = length-small s there p in omega arith

start_is : (s : List ℕ) (there : Bool) (p : ℕ) → (the_section_at s there p).start ≡ p
unfolding the_section_at
start_is s there p = refl

pub start_small : (s : List ℕ) → (places_of s).bds.start < 2 ^ 26
unfolding places_of
start_small s =
    let a = after_small s true 8 in
    let b = after_small s (the_has_grid s pds_start) (after (the_section_at s true 8)) in
    let c = after_small s (the_has_bitmap s pds_start) (after (the_section_at s (the_has_grid s pds_start) (after (the_section_at s true 8)))) in
    subst (λ (x : ℕ). x < 2 ^ 26) (sym (start_is s true _)) (omega arith)

-- where the data are, from the header
module _ (s : List ℕ) (lent : Lent) (h : Header) (e : Ok h ≡ header_reply (header_of s lent)) where
  pub bits_most : h.packing.bits ≤ the_bits_most
  bits_most = S.narrow s lent h e

  data_start : h.places.bds.start < 2 ^ 26
  data_start = subst (λ (x : Places). x.bds.start < 2 ^ 26) (sym (S.places-of s lent h e)) (start_small s)

  pub data_begun : (at : ℕ) → at ≡ data_from h.places.bds.start → at ≡ (h.places.bds.start + bds_head) * 8
  data_begun at q = q ∙ data_begins h.places.bds.start (omega (arith, data_start))

  pub data_early : (at : ℕ) → at ≡ data_from h.places.bds.start → at < 2 ^ 31
  data_early at q = omega (arith, data_start, data_begun at q)

-- 15 and 17, from the header
module _ (s : List ℕ) (lent : Lent) (h : Header) (e : Ok h ≡ header_reply (header_of s lent))
    (numbers : List ℤ) (marks : List ℕ) (d : ℤ) where
  abbrev source : Source
  source = record { numbers = numbers; marks = marks; d = d }

  points-of : h.points ≡ points_in s
  points-of = S.points-of s lent h e

  d-of : h.d ≡ decimal_in s
  unfolding found_in found_by
  d-of = ap (λ (x : Header). x.d) (S.said s lent h e)

  -- 15
  pub differ-is : (dv : ℤ) → dv ≡ d → (u t : Bool) → t ≡ the_decimal_differs (to_z w32 (of_z w32 h.d.value)) dv
      → u ≡ any_below
      (λ i. not
      (eqb (present_by h.bitmap
      (bitmap_octets s lent.octets (in_force h.bitmap h.places.bms (length numbers))) i) (mark_of marks i)))
      (length numbers)
      → not (eqb (length numbers) h.points) || u || t ≡ any_of (source_differs s lent source)
  unfolding any_of or_all source_differs present_in in_force_in
  differ-is dv ed u t et eu =
      ap (λ (y : ℕ). not (eqb (length numbers) y) || u || t) points-of ∙ go (eqb (length numbers) (points_in s)) refl
    where
      decimal : t ≡ the_decimal_differs (decimal_in s).value d
      decimal = et ∙ ap₂ the_decimal_differs (ap (λ (x : Signed). to_z w32 (of_z w32 x.value)) d-of ∙ to_z-of_z {w = w32} {z = (decimal_in s).value} (record { sfits = decimal-fits s })) ed

      alike : length numbers ≡ points_in s
          → u ≡ any_below
          (λ i. not
          (eqb (present_by (bitmap_in s)
          (bitmap_octets s lent.octets (in_force (bitmap_in s) (places_of s).bms (points_in s))) i) (mark_of marks i)))
          (points_in s)
      alike n =
          eu ∙ ap {B = Bool}
          (λ (x : ℕ). any_below
          (λ i. not
          (eqb (present_by h.bitmap (bitmap_octets s lent.octets (in_force h.bitmap h.places.bms x)) i)
          (mark_of marks i))) x) n
          ∙ ap₂ (λ (x : Bitmap) (y : Places). any_below
          (λ i. not
          (eqb (present_by x (bitmap_octets s lent.octets (in_force x y.bms (points_in s))) i) (mark_of marks i)))
          (points_in s))
          (S.bitmap-of s lent h e) (S.places-of s lent h e)

      go : (c : Bool) → eqb (length numbers) (points_in s) ≡ c
          → not c || u || t
          ≡ not c || any_below
          (λ i. not
          (eqb (present_by (bitmap_in s)
          (bitmap_octets s lent.octets (in_force (bitmap_in s) (places_of s).bms (points_in s))) i) (mark_of marks i)))
          (points_in s) || the_decimal_differs (decimal_in s).value d
      go true q = ap₂ (λ (x y : Bool). x || y) (alike (eqb-true _ _ q)) decimal
      go false q = refl

  -- 17, once 18 and 15 have passed
  pub out-is : any_of (source_faults source) ≡ false → any_of (source_differs s lent source) ≡ false → (r : Bool)
      → r ≡ any_below
      (out s numbers marks ((h.places.bds.start + bds_head) * 8) h.packing.bits (whole_of h.scale.r)
      (nat_abs h.scale.e.value)) (length numbers)
      → r ≡ point_out s lent source
  out-is w a r q =
      let g = agrees s lent source a in
      q
      ∙ ap₂ (λ (x : Places) (y : Packing). any_below
      (out s numbers marks ((x.bds.start + bds_head) * 8) y.bits (whole_of h.scale.r)
      (nat_abs h.scale.e.value)) (length numbers))
      (S.places-of s lent h e) (S.packing-of s lent h e)
      ∙ ap (λ (x : Scale). any_below
      (out s numbers marks (the_data_place s lent) (packing_in s).bits (whole_of x.r) (nat_abs x.e.value))
      (length numbers))
      (S.scale_of s lent h e)
      ∙ point-out s lent source g.points g.marks
      (λ i l. (well_formed source w).marks i (subst (λ (n : ℕ). i < n) (sym g.points) l))
