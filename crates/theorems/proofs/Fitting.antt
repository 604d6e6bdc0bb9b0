-- What is written fits the octets that the faces name: a rectangle has a short GDS, of 42 octets at most, and at most the
-- most points, an octant a longer one and far fewer points.
use Rattle.std.specs.Prelude.{None, Option, Some}
use Prim.Native.Nat.{ℕ, ◌+◌, ◌*◌, ◌^◌, ◌≤◌, ◌<◌}
use mathlib.Core.Path.{◌≡◌, refl}
use mathlib.Core.Logic.{◌⊎◌, inl, inr, ⊎_elim}
use mathlib.Core.List.{List}
use native.Mathlib.Omega.{arith}
use native.Mathlib.Nat.{mul-le-mul}
use lib.Dec.{T}
use lib.ListN.{length}
use Rattle.bits.specs.Bits.{octets_for}
use Rattle.bits.proofs.Ones.{count-le}
use Rattle.rules.specs.declared.{Geometry.Geometry, Geometry.TheVariants.LatLon, Geometry.TheVariants.Thinned}
use Rattle.rules.specs.declared.{Geometry.TheVariants.Mercator, Geometry.TheVariants.Lambert}
use Rattle.rules.specs.declared.{Geometry.TheVariants.Gaussian, Geometry.TheVariants.Polar}
use Rattle.rules.specs.declared.{Grid.Grid}
use Rattle.rules.specs.Bounds.{pds_most, long_length, thinned_length, octant_points, bms_head, bds_head, points_most, the_bits_most}
use Rattle.rules.specs.Numbers.{even_from}
use Rattle.rules.specs.Table.{accepted}
use Rattle.rules.specs.Chart.{the_points_on}
use Rattle.rules.specs.Layouts.{length_by}
use Rattle.rules.specs.Grid.{kind_of, shape_by, shape_of, points_of, the_grid_from, grid_or_zeros}
use Rattle.rules.specs.Bitmap.{value_of}
use Rattle.rules.specs.Writing.{Parts, grid_for, points_for, gds_for, message, write_refusal}
use Rattle.theorems.specs.Returns.{NumberFits, written_most, WrittenFits}
use Rattle.laws.proofs.Gathered.{length-gathered}
use Rattle.laws.proofs.Grids.{octant-few}
use Rattle.laws.proofs.Lengths.{gds-length, bds-length}
use Rattle.theorems.proofs.Laid.{length-body}
use Rattle.theorems.proofs.BitmapSection.{bms-most}
use Rattle.theorems.proofs.Offered as offer
use Rattle.theorems.proofs.Offered.{Offer, offered}
use Rattle.theorems.proofs.ReadBack.{marks_for, packed_for, gds_part, bms_part, bds_part, message-length}

-- a grid section is short, or its grid is an octant
abbrev Few : ℕ → ℕ → Type 0
Few len n = (len ≤ long_length) ⊎ ((len ≤ thinned_length) × (n ≤ octant_points))

kind-few : (g : Grid) (x : Geometry) → Few (length_by (kind_of x)) (the_points_on (shape_by g x))
unfolding the_points_on
kind-few g (LatLon x) = inl (omega arith)
kind-few g (Thinned o) = inr (omega arith, octant-few o.start)
kind-few g (Mercator x) = inl (omega arith)
kind-few g (Lambert x) = inl (omega arith)
kind-few g (Gaussian x) = inl (omega arith)
kind-few g (Polar x) = inl (omega arith)

found-few : (f : Option Grid) (p : List ℕ) → Few (length (gds_for f)) (points_of (grid_or_zeros (the_grid_from f p 0)))
unfolding the_grid_from shape_of
found-few None p = inl (omega arith)
found-few (Some g) p =
    ⊎_elim (λ l. inl (omega (arith, l, gds-length g))) (λ l. inr (omega (arith, l.0, gds-length g), l.1))
    (kind-few g g.geometry)

module _ (w : Parts) (out : List ℕ) (nf : NumberFits w.form.bitmap) (rf : w.scale.r < 2 ^ 32)
    (acc : T (accepted (write_refusal w out))) where
  told : Offer w out
  told = offered w out acc

  -- of so long a grid section and so many points
  within : (len most : ℕ) → length (gds_part w) ≤ len → points_for w ≤ most
      → length (message w)
      ≤ 8 + pds_most + len + even_from (bms_head + octets_for most) + even_from (bds_head + octets_for (most * the_bits_most)) + 4
  within len most g h =
      let n = points_for w in
      let bits = offer.mark-bits w out nf rf told in
      let xs = packed_for w in
      let c : length xs ≤ most = omega (arith, length-gathered (marks_for w) bits (value_of w.values) n, count-le bits 0 n, h) in
      let d : length xs * w.form.packing.bits ≤ most * the_bits_most = mul-le-mul c (offer.bits_most w out nf rf told) in
      let m = bms-most w.form.bitmap (marks_for w) n most h in
      omega (
        arith,
        message-length w,
        length-body w.pds (gds_part w) (bms_part w) (bds_part w),
        offer.pds-most w out nf rf told,
        g,
        m,
        bds-length w.form.packing w.scale xs,
        d,
      )

  fits : length (message w) ≤ written_most
  unfolding grid_for points_for
  fits =
      ⊎_elim (λ l. within long_length points_most l (offer.points-most w out nf rf told))
      (λ l. let h = within thinned_length octant_points l.0 l.1 in omega (arith, h))
      (found-few w.form.grid w.pds)

pub written-fits : WrittenFits
written-fits w out nf rf acc = fits w out nf rf acc

-- the number that the faces name
pub most-is : written_most ≡ 205896
most-is = refl
