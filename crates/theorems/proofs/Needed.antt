-- Each stain that `canonical` asks for is needed, of each kind of grid: for each a message that is taken, has that stain
-- alone and does not come back; by computing with the specimen, on a grid of that kind.
use Rattle.std.specs.Prelude.{Some}
use Prim.Native.Nat.{ℕ, zero, suc, ◌+◌, ◌<◌}
use mathlib.Core.Bool.{Bool, true, false, ◌&&◌}
use mathlib.Core.Path.{◌≡◌, refl, ap}
use mathlib.Core.List.{List, [], ◌∷◌, map}
use native.Mathlib.Nat.{not-suc-le-zero}
use native.Mathlib.Omega.{arith}
use lib.Dec.{T, ltb, ltb→lt, lit<}
use lib.Ieee.Fits.{and_l, and_r}
use lib.IntN.{pos, negsuc}
use lib.ListN.{set, get_or}
use Rattle.bits.proofs.Below.{upto}
use Rattle.rules.specs.declared.{Plane.Plane, Geometry.Geometry, Geometry.TheVariants.Mercator}
use Rattle.rules.specs.declared.{Geometry.TheVariants.Lambert, Geometry.TheVariants.Gaussian}
use Rattle.rules.specs.declared.{Geometry.TheVariants.Polar}
use Rattle.rules.specs.Numbers.{plain}
use Rattle.rules.specs.Table.{any_of}
use Rattle.rules.specs.Places.{places_of}
use Rattle.rules.specs.Layouts.{Kind, latlon, thinned, mercator, lambert, gaussian, polar}
use Rattle.rules.specs.Grid.{kind_at, grid_with}
use Rattle.rules.specs.Writing.{message}
use Rattle.rules.specs.RoundTrip.{parts_in, stains}
use Rattle.rules.proofs.Computes.{computes, specimen, nothing}
use Rattle.laws.specs.Taken.{Taken}
use Rattle.theorems.specs.Returns.{Below, stains_of, only, Stained, StainsNeeded}

-- every number of a list is an octet
abbrev all_octets : List ℕ → Bool
all_octets [] = true
all_octets (x ∷ xs) = ltb x 256 && all_octets xs

octets-of : (s : List ℕ) → T (all_octets s) → Below 256 s
octets-of [] h i = lit< tt
octets-of (x ∷ xs) h zero = ltb→lt x 256 (and_l (ltb x 256) (all_octets xs) h)
octets-of (x ∷ xs) h (suc i) = octets-of xs (and_r (ltb x 256) (all_octets xs) h) i

-- a message of which one octet does not come back
stained : (kind : Kind) (k : ℕ) (s : List ℕ) (at : ℕ) → T (all_octets s) → Taken s nothing
    → kind_at s (places_of s).gds ≡ kind
    → stains s nothing ≡ only 0 (stains_of kind) k
    → (get_or (message (parts_in s nothing)) at 0 ≡ get_or s at 0 → ⊥)
    → Stained kind k
stained kind k s at o t i a h = record {
  s = s;
  lent = nothing;
  octets = octets-of s o;
  taken = t;
  kind-is = i;
  alone = a;
  lost = λ e. h (ap (λ (x : List ℕ). get_or x at 0) e);
}

-- the specimen on a grid of another kind, with the same Ni, Nj, first corner and scanning flags
abbrev on : Geometry → List ℕ
on x =
    let w = parts_in specimen nothing in
    message (record {
      pds = w.pds;
      form = record {
        grid = Some (grid_with 2 2 (plain (pos 50000)) (plain (negsuc 1999)) 128 64 x);
        bitmap = w.form.bitmap;
        packing = w.form.packing;
      };
      scale = w.scale;
      lent = nothing;
      values = w.values;
      marks = w.marks;
    })

abbrev plane : Plane
plane = record { lov = plain (negsuc 104999); dx = 190500; dy = 190500; centre = 0 }

abbrev on_mercator : List ℕ
on_mercator = on (Mercator (record {
  la2 = plain (pos 51000);
  lo2 = plain (negsuc 999);
  latin = plain (pos 22500);
  di = 80000;
  dj = 80000;
}))

abbrev on_lambert : List ℕ
on_lambert = on (Lambert (record {
  plane = plane;
  latin1 = plain (pos 25000);
  latin2 = plain (pos 25000);
  pole_la = plain (negsuc 89999);
  pole_lo = plain (pos 1000);
}))

abbrev on_gaussian : List ℕ
on_gaussian = on (Gaussian (record { la2 = plain (pos 51000); lo2 = plain (negsuc 999); di = 1000; circles = 80 }))

abbrev on_polar : List ℕ
on_polar = on (Polar plane)

-- a minus zero in the three octets from a place on
abbrev zeroed : List ℕ → ℕ → List ℕ
zeroed s k = set (set (set s k 0x80) (k + 1) 0) (k + 2) 0

none : map (λ s. any_of (stains s nothing)) (specimen ∷ on_mercator ∷ on_lambert ∷ on_gaussian ∷ on_polar ∷ [])
    ≡ false ∷ false ∷ false ∷ false ∷ false ∷ []
unfolding computes
none = refl

-- each of the first n conditions
abbrev Each : Kind → ℕ → Type 0
Each kind zero = Unit {0}
Each kind (suc n) = Each kind n × Stained kind n

below : (kind : Kind) (n : ℕ) → Each kind n → (k : ℕ) → k < n → Stained kind k
below kind zero h k l = absurd (not-suc-le-zero l)
below kind (suc n) h k l = upto (Stained kind) n (below kind n h.0) h.1 k l

on_latlon : Each latlon 8
unfolding computes
on_latlon =
    let s0 = stained latlon 0 (zeroed specimen 46) 46 tt tt refl refl (λ e. omega arith) in
    let s1 = stained latlon 1 (zeroed specimen 49) 49 tt tt refl refl (λ e. omega arith) in
    let s2 = stained latlon 2 (zeroed (set specimen 46 0x80) 53) 53 tt tt refl refl (λ e. omega arith) in
    let s3 = stained latlon 3 (zeroed specimen 56) 56 tt tt refl refl (λ e. omega arith) in
    let s4 = stained latlon 4 (set specimen 67 1) 67 tt tt refl refl (λ e. omega arith) in
    let s5 = stained latlon 5 (set specimen 75 1) 75 tt tt refl refl (λ e. omega arith) in
    let s6 = stained latlon 6 (set specimen 80 0x80) 80 tt tt refl refl (λ e. omega arith) in
    let s7 = stained latlon 7 (set specimen 89 1) 89 tt tt refl refl (λ e. omega arith) in
    ((((((((tt, s0), s1), s2), s3), s4), s5), s6), s7)

on-mercator : Each mercator 10
unfolding computes
on-mercator =
    let s0 = stained mercator 0 (zeroed on_mercator 46) 46 tt tt refl refl (λ e. omega arith) in
    let s1 = stained mercator 1 (zeroed on_mercator 49) 49 tt tt refl refl (λ e. omega arith) in
    let s2 = stained mercator 2 (zeroed (set on_mercator 46 0x80) 53) 53 tt tt refl refl (λ e. omega arith) in
    let s3 = stained mercator 3 (zeroed on_mercator 56) 56 tt tt refl refl (λ e. omega arith) in
    let s4 = stained mercator 4 (zeroed on_mercator 59) 59 tt tt refl refl (λ e. omega arith) in
    let s5 = stained mercator 5 (set on_mercator 62 1) 62 tt tt refl refl (λ e. omega arith) in
    let s6 = stained mercator 6 (set on_mercator 77 1) 77 tt tt refl refl (λ e. omega arith) in
    let s7 = stained mercator 7 (set on_mercator 85 1) 85 tt tt refl refl (λ e. omega arith) in
    let s8 = stained mercator 8 (set on_mercator 90 0x80) 90 tt tt refl refl (λ e. omega arith) in
    let s9 = stained mercator 9 (set on_mercator 99 1) 99 tt tt refl refl (λ e. omega arith) in
    ((((((((((tt, s0), s1), s2), s3), s4), s5), s6), s7), s8), s9)

on-lambert : Each lambert 11
unfolding computes
on-lambert =
    let s0 = stained lambert 0 (zeroed on_lambert 46) 46 tt tt refl refl (λ e. omega arith) in
    let s1 = stained lambert 1 (zeroed on_lambert 49) 49 tt tt refl refl (λ e. omega arith) in
    let s2 = stained lambert 2 (zeroed on_lambert 53) 53 tt tt refl refl (λ e. omega arith) in
    let s3 = stained lambert 3 (zeroed on_lambert 64) 64 tt tt refl refl (λ e. omega arith) in
    let s4 = stained lambert 4 (zeroed on_lambert 67) 67 tt tt refl refl (λ e. omega arith) in
    let s5 = stained lambert 5 (zeroed on_lambert 70) 70 tt tt refl refl (λ e. omega arith) in
    let s6 = stained lambert 6 (zeroed on_lambert 73) 73 tt tt refl refl (λ e. omega arith) in
    let s7 = stained lambert 7 (set on_lambert 77 1) 77 tt tt refl refl (λ e. omega arith) in
    let s8 = stained lambert 8 (set on_lambert 85 1) 85 tt tt refl refl (λ e. omega arith) in
    let s9 = stained lambert 9 (set on_lambert 90 0x80) 90 tt tt refl refl (λ e. omega arith) in
    let s10 = stained lambert 10 (set on_lambert 99 1) 99 tt tt refl refl (λ e. omega arith) in
    (((((((((((tt, s0), s1), s2), s3), s4), s5), s6), s7), s8), s9), s10)

on-gaussian : Each gaussian 8
unfolding computes
on-gaussian =
    let s0 = stained gaussian 0 (zeroed on_gaussian 46) 46 tt tt refl refl (λ e. omega arith) in
    let s1 = stained gaussian 1 (zeroed on_gaussian 49) 49 tt tt refl refl (λ e. omega arith) in
    let s2 = stained gaussian 2 (zeroed (set on_gaussian 46 0x80) 53) 53 tt tt refl refl (λ e. omega arith) in
    let s3 = stained gaussian 3 (zeroed on_gaussian 56) 56 tt tt refl refl (λ e. omega arith) in
    let s4 = stained gaussian 4 (set on_gaussian 67 1) 67 tt tt refl refl (λ e. omega arith) in
    let s5 = stained gaussian 5 (set on_gaussian 75 1) 75 tt tt refl refl (λ e. omega arith) in
    let s6 = stained gaussian 6 (set on_gaussian 80 0x80) 80 tt tt refl refl (λ e. omega arith) in
    let s7 = stained gaussian 7 (set on_gaussian 89 1) 89 tt tt refl refl (λ e. omega arith) in
    ((((((((tt, s0), s1), s2), s3), s4), s5), s6), s7)

on-polar : Each polar 7
unfolding computes
on-polar =
    let s0 = stained polar 0 (zeroed on_polar 46) 46 tt tt refl refl (λ e. omega arith) in
    let s1 = stained polar 1 (zeroed on_polar 49) 49 tt tt refl refl (λ e. omega arith) in
    let s2 = stained polar 2 (zeroed on_polar 53) 53 tt tt refl refl (λ e. omega arith) in
    let s3 = stained polar 3 (set on_polar 67 1) 67 tt tt refl refl (λ e. omega arith) in
    let s4 = stained polar 4 (set on_polar 75 1) 75 tt tt refl refl (λ e. omega arith) in
    let s5 = stained polar 5 (set on_polar 80 0x80) 80 tt tt refl refl (λ e. omega arith) in
    let s6 = stained polar 6 (set on_polar 89 1) 89 tt tt refl refl (λ e. omega arith) in
    (((((((tt, s0), s1), s2), s3), s4), s5), s6)

pub stains_needed : StainsNeeded
stains_needed latlon n = below latlon (stains_of latlon) on_latlon
stains_needed thinned n = absurd (n refl)
stains_needed mercator n = below mercator (stains_of mercator) on-mercator
stains_needed lambert n = below lambert (stains_of lambert) on-lambert
stains_needed gaussian n = below gaussian (stains_of gaussian) on-gaussian
stains_needed polar n = below polar (stains_of polar) on-polar
