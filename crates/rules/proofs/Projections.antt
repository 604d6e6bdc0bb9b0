-- The four kinds of grid of document 02, R-4, computed: sections put down octet by octet beside document 003's layouts,
-- what they are read as, that they are written again, what 8 and 9 say at their edges, and the chart under the eight
-- settings of the scanning flags.
use mathlib.Core.Path.{◌≡◌, refl}
use mathlib.Core.Bool.{Bool, true, false}
use mathlib.Core.List.{List, [], ◌∷◌, map}
use Prim.Native.Nat.{ℕ, ◌-◌}
use lib.IntN.{pos, negsuc}
use lib.ListN.{length, set}
use Rattle.rules.specs.declared.{Signed.Signed, Part.Part, Plane.Plane, Geometry.Geometry}
use Rattle.rules.specs.declared.{Geometry.TheVariants.Mercator}
use Rattle.rules.specs.declared.{Geometry.TheVariants.Lambert, Geometry.TheVariants.Gaussian}
use Rattle.rules.specs.declared.{Geometry.TheVariants.Polar, Grid.Grid, Spot.Spot}
use Rattle.rules.specs.Numbers.{plain}
use Rattle.rules.specs.Table.{any_of}
use Rattle.rules.specs.Layouts.{mercator, lambert, gaussian, polar}
use Rattle.rules.specs.Figures.{the_figures_of}
use Rattle.rules.specs.Grid.{grid_with, the_gds_bad, kind_at, the_grid_at, gds_of, grid_stains, shape_of, points_of, grid_faults}
use Rattle.rules.specs.Chart.{the_spot_on}
use Rattle.rules.proofs.Computes.{computes}

-- document 003's grids 210, 211, 98 and 87; of 211 the southern pole is our own
abbrev puerto_rico : List ℕ
puerto_rico =
    0x00 ∷ 0x00 ∷ 0x2a ∷ 0x00 ∷ 0xff ∷ 0x01 ∷ 0x00 ∷ 0x19 ∷ 0x00 ∷ 0x19 ∷ 0x00 ∷ 0x23 ∷ 0x28 ∷ 0x81 ∷ 0x2c ∷ 0xc8
    ∷ 0x80 ∷ 0x00 ∷ 0x67 ∷ 0x36 ∷ 0x80 ∷ 0xe5 ∷ 0x01 ∷ 0x00 ∷ 0x4e ∷ 0x20 ∷ 0x00 ∷ 0x40 ∷ 0x01 ∷ 0x38 ∷ 0x80 ∷ 0x01
    ∷ 0x38 ∷ 0x80 ∷ 0x00 ∷ 0x00 ∷ 0x00 ∷ 0x00 ∷ 0x00 ∷ 0x00 ∷ 0x00 ∷ 0x00 ∷ []

abbrev conus : List ℕ
conus =
    0x00 ∷ 0x00 ∷ 0x2a ∷ 0x00 ∷ 0xff ∷ 0x03 ∷ 0x00 ∷ 0x5d ∷ 0x00 ∷ 0x41 ∷ 0x00 ∷ 0x2f ∷ 0x9e ∷ 0x82 ∷ 0x09 ∷ 0x53
    ∷ 0x08 ∷ 0x81 ∷ 0x73 ∷ 0x18 ∷ 0x01 ∷ 0x3d ∷ 0x77 ∷ 0x01 ∷ 0x3d ∷ 0x77 ∷ 0x00 ∷ 0x40 ∷ 0x00 ∷ 0x61 ∷ 0xa8 ∷ 0x00
    ∷ 0x61 ∷ 0xa8 ∷ 0x81 ∷ 0x5f ∷ 0x90 ∷ 0x00 ∷ 0x00 ∷ 0x00 ∷ 0x00 ∷ 0x00 ∷ []

abbrev t62 : List ℕ
t62 =
    0x00 ∷ 0x00 ∷ 0x20 ∷ 0x00 ∷ 0xff ∷ 0x04 ∷ 0x00 ∷ 0xc0 ∷ 0x00 ∷ 0x5e ∷ 0x01 ∷ 0x59 ∷ 0xde ∷ 0x00 ∷ 0x00 ∷ 0x00
    ∷ 0x80 ∷ 0x81 ∷ 0x59 ∷ 0xde ∷ 0x80 ∷ 0x07 ∷ 0x53 ∷ 0x07 ∷ 0x53 ∷ 0x00 ∷ 0x2f ∷ 0x00 ∷ 0x00 ∷ 0x00 ∷ 0x00 ∷ 0x00 ∷ []

abbrev ruc : List ℕ
ruc =
    0x00 ∷ 0x00 ∷ 0x20 ∷ 0x00 ∷ 0xff ∷ 0x05 ∷ 0x00 ∷ 0x51 ∷ 0x00 ∷ 0x3e ∷ 0x00 ∷ 0x59 ∷ 0x5c ∷ 0x81 ∷ 0xd6 ∷ 0xab
    ∷ 0x08 ∷ 0x81 ∷ 0x9a ∷ 0x28 ∷ 0x01 ∷ 0x0a ∷ 0x39 ∷ 0x01 ∷ 0x0a ∷ 0x39 ∷ 0x00 ∷ 0x40 ∷ 0x00 ∷ 0x00 ∷ 0x00 ∷ 0x00 ∷ []

abbrev sections : List (List ℕ)
sections = puerto_rico ∷ conus ∷ t62 ∷ ruc ∷ []

abbrev whole : List ℕ → Part
whole s = record { start = 0; len = length s }

abbrev mercator_grid : Grid
mercator_grid =
    grid_with 25 25 (plain (pos 9000)) (plain (negsuc 76999)) 128 64 (Mercator (record {
      la2 = plain (pos 26422);
      lo2 = plain (negsuc 58624);
      latin = plain (pos 20000);
      di = 80000;
      dj = 80000;
    }))

abbrev lambert_grid : Grid
lambert_grid =
    grid_with 93 65 (plain (pos 12190)) (plain (negsuc 133458)) 8 64 (Lambert (record {
      plane = record { lov = plain (negsuc 94999); dx = 81271; dy = 81271; centre = 0 };
      latin1 = plain (pos 25000);
      latin2 = plain (pos 25000);
      pole_la = plain (negsuc 89999);
      pole_lo = plain (pos 0);
    }))

abbrev gaussian_grid : Grid
gaussian_grid =
    grid_with 192 94 (plain (pos 88542)) (plain (pos 0)) 128 0 (Gaussian (record {
      la2 = plain (negsuc 88541);
      lo2 = plain (negsuc 1874);
      di = 1875;
      circles = 47;
    }))

abbrev polar_grid : Grid
polar_grid =
    grid_with 81 62 (plain (pos 22876)) (plain (negsuc 120490)) 8 64
    (Polar (record { lov = plain (negsuc 104999); dx = 68153; dy = 68153; centre = 0 }))

abbrev grids : List Grid
grids = mercator_grid ∷ lambert_grid ∷ gaussian_grid ∷ polar_grid ∷ []

-- read, of its kind, without a fault or a stain, and written again
read : map (λ s. the_grid_at s (whole s)) sections ≡ grids
unfolding computes
read = refl

of-kind : map (λ s. kind_at s (whole s)) sections ≡ mercator ∷ lambert ∷ gaussian ∷ polar ∷ []
unfolding computes
of-kind = refl

-- what 8 and 9 say, and whether it comes back
replied : List ℕ → List Bool
replied s = the_gds_bad s (whole s) ∷ any_of (grid_faults (the_grid_at s (whole s))) ∷ any_of (grid_stains s (whole s)) ∷ []

sound : map replied sections
    ≡ (false ∷ false ∷ false ∷ []) ∷ (false ∷ false ∷ false ∷ []) ∷ (false ∷ false ∷ false ∷ [])
    ∷ (false ∷ false ∷ false ∷ [])
    ∷ []
unfolding computes replied
sound = refl

written : map gds_of grids ≡ sections
unfolding computes
written = refl

counted : map points_of grids ≡ 625 ∷ 6045 ∷ 18048 ∷ 5022 ∷ []
unfolding computes
counted = refl

-- each field stands in its own octets: octet k of a section holds k, from 7 on, and is written again where it is not
-- reserved
abbrev counted-up : List ℕ → List ℕ
counted-up rest =
    0x07 ∷ 0x08 ∷ 0x09 ∷ 0x0a ∷ 0x0b ∷ 0x0c ∷ 0x0d ∷ 0x0e ∷ 0x0f ∷ 0x10 ∷ 0x11 ∷ 0x12 ∷ 0x13 ∷ 0x14 ∷ 0x15 ∷ 0x16 ∷ 0x17
    ∷ 0x18 ∷ 0x19 ∷ 0x1a ∷ 0x1b ∷ 0x1c ∷ rest

abbrev long_tail : List ℕ
long_tail =
    0x1d ∷ 0x1e ∷ 0x1f ∷ 0x20 ∷ 0x21 ∷ 0x22 ∷ 0x23 ∷ 0x24 ∷ 0x25 ∷ 0x26 ∷ 0x27 ∷ 0x28 ∷ 0x29 ∷ 0x2a ∷ []

abbrev short_tail : List ℕ
short_tail = 0x1d ∷ 0x1e ∷ 0x1f ∷ 0x20 ∷ []

abbrev filled : List (List ℕ)
filled =
    (0 ∷ 0 ∷ 42 ∷ 0 ∷ 255 ∷ 1 ∷ counted-up long_tail)
    ∷ (0 ∷ 0 ∷ 42 ∷ 0 ∷ 255 ∷ 3 ∷ counted-up long_tail)
    ∷ (0 ∷ 0 ∷ 32 ∷ 0 ∷ 255 ∷ 4 ∷ counted-up short_tail)
    ∷ (0 ∷ 0 ∷ 32 ∷ 0 ∷ 255 ∷ 5 ∷ counted-up short_tail)
    ∷ []

abbrev angle : ℕ → Signed
angle x = plain (pos x)

abbrev with : Geometry → Grid
with x = grid_with 0x0708 0x090a (angle 0x0b0c0d) (angle 0x0e0f10) 0x11 0x1c x

abbrev plane : Plane
plane = record { lov = angle 0x121314; dx = 0x151617; dy = 0x18191a; centre = 0x1b }

abbrev fields : List Grid
fields =
    with (Mercator (record { la2 = angle 0x121314; lo2 = angle 0x151617; latin = angle 0x18191a; di = 0x1d1e1f; dj = 0x202122 }))
    ∷ with (Lambert (record {
      plane = plane;
      latin1 = angle 0x1d1e1f;
      latin2 = angle 0x202122;
      pole_la = angle 0x232425;
      pole_lo = angle 0x262728;
    }))
    ∷ with (Gaussian (record { la2 = angle 0x121314; lo2 = angle 0x151617; di = 0x1819; circles = 0x1a1b }))
    ∷ with (Polar plane)
    ∷ []

each-field : map (λ s. the_grid_at s (whole s)) filled ≡ fields
unfolding computes
each-field = refl

abbrev zeros : List ℕ → List ℕ → List ℕ
zeros (n ∷ ns) s = zeros ns (set s (n - 1) 0)
zeros [] s = s

each-written : map gds_of fields
    ≡ map (λ (x : List ℕ × List ℕ). zeros x.0 x.1)
    ((27 ∷ 35 ∷ 36 ∷ 37 ∷ 38 ∷ 39 ∷ 40 ∷ 41 ∷ 42 ∷ [], 0 ∷ 0 ∷ 42 ∷ 0 ∷ 255 ∷ 1 ∷ counted-up long_tail)
    ∷ (41 ∷ 42 ∷ [], 0 ∷ 0 ∷ 42 ∷ 0 ∷ 255 ∷ 3 ∷ counted-up long_tail)
    ∷ (29 ∷ 30 ∷ 31 ∷ 32 ∷ [], 0 ∷ 0 ∷ 32 ∷ 0 ∷ 255 ∷ 4 ∷ counted-up short_tail)
    ∷ (29 ∷ 30 ∷ 31 ∷ 32 ∷ [], 0 ∷ 0 ∷ 32 ∷ 0 ∷ 255 ∷ 5 ∷ counted-up short_tail)
    ∷ [])
unfolding computes
each-written = refl

-- "8 names the accepted types and lengths": octet 6 from 0 to 7, each with 32, 42 and 178 octets; octet 4 is 0 and octet
-- 5 is 255, and next 33
abbrev kept_out : ℕ → ℕ → ℕ → Bool
kept_out len five six =
    the_gds_bad (0 ∷ 0 ∷ len ∷ 0 ∷ five ∷ six ∷ []) (record { start = 0; len = len })

types : map (λ len. map (kept_out len 255) (0 ∷ 1 ∷ 2 ∷ 3 ∷ 4 ∷ 5 ∷ 6 ∷ 7 ∷ [])) (32 ∷ 42 ∷ 178 ∷ [])
    ≡ (false ∷ true ∷ true ∷ true ∷ false ∷ false ∷ true ∷ true ∷ [])
    ∷ (true ∷ false ∷ true ∷ false ∷ true ∷ true ∷ true ∷ true ∷ [])
    ∷ (true ∷ true ∷ true ∷ true ∷ true ∷ true ∷ true ∷ true ∷ [])
    ∷ []
unfolding computes
types = refl

listed : map (λ len. map (kept_out len 33) (0 ∷ 1 ∷ 3 ∷ 4 ∷ 5 ∷ [])) (32 ∷ 42 ∷ 178 ∷ [])
    ≡ (true ∷ true ∷ true ∷ true ∷ true ∷ [])
    ∷ (true ∷ true ∷ true ∷ true ∷ true ∷ [])
    ∷ (false ∷ true ∷ true ∷ true ∷ true ∷ [])
    ∷ []
unfolding computes
listed = refl

-- "a missing Gaussian N": N all ones, and one less; Di all ones is carried
circles : map replied (set (set t62 25 0xff) 26 0xff ∷ set (set t62 25 0xff) 26 0xfe ∷ set (set t62 23 0xff) 24 0xff ∷ [])
    ≡ (false ∷ true ∷ false ∷ []) ∷ (false ∷ false ∷ false ∷ []) ∷ (false ∷ false ∷ false ∷ []) ∷ []
unfolding computes replied
circles = refl

-- "The scan test against latitudes holds for Mercator and Gaussian only": bit 2 of the scanning flags turned in each
turned : map replied (set puerto_rico 27 0 ∷ set conus 27 0 ∷ set t62 27 64 ∷ set ruc 27 0 ∷ [])
    ≡ (false ∷ true ∷ false ∷ []) ∷ (false ∷ false ∷ false ∷ []) ∷ (false ∷ true ∷ false ∷ [])
    ∷ (false ∷ false ∷ false ∷ [])
    ∷ []
unfolding computes replied
turned = refl

-- an angle at its bound and past it: Latin of 90,000 and 90,001, Latin 2 of −90,001, the southern pole's longitude and LoV
-- of 360,000 and −360,001; a distance of all ones is carried
angles : map replied
    (set (set (set puerto_rico 23 0x01) 24 0x5f) 25 0x90
    ∷ set (set (set puerto_rico 23 0x01) 24 0x5f) 25 0x91
    ∷ set (set (set conus 31 0x81) 32 0x5f) 33 0x91
    ∷ set (set (set conus 37 0x05) 38 0x7e) 39 0x40
    ∷ set (set (set conus 37 0x85) 38 0x7e) 39 0x41
    ∷ set (set (set ruc 17 0x05) 18 0x7e) 19 0x40
    ∷ set (set (set ruc 17 0x85) 18 0x7e) 19 0x41
    ∷ set (set (set ruc 20 0xff) 21 0xff) 22 0xff
    ∷ [])
    ≡ (false ∷ false ∷ false ∷ [])
    ∷ (false ∷ true ∷ false ∷ [])
    ∷ (false ∷ true ∷ false ∷ [])
    ∷ (false ∷ false ∷ false ∷ [])
    ∷ (false ∷ true ∷ false ∷ [])
    ∷ (false ∷ false ∷ false ∷ [])
    ∷ (false ∷ true ∷ false ∷ [])
    ∷ (false ∷ false ∷ false ∷ [])
    ∷ []
unfolding computes replied
angles = refl

-- reserved octets are ignored and do not come back: Mercator 27, 35 and 42, Lambert 41 and 42, Gaussian and polar 29 and
-- 32; a projection centre flag is carried
reserved : map replied
    (set puerto_rico 26 1 ∷ set puerto_rico 34 1 ∷ set puerto_rico 41 1 ∷ set conus 40 1 ∷ set conus 41 1 ∷ set t62 28 1
    ∷ set t62 31 1
    ∷ set ruc 28 1
    ∷ set ruc 31 1
    ∷ set conus 26 0xff
    ∷ set ruc 26 0xff
    ∷ [])
    ≡ (false ∷ false ∷ true ∷ [])
    ∷ (false ∷ false ∷ true ∷ [])
    ∷ (false ∷ false ∷ true ∷ [])
    ∷ (false ∷ false ∷ true ∷ [])
    ∷ (false ∷ false ∷ true ∷ [])
    ∷ (false ∷ false ∷ true ∷ [])
    ∷ (false ∷ false ∷ true ∷ [])
    ∷ (false ∷ false ∷ true ∷ [])
    ∷ (false ∷ false ∷ true ∷ [])
    ∷ (false ∷ false ∷ false ∷ [])
    ∷ (false ∷ false ∷ false ∷ [])
    ∷ []
unfolding computes replied
reserved = refl

-- "on the other two, chart row 0 is the greatest y": where the six points of three columns and two rows are drawn, row and
-- column of each, under the eight settings; the same on a Lambert and a polar grid
abbrev drawn : Grid → ℕ → List Spot
drawn g scan =
    let small = grid_with 3 2 g.la1 g.lo1 g.flags scan g.geometry in
    map (the_spot_on (shape_of small)) (0 ∷ 1 ∷ 2 ∷ 3 ∷ 4 ∷ 5 ∷ [])

abbrev at : ℕ → ℕ → Spot
at row column = record { row = row; column = column }

chart : map (drawn lambert_grid) (0 ∷ 32 ∷ 64 ∷ 96 ∷ 128 ∷ 160 ∷ 192 ∷ 224 ∷ [])
    ≡ (at 0 0 ∷ at 0 1 ∷ at 0 2 ∷ at 1 0 ∷ at 1 1 ∷ at 1 2 ∷ [])
    ∷ (at 0 0 ∷ at 1 0 ∷ at 0 1 ∷ at 1 1 ∷ at 0 2 ∷ at 1 2 ∷ [])
    ∷ (at 1 0 ∷ at 1 1 ∷ at 1 2 ∷ at 0 0 ∷ at 0 1 ∷ at 0 2 ∷ [])
    ∷ (at 1 0 ∷ at 0 0 ∷ at 1 1 ∷ at 0 1 ∷ at 1 2 ∷ at 0 2 ∷ [])
    ∷ (at 0 2 ∷ at 0 1 ∷ at 0 0 ∷ at 1 2 ∷ at 1 1 ∷ at 1 0 ∷ [])
    ∷ (at 0 2 ∷ at 1 2 ∷ at 0 1 ∷ at 1 1 ∷ at 0 0 ∷ at 1 0 ∷ [])
    ∷ (at 1 2 ∷ at 1 1 ∷ at 1 0 ∷ at 0 2 ∷ at 0 1 ∷ at 0 0 ∷ [])
    ∷ (at 1 2 ∷ at 0 2 ∷ at 1 1 ∷ at 0 1 ∷ at 1 0 ∷ at 0 0 ∷ [])
    ∷ []
unfolding computes
chart = refl

same : map (drawn polar_grid) (0 ∷ 32 ∷ 64 ∷ 96 ∷ 128 ∷ 160 ∷ 192 ∷ 224 ∷ [])
    ≡ map (drawn lambert_grid) (0 ∷ 32 ∷ 64 ∷ 96 ∷ 128 ∷ 160 ∷ 192 ∷ 224 ∷ [])
unfolding computes
same = refl

-- the kind's number in a grid's figures is octet 6
kinds-numbered : map (λ g. (the_figures_of g.geometry).kind) grids ≡ 1 ∷ 3 ∷ 4 ∷ 5 ∷ []
unfolding computes
kinds-numbered = refl
