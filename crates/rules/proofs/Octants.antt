-- The thinned octants of document 02, R-1, computed: their counts, the corners of their charts, and what a section that
-- is one of the eight, and one that is not, get as a reply.
use Rattle.std.specs.Prelude.{None, Some}
use mathlib.Core.Path.{◌≡◌, refl}
use mathlib.Core.Bool.{Bool, true, false, not}
use mathlib.Core.List.{List, [], ◌∷◌, map}
use Prim.Native.Nat.{ℕ}
use lib.IntN.{pos}
use lib.ListN.{length, set}
use Rattle.rules.specs.declared.{Part.Part, Grid.Grid, Start.TheVariants.Equator}
use Rattle.rules.specs.declared.{Start.TheVariants.Pole, Start.TheVariants.Neither}
use Rattle.rules.specs.Bounds.{thinned_length, octant_rows, octant_points}
use Rattle.rules.specs.Numbers.{plain}
use Rattle.rules.specs.Counts.{total, counts_of}
use Rattle.rules.specs.Table.{any_of}
use Rattle.rules.specs.Chart.{charted, pointed, the_row_long}
use Rattle.rules.specs.Figures.{the_figures_of}
use Rattle.rules.specs.Grid.{the_gds_bad, the_grid_at, gds_of, grid_stains, shape_of, catalogue, lookup, grid_or_zeros, grid_faults}
use Rattle.rules.proofs.Computes.{computes}

-- "73 rows and 3,447 points", either way round
counted : map (λ f. length (counts_of f)) (Equator ∷ Pole ∷ Neither ∷ []) ≡ octant_rows ∷ octant_rows ∷ 0 ∷ []
unfolding computes
counted = refl

summed : map (λ f. total (counts_of f)) (Equator ∷ Pole ∷ Neither ∷ []) ≡ octant_points ∷ octant_points ∷ 0 ∷ []
unfolding computes
summed = refl

-- a grid of the catalogue
abbrev of : ℕ → Grid
of n = grid_or_zeros (lookup catalogue n)

-- each octant begins where the one before it ends, round either half of the globe, the first of them at 330,000
round : map (λ n. (the_figures_of (of n).geometry).lo2) (40 ∷ 37 ∷ 38 ∷ 39 ∷ 44 ∷ 41 ∷ 42 ∷ 43 ∷ [])
    ≡ map (λ n. (of n).lo1) (37 ∷ 38 ∷ 39 ∷ 40 ∷ 41 ∷ 42 ∷ 43 ∷ 44 ∷ [])
unfolding computes
round = refl

first : map (λ n. (of n).lo1) (37 ∷ 41 ∷ []) ≡ plain (pos 330000) ∷ plain (pos 330000) ∷ []
unfolding computes
first = refl

-- the first point of grid 37 lies in the last row, at the equator, and its last at the pole, in row 0; so does that of
-- grid 41, whose first lies at the other pole, in the last row
corners : map (λ k. charted (shape_of (of 37)) (record { 0 = k })) (0 ∷ 72 ∷ 73 ∷ 3444 ∷ 3445 ∷ 3446 ∷ 3447 ∷ [])
    ≡ Some (record { row = 72; column = 0 })
    ∷ Some (record { row = 72; column = 72 })
    ∷ Some (record { row = 71; column = 0 })
    ∷ Some (record { row = 1; column = 2 })
    ∷ Some (record { row = 0; column = 0 })
    ∷ Some (record { row = 0; column = 1 })
    ∷ None
    ∷ []
unfolding computes
corners = refl

southern : map (λ k. charted (shape_of (of 41)) (record { 0 = k })) (0 ∷ 1 ∷ 2 ∷ 3373 ∷ 3374 ∷ 3446 ∷ 3447 ∷ [])
    ≡ Some (record { row = 72; column = 0 })
    ∷ Some (record { row = 72; column = 1 })
    ∷ Some (record { row = 71; column = 0 })
    ∷ Some (record { row = 1; column = 72 })
    ∷ Some (record { row = 0; column = 0 })
    ∷ Some (record { row = 0; column = 72 })
    ∷ None
    ∷ []
unfolding computes
southern = refl

-- "a position at or past its row's count is outside": the northernmost row of grid 37 has two points, that of 41 has 73
ends : map (pointed (shape_of (of 37)))
    (record { row = 0; column = 1 } ∷ record { row = 0; column = 2 } ∷ record { row = 73; column = 0 } ∷ [])
    ≡ Some (record { 0 = 3446 }) ∷ None ∷ None ∷ []
unfolding computes
ends = refl

long : map (the_row_long (shape_of (of 37))) (0 ∷ 1 ∷ 72 ∷ 73 ∷ []) ≡ 2 ∷ 3 ∷ 73 ∷ 0 ∷ []
unfolding computes
long = refl

long_south : map (the_row_long (shape_of (of 41))) (0 ∷ 1 ∷ 72 ∷ 73 ∷ []) ≡ 73 ∷ 73 ∷ 2 ∷ 0 ∷ []
unfolding computes
long_south = refl

-- what 8 and 9 say of a section of 178 octets
replied : List ℕ → List Bool
replied s =
    let p : Part = record { start = 0; len = thinned_length } in
    the_gds_bad s p ∷ any_of (grid_faults (the_grid_at s p)) ∷ []

-- one that is written reads back without a fault and without a stain
abbrev sound : ℕ → Bool
sound n =
    let s = gds_of (of n) in
    not (any_of (grid_stains s (record { start = 0; len = thinned_length })))

taken : map (λ n. replied (gds_of (of n))) (37 ∷ 38 ∷ 39 ∷ 40 ∷ 41 ∷ 42 ∷ 43 ∷ 44 ∷ [])
    ≡ (false ∷ false ∷ []) ∷ (false ∷ false ∷ []) ∷ (false ∷ false ∷ []) ∷ (false ∷ false ∷ [])
    ∷ (false ∷ false ∷ []) ∷ (false ∷ false ∷ []) ∷ (false ∷ false ∷ []) ∷ (false ∷ false ∷ [])
    ∷ []
unfolding computes replied
taken = refl

clean : map sound (37 ∷ 41 ∷ []) ≡ true ∷ true ∷ []
unfolding computes
clean = refl

-- octet 4 of 255, octet 5 of 255, octet 6 of 1: 8. The formula's 74 at the equator, a count one too small at the pole, a
-- Lo1 of −30,000, Ni of 73: 9. Minus zero is La1's value, and reserved octets are set: neither
refused : map replied
    (set (gds_of (of 37)) 3 255
    ∷ set (gds_of (of 37)) 4 255
    ∷ set (gds_of (of 37)) 5 1
    ∷ set (gds_of (of 37)) 33 74
    ∷ set (gds_of (of 41)) 33 1
    ∷ set (set (set (gds_of (of 37)) 13 0x80) 14 0x75) 15 0x30
    ∷ set (set (gds_of (of 37)) 6 0) 7 73
    ∷ set (gds_of (of 37)) 10 0x80
    ∷ set (gds_of (of 37)) 28 1
    ∷ [])
    ≡ (true ∷ true ∷ [])
    ∷ (true ∷ true ∷ [])
    ∷ (true ∷ true ∷ [])
    ∷ (false ∷ true ∷ [])
    ∷ (false ∷ true ∷ [])
    ∷ (false ∷ true ∷ [])
    ∷ (false ∷ true ∷ [])
    ∷ (false ∷ false ∷ [])
    ∷ (false ∷ false ∷ [])
    ∷ []
unfolding computes replied
refused = refl
