-- The catalogue's own sense, computed over the whole table: its corners, counts and steps agree, no row is refused, no
-- number stands twice.
use mathlib.Core.Path.{◌≡◌, refl}
use mathlib.Core.Bool.{Bool, true, not, ◌&&◌}
use mathlib.Core.List.{[], ◌∷◌, map}
use Prim.Native.Nat.{◌-◌, ◌*◌}
use lib.Dec.{eqb}
use lib.IntN.{nat_abs, ◌-ℤ◌}
use Rattle.rules.specs.declared.{Entry.Entry}
use Rattle.rules.specs.Table.{any_of}
use Rattle.rules.specs.Figures.{the_figures_of}
use Rattle.rules.specs.Grid.{rectangles, catalogue, points_of, grid_faults}
use Rattle.rules.proofs.Computes.{computes}

-- of document 01's seven: Ni − 1 steps of Di lead from Lo1 to Lo2, and of all: Nj − 1 steps of Dj from La1 to La2, and
-- row 9 finds no fault
along_rows : Entry → Bool
along_rows e =
    let g = e.grid in
    let x = the_figures_of g.geometry in
    eqb ((g.ni - 1) * x.di) (nat_abs (x.lo2.value -ℤ g.lo1.value))

sensible : Entry → Bool
sensible e =
    let g = e.grid in
    let x = the_figures_of g.geometry in
    eqb ((g.nj - 1) * x.dj) (nat_abs (x.la2.value -ℤ g.la1.value)) && not (any_of (grid_faults g))

all-along : map along_rows rectangles ≡ true ∷ true ∷ true ∷ true ∷ true ∷ true ∷ true ∷ []
unfolding computes along_rows
all-along = refl

all-sensible : map sensible catalogue
    ≡ true ∷ true ∷ true ∷ true ∷ true ∷ true ∷ true ∷ true ∷ true ∷ true ∷ true ∷ true ∷ true ∷ true ∷ true ∷ []
unfolding computes sensible
all-sensible = refl

numbers : map (λ e. e.number) catalogue
    ≡ 2 ∷ 3 ∷ 29 ∷ 30 ∷ 33 ∷ 34 ∷ 45 ∷ 37 ∷ 38 ∷ 39 ∷ 40 ∷ 41 ∷ 42 ∷ 43 ∷ 44 ∷ []
unfolding computes
numbers = refl

points : map (λ e. points_of e.grid) catalogue
    ≡ 10512 ∷ 65160 ∷ 5365 ∷ 5365 ∷ 8326 ∷ 8326 ∷ 41760
    ∷ 3447 ∷ 3447 ∷ 3447 ∷ 3447 ∷ 3447 ∷ 3447 ∷ 3447 ∷ 3447 ∷ []
unfolding computes
points = refl
