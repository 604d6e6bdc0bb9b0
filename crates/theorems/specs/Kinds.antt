-- Document 02, R-4, of the kinds of grid: a section is of one kind at most, the four new ones move nothing of the others,
-- and figures of no kind are refused.
use Rattle.std.specs.Prelude.{ℕ, ◌<◌, ◌≡◌, ◌⊎◌, true, false, not, List, [], ◌∷◌, map}
use Rattle.rules.specs.declared.{Part.Part, Figures.Figures, Grid.Grid}
use Rattle.rules.specs.Table.{any_of}
use Rattle.rules.specs.Layouts.{Kind, latlon, thinned, mercator, lambert, gaussian, polar}
use Rattle.rules.specs.Figures.{the_geometry_of}
use Rattle.rules.specs.Grid.{admits, the_gds_bad, first_kind, kind_at, points_of, grid_faults}

-- "8 names the accepted types and lengths": no section is of two kinds, so that the order in which they are tried
-- decides nothing
abbrev pub OneKind : Type 0
OneKind = (s : List ℕ) (p : Part) (k l : Kind) → admits s p k ≡ true → admits s p l ≡ true → k ≡ l

-- "Add these four", and move nothing else: a section that is none of them gets from 8 the answer that it had, and is
-- read as the kind that it was
abbrev pub added : List Kind
added = mercator ∷ lambert ∷ gaussian ∷ polar ∷ []

abbrev pub former : List Kind
former = latlon ∷ thinned ∷ []

abbrev pub FormerStay : Type 0
FormerStay =
    (s : List ℕ) (p : Part) → any_of (map (admits s p) added) ≡ false
    → (the_gds_bad s p ≡ not (any_of (map (admits s p) former))) × (kind_at s p ≡ first_kind former (admits s p))

-- figures that stand for no kind of grid: a number that octet 6 of none has, or rows that are counted where a kind's are
-- not; and of a latitude/longitude grid counts that no octant has
pub record KindUnknown (f : Figures) : Type 0 where
  pub kind : f.kind ≡ 0 → ⊥
  pub other : f.rows ≡ 0 → (f.kind ≡ 1 → ⊥) × (f.kind ≡ 3 → ⊥) × (f.kind ≡ 4 → ⊥) × (f.kind ≡ 5 → ⊥)

pub record RowsUnknown (f : Figures) : Type 0 where
  pub kind : f.kind ≡ 0
  pub rows : 2 < f.rows

-- a grid of such figures is refused by 9, and has no points
abbrev pub UnknownRefused : Type 0
UnknownRefused =
    (g : Grid) (f : Figures) → g.geometry ≡ the_geometry_of f → KindUnknown f ⊎ RowsUnknown f
    → (any_of (grid_faults g) ≡ true) × (points_of g ≡ 0)
