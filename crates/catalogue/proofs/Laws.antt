-- The table in the code is the catalogue of the rules, and a search of it is one of the catalogue; any table searched
-- from the top, a row at a time.
use Rattle.std.proofs.Common.{◌≡◌, ℕ, Bool, true, false, cond, ◌||◌, List, [], ◌∷◌, map, drop, refl, ap}
use Rattle.std.proofs.Common.{Option, Some, option_map, eqb}
use Rattle.std.specs.List.{find, list_any}
use borrow.Author.Tests.{eq-eqb, ne_eqb}
use Rattle.rules.specs.declared.{Entry.Entry, Grid.Grid}
use Rattle.rules.specs.Figures.{the_geometry_by}
use Rattle.rules.specs.Grid.{rectangles, octants, catalogue, lookup, same_grid, like_one}
use Rattle.catalogue.specs.declared.Numbers.{Numbers}
use Rattle.catalogue.specs.declared.TheConstants.{CATALOGUE}
use Rattle.catalogue.specs.Rows.{stands_for}

pub the_catalogue : map stands_for CATALOGUE ≡ catalogue
unfolding rectangles octants catalogue the_geometry_by
the_catalogue = refl

pub looked_up : (ns : List Numbers) (n : ℕ)
    → option_map (λ (r : Numbers). (stands_for r).grid) (find (λ (r : Numbers). eqb r.number n) ns)
    ≡ lookup (map stands_for ns) n
unfolding lookup
looked_up [] n = refl
looked_up (m ∷ ns) n = step (eqb m.number n) _ _ (looked_up ns n)
  where
    step : (t : Bool) (o : Option Numbers) (p : Option Grid)
        → option_map (λ (r : Numbers). (stands_for r).grid) o ≡ p
        → option_map (λ (r : Numbers). (stands_for r).grid) (cond t (Some m) o)
        ≡ cond t (Some (stands_for m).grid) p
    step true o p h = refl
    step false o p h = h

pub liked : (ns : List Numbers) (g : Grid)
    → list_any (λ (r : Numbers). same_grid g (stands_for r).grid) ns ≡ like_one (map stands_for ns) g
unfolding like_one
liked [] g = refl
liked (m ∷ ns) g = ap (λ (t : Bool). same_grid g (stands_for m).grid || t) (liked ns g)

pub the_octants : map stands_for (drop 7 CATALOGUE) ≡ octants
unfolding octants the_geometry_by
the_octants = refl

-- The first row is the answer, or the rows after it decide.
module _ (es rest : List Entry) (e : Entry) (n : ℕ) (at : es ≡ e ∷ rest) where
  pub hit : e.number ≡ n → lookup es n ≡ Some e.grid
  unfolding lookup
  hit same = rw (at, eq-eqb _ _ same)

  pub miss : (e.number ≡ n → ⊥) → lookup es n ≡ lookup rest n
  unfolding lookup
  miss other = rw (at, ne_eqb _ _ other)
