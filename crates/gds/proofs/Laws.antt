-- The counts of a section beside an octant's, from each row on; the kind that is the first to be admitted.
use Prim.Native.Nat.{ℕ, suc, ◌+◌, ◌-◌, ◌*◌, ◌<◌}
use mathlib.Core.Bool.{Bool, true, false, ◌&&◌}
use mathlib.Core.Path.{◌≡◌, refl, sym, ◌∙◌, ap}
use mathlib.Core.List.{List, [], ◌∷◌}
use native.Mathlib.Omega.{arith}
use borrow.Author.Tests.{eq-eqb, ne_eqb}
use lib.Dec.{eqb}
use lib.ListN.{length, get_or, drop}
use lib.Seq.{drop-length}
use Rattle.bits.specs.Bits.{bits_in, run}
use Rattle.rules.specs.declared.{Part.Part, Start.TheVariants.Equator, Start.TheVariants.Pole, Grid.Grid}
use Rattle.rules.specs.Bounds.{octant_rows}
use Rattle.rules.specs.Counts.{the_from_equator, counts_of}
use Rattle.rules.specs.Columns.{cells_at}
use Rattle.rules.specs.Layouts.{Kind, latlon, thinned, mercator, lambert, gaussian, polar, kinds, columns, count_columns}
use Rattle.rules.specs.Grid.{admits, first_kind, kind_at, counts_held, same_counts, grid_of_cells, the_grid_at}
use Rattle.laws.proofs.Counts.{rows_at}

-- what is held in so many columns from octet k on
abbrev pub held_from : List ℕ → ℕ → ℕ → ℕ → List ℕ
held_from s g k rows = counts_held k rows (cells_at (count_columns k rows) s g)

-- the counts of a section against these, of which the first i are the same: those from row i on decide
pub record Compared (counts s : List ℕ) (g i : ℕ) : Type 0 where
  pub is : same_counts (held_from s g (33 + 2 * i) (octant_rows - i)) (drop i counts)
      ≡ same_counts (held_from s g 33 octant_rows) counts

pub compared_none : (counts s : List ℕ) (g : ℕ) → Compared counts s g 0
compared_none counts s g = record { is = refl }

one_more : (m k y : ℕ) (s : List ℕ) (g : ℕ) (ys rest : List ℕ) → ys ≡ y ∷ rest
    → same_counts (held_from s g k (suc m)) ys
    ≡ (eqb (run (bits_in 8 s) ((g + (k - 1)) * 8) 16) y && same_counts (held_from s g (k + 2) m) rest)
unfolding same_counts cells_at
one_more m k y s g ys rest e = ap (same_counts (held_from s g k (suc m))) e

module _ (counts s : List ℕ) (g i : ℕ) (long : length counts ≡ octant_rows) (t : Compared counts s g i) where
  module _ (a b : ℕ) (h : i < octant_rows) (p : a ≡ run (bits_in 8 s) ((g + (33 + 2 * i - 1)) * 8) 16)
      (q : b ≡ get_or counts i 0) where
    abbrev rest : ℕ → Bool
    rest k = same_counts (held_from s g k (octant_rows - (i + 1))) (drop (i + 1) counts)

    here : same_counts (held_from s g (33 + 2 * i) (octant_rows - i)) (drop i counts)
        ≡ (eqb a b && rest (33 + 2 * (i + 1)))
    here =
        let l : i < length counts = omega (arith, h, long) in
        let m : octant_rows - i ≡ suc (octant_rows - (i + 1)) = omega (arith, h) in
        let n : 33 + 2 * i + 2 ≡ 33 + 2 * (i + 1) = omega arith in
        let r = rows_at counts i l ∙ ap (λ (x : ℕ). x ∷ drop (i + 1) counts) (sym q) in
        let e = one_more (octant_rows - (i + 1)) (33 + 2 * i) b s g (drop i counts) (drop (i + 1) counts) r in
        ap (λ (x : ℕ). same_counts (held_from s g (33 + 2 * i) x) (drop i counts)) m ∙ e
        ∙ ap (λ (x : ℕ). eqb x b && rest (33 + 2 * i + 2)) (sym p)
        ∙ ap (λ (x : ℕ). eqb a b && rest x) n

    decides : (u : Bool) → eqb a b ≡ u
        → (u && rest (33 + 2 * (i + 1))) ≡ same_counts (held_from s g 33 octant_rows) counts
    decides u e = sym (here ∙ ap (λ (x : Bool). x && rest (33 + 2 * (i + 1))) e) ∙ t.is

    pub compared_next : a ≡ b → Compared counts s g (i + 1)
    compared_next same = record { is = decides true (eq-eqb a b same) }

    pub compared_apart : (a ≡ b → ⊥) → false ≡ same_counts (held_from s g 33 octant_rows) counts
    compared_apart other = decides false (ne_eqb a b other)

  pub compared_all : i ≡ octant_rows → true ≡ same_counts (held_from s g 33 octant_rows) counts
  unfolding same_counts
  compared_all e =
      let z : octant_rows - i ≡ 0 = omega (arith, e) in
      let n : drop i counts ≡ [] = ap (λ (x : ℕ). drop x counts) (e ∙ sym long) ∙ drop-length counts in
      sym (ap (λ (x : ℕ). same_counts (held_from s g (33 + 2 * i) x) (drop i counts)) z
      ∙ ap (λ (x : List ℕ). same_counts [] x) n)
      ∙ t.is

-- both octants' counts are that many
pub long_equator : length (counts_of Equator) ≡ octant_rows
unfolding counts_of the_from_equator
long_equator = refl

pub long_pole : length (counts_of Pole) ≡ octant_rows
unfolding counts_of the_from_equator
long_pole = refl

pub ruleset octants_long = (long_equator, long_pole)

-- the grid of the first kind whose test holds, and of the first of all where none does
module _ (s : List ℕ) (p : Part) where
  abbrev read : Kind → Grid
  read k = grid_of_cells k (cells_at (columns k) s p.start)

  read_as : (k : Kind) → first_kind kinds (admits s p) ≡ k → read k ≡ the_grid_at s p
  unfolding the_grid_at kind_at
  read_as k h = sym (ap read h)

  pub as_latlon : admits s p latlon ≡ true → read latlon ≡ the_grid_at s p
  as_latlon a = read_as latlon (rw a)

  module _ (n0 : admits s p latlon ≡ false) where
    pub as_thinned : admits s p thinned ≡ true → read thinned ≡ the_grid_at s p
    as_thinned a = read_as thinned (rw (n0, a))

    module _ (n1 : admits s p thinned ≡ false) where
      pub as_mercator : admits s p mercator ≡ true → read mercator ≡ the_grid_at s p
      as_mercator a = read_as mercator (rw (n0, n1, a))

      module _ (n2 : admits s p mercator ≡ false) where
        pub as_lambert : admits s p lambert ≡ true → read lambert ≡ the_grid_at s p
        as_lambert a = read_as lambert (rw (n0, n1, n2, a))

        module _ (n3 : admits s p lambert ≡ false) where
          pub as_gaussian : admits s p gaussian ≡ true → read gaussian ≡ the_grid_at s p
          as_gaussian a = read_as gaussian (rw (n0, n1, n2, n3, a))

          module _ (n4 : admits s p gaussian ≡ false) where
            pub as_polar : admits s p polar ≡ true → read polar ≡ the_grid_at s p
            as_polar a = read_as polar (rw (n0, n1, n2, n3, n4, a))

            pub as_none : admits s p polar ≡ false → read latlon ≡ the_grid_at s p
            as_none a = read_as latlon (rw (n0, n1, n2, n3, n4, a))
