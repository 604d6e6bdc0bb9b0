-- Rows of points, each with its own count: a point's row and position, and the point of a row and position, determine
-- each other; and one step down the rows. By induction on the counts.
use Prim.Native.Nat.{ℕ, zero, suc, ◌+◌, ◌-◌, ◌<◌, ◌≤◌}
use mathlib.Core.Bool.{Bool, true, false, cond}
use mathlib.Core.Path.{◌≡◌, refl, sym, ◌∙◌, ap}
use mathlib.Core.List.{List, [], ◌∷◌}
use native.Mathlib.Omega.{arith}
use native.Mathlib.Nat.{zero-add, add_assoc}
use native.Mathlib.Numerals.{add-one}
use borrow.Author.Tests.{lt-ltb, le-ltb, ltb-true, ltb-false}
use lib.Dec.{ltb}
use lib.ListN.{length, get_or, drop}
use lib.Seq.{drop-cons}
use Rattle.rules.specs.Counts.{total, row_of, in_row, the_before_row}

-- what point k of these rows is: position i of row r
abbrev pub Stands : List ℕ → ℕ → ℕ → ℕ → Type 0
Stands counts k r i = (r < length counts) × (i < get_or counts r 0) × (the_before_row counts r + i ≡ k)

pub parted : (counts : List ℕ) (k : ℕ) → k < total counts → Stands counts k (row_of counts k) (in_row counts k)
unfolding total row_of in_row the_before_row
parted [] k h = absurd (omega (arith, h))
parted (c ∷ counts) k h = go (ltb k c) refl (parted counts (k - c))
  where
    go : (t : Bool) → ltb k c ≡ t
        → (k - c < total counts → Stands counts (k - c) (row_of counts (k - c)) (in_row counts (k - c)))
        → Stands (c ∷ counts) k (cond t 0 (suc (row_of counts (k - c)))) (cond t k (in_row counts (k - c)))
    go true e q = (omega arith, ltb-true k c e, omega arith)
    go false e q =
        let l = ltb-false k c e in
        let p = q (omega (arith, h, l)) in
        (omega (arith, p.0), p.1, omega (arith, p.2, l))

pub joined : (counts : List ℕ) (r i : ℕ) → r < length counts → i < get_or counts r 0
    → (the_before_row counts r + i < total counts) × (row_of counts (the_before_row counts r + i) ≡ r)
    × (in_row counts (the_before_row counts r + i) ≡ i)
unfolding total row_of in_row the_before_row
joined [] r i h l = absurd (omega (arith, h))
joined (c ∷ counts) zero i h l =
    (omega (arith, l), simp (zero-add, lt-ltb i c l), simp (zero-add, lt-ltb i c l))
joined (c ∷ counts) (suc r) i h l =
    let p = joined counts r i (omega (arith, h)) l in
    let e : c + the_before_row counts r + i - c ≡ the_before_row counts r + i = omega arith in
    let n = le-ltb (c + the_before_row counts r + i) c (omega arith) in
    (omega (arith, p.0), simp (n, e, p.1), simp (n, e, p.2))

-- the rows from j on are row j and those after it
pub rows_at : (counts : List ℕ) (j : ℕ) → j < length counts → drop j counts ≡ get_or counts j 0 ∷ drop (j + 1) counts
rows_at counts j h = rw (add-one j, drop-cons counts j 0 h)

-- looking for point k: what is left of it at row j
pub record Left (counts : List ℕ) (k j left : ℕ) : Type 0 where
  pub row : row_of counts k ≡ j + row_of (drop j counts) left
  pub position : in_row counts k ≡ in_row (drop j counts) left

pub left-first : (counts : List ℕ) (k : ℕ) → Left counts k 0 k
left-first counts k = record { row = omega arith; position = refl }

module _ (counts : List ℕ) (k j left c : ℕ) (l : Left counts k j left) (h : j < length counts)
    (e : c ≡ get_or counts j 0) where
  from-here : drop j counts ≡ c ∷ drop (j + 1) counts
  from-here = rows_at counts j h ∙ ap (λ (x : ℕ). x ∷ drop (j + 1) counts) (sym e)

  row_here : left < c → (row_of (drop j counts) left ≡ 0) × (in_row (drop j counts) left ≡ left)
  unfolding row_of in_row
  row_here q = (rw (from-here, lt-ltb left c q), rw (from-here, lt-ltb left c q))

  row_on : c ≤ left
      → (row_of (drop j counts) left ≡ suc (row_of (drop (j + 1) counts) (left - c)))
      × (in_row (drop j counts) left ≡ in_row (drop (j + 1) counts) (left - c))
  unfolding row_of in_row
  row_on q = (rw (from-here, le-ltb left c q), rw (from-here, le-ltb left c q))

  pub left_here : left < c → (row_of counts k ≡ j) × (in_row counts k ≡ left)
  left_here q =
      let p = row_here q in
      (l.row ∙ omega (arith, p.0), l.position ∙ p.1)

  pub left-on : c ≤ left → Left counts k (j + 1) (left - c)
  left-on q =
      let p = row_on q in
      record { row = l.row ∙ omega (arith, p.0); position = l.position ∙ p.1 }

-- past the last row
pub left-none : (counts : List ℕ) (k j left : ℕ) → Left counts k j left → drop j counts ≡ []
    → (row_of counts k ≡ j) × (in_row counts k ≡ left)
unfolding row_of in_row
left-none counts k j left l e =
    (l.row ∙ ap (λ (x : List ℕ). j + row_of x left) e ∙ omega arith, l.position ∙ ap (λ (x : List ℕ). in_row x left) e)

-- counting the points before a row, row by row
pub before-first : (counts : List ℕ) → the_before_row counts 0 ≡ 0
unfolding the_before_row
before-first [] = refl
before-first (c ∷ counts) = refl

before-suc : (counts : List ℕ) (j : ℕ) → j < length counts
    → the_before_row counts (suc j) ≡ the_before_row counts j + get_or counts j 0
unfolding the_before_row
before-suc [] j h = absurd (omega (arith, h))
before-suc (c ∷ counts) zero h = ap (λ (x : ℕ). c + x) (before-first counts) ∙ omega arith
before-suc (c ∷ counts) (suc j) h =
    ap (λ (x : ℕ). c + x) (before-suc counts j (omega (arith, h)))
    ∙ sym (add_assoc c (the_before_row counts j) (get_or counts j 0))

pub before-next : (counts : List ℕ) (j : ℕ) → j < length counts
    → the_before_row counts (j + 1) ≡ the_before_row counts j + get_or counts j 0
before-next counts j h = ap (the_before_row counts) (add-one j) ∙ before-suc counts j h

-- past the last row no more come, and none of these sums is over the whole
pub before-past : (counts : List ℕ) (j : ℕ) → length counts ≤ j → the_before_row counts j ≡ the_before_row counts (length counts)
unfolding the_before_row
before-past [] j h = refl
before-past (c ∷ counts) zero h = absurd (omega (arith, h))
before-past (c ∷ counts) (suc j) h = ap (λ (x : ℕ). c + x) (before-past counts j (omega (arith, h)))

pub before-most : (counts : List ℕ) (j : ℕ) → the_before_row counts j ≤ total counts
unfolding the_before_row total
before-most [] j = omega arith
before-most (c ∷ counts) zero = omega arith
before-most (c ∷ counts) (suc j) = omega (arith, before-most counts j)

pub count_most : (counts : List ℕ) (j : ℕ) → get_or counts j 0 ≤ total counts
unfolding total
count_most [] j = omega arith
count_most (c ∷ counts) zero = omega arith
count_most (c ∷ counts) (suc j) = omega (arith, count_most counts j)

pub before-all : (counts : List ℕ) → the_before_row counts (length counts) ≡ total counts
unfolding the_before_row total
before-all [] = refl
before-all (c ∷ counts) = ap (λ (x : ℕ). c + x) (before-all counts)
