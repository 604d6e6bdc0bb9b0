-- Document 02, R-6: a point lies in its group, what stands before it there, and what passing 25 leaves; by the
-- definitions.
use mathlib.Core.Path.{◌≡◌, refl, sym, ap}
use mathlib.Core.Bool.{Bool, true, false, cond}
use mathlib.Core.List.{List}
use Prim.Native.Nat.{ℕ, ◌+◌, ◌-◌, ◌*◌, ◌/◌, ◌%◌, ◌<◌, ◌≤◌}
use native.Mathlib.Omega.{arith}
use borrow.Author.Tests.{lt-ltb, le-ltb, ltb-true, ltb-false}
use lib.Dec.{ltb}
use Rattle.bits.proofs.Ones.{count_mono, count_next}
use Rattle.rules.specs.Table.{any_of}
use Rattle.rules.specs.Cursor.{group_of, the_group_size, ones_in, ones_up_to, entry_of, index_faults, cursor_number}
use Rattle.laws.proofs.Rows.{none_of}

-- the size of the group of point i, by the points that are left from its start on
module _ (n i : ℕ) where
  abbrev left : ℕ
  left = n - i / 256 * 256

  pub full : 256 < left → 256 ≡ the_group_size n (group_of i)
  unfolding the_group_size
  full h = sym (ap (λ (t : Bool). cond t 256 left) (lt-ltb (i / 256 * 256 + 256) n (omega arith)))

  pub rest : left ≤ 256 → left ≡ the_group_size n (group_of i)
  unfolding the_group_size
  rest h = sym (ap (λ (t : Bool). cond t 256 left) (le-ltb (i / 256 * 256 + 256) n (omega arith)))

  by_size : i < n → (t : Bool) → ltb 256 left ≡ t
      → (i % 256 < the_group_size n (group_of i)) × (i / 256 * 256 + the_group_size n (group_of i) ≤ n)
  by_size l true e = let h = ltb-true 256 left e in (omega (arith, full h), omega (arith, full h))
  by_size l false e = let h = ltb-false 256 left e in (omega (arith, rest h), omega (arith, rest h))

  -- the point is one of its group, and the group's points are among the n
  pub in_group : i < n → (i % 256 < the_group_size n (group_of i)) × (i / 256 * 256 + the_group_size n (group_of i) ≤ n)
  in_group l = by_size l (ltb 256 left) refl

-- what stands before a point in its group is no more than the group has, and less where the point is a one
module _ (f : ℕ → ℕ) (n i : ℕ) (l : i < n) where
  pub before-le : ones_up_to f i ≤ ones_in f n (group_of i)
  unfolding ones_up_to ones_in
  before-le = count_mono f (i / 256 * 256) (i % 256) (the_group_size n (group_of i)) (omega (arith, in_group n i l))

  pub before-lt : f i ≡ 1 → ones_up_to f i < ones_in f n (group_of i)
  unfolding ones_up_to ones_in
  before-lt e =
      let at : i / 256 * 256 + i % 256 ≡ i = omega arith in
      omega (
        arith,
        count_mono f (i / 256 * 256) (i % 256 + 1) (the_group_size n (group_of i)) (omega (arith, in_group n i l)),
        count_next f (i / 256 * 256) (i % 256),
        ap f at,
        e,
      )

-- what passing 25 leaves: the sum is no more than m
pub not-above : (index : List ℕ) (n m g inside : ℕ) → any_of (index_faults index n m g inside) ≡ false
    → entry_of index g + inside ≤ m
unfolding index_faults
not-above index n m g inside e =
    ltb-false m (entry_of index g + inside) (none_of (index_faults index n m g inside) e).1.1.0

-- so a present point's number is below m
pub number-below : (f : ℕ → ℕ) (index : List ℕ) (n m i : ℕ) → i < n
    → any_of (index_faults index n m (group_of i) (ones_in f n (group_of i))) ≡ false → f i ≡ 1
    → cursor_number f index i < m
unfolding cursor_number
number-below f index n m i l q e =
    omega (arith, before-lt f n i l e, not-above index n m (group_of i) (ones_in f n (group_of i)) q)
