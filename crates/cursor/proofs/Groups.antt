-- Groups of points: their ones as code counts them, the tests of an entry, and entries as they are put.
use mathlib.Core.Path.{◌≡◌, refl, sym, ap, ap₂, ◌∙◌}
use mathlib.Core.Bool.{Bool, false, not, ◌||◌, cond}
use mathlib.Core.List.{List, ◌++◌}
use Prim.Native.Nat.{ℕ, ◌+◌, ◌*◌, ◌/◌, ◌%◌, ◌<◌, ◌≤◌}
use native.Mathlib.Omega.{arith}
use borrow.Author.Tests.{lt-ltb, le-ltb}
use lib.Dec.{ltb, eqb}
use lib.ListN.{length, drop, set}
use Rattle.bits.specs.Bits.{bits_in, count}
use Rattle.bits.specs.Tables.{tab}
use Rattle.bits.proofs.Fill.{fill, tab_ext}
use Rattle.bits.proofs.Runs.{bits_in-bits}
use Rattle.bits.proofs.Ones.{count_ext, count-le, count_ones, count-split}
use Rattle.rules.specs.declared.Bitmap.TheVariants.{Without}
use Rattle.rules.specs.Table.{any_of, or_all}
use Rattle.rules.specs.Cursor.{the_groups_for, group_of, the_group_size, ones_before, ones_in, ones_up_to, entry_of, the_next_entry}
use Rattle.rules.specs.Cursor.{index_faults}
use Rattle.bitmap.specs.Held.{bits_from, held}
use Rattle.laws.proofs.Cursors.{in_group, before-le, not-above}

-- ones counted from the octet that a group begins with
module _ (s : List ℕ) (p i : ℕ) where
  from : (c : ℕ) → count (bits_in 8 s) ((p + i / 256 * 32) * 8) c ≡ count (bits_from s p) (i / 256 * 256) c
  from c =
      count_ext (bits_in 8 s) (bits_from s p) ((p + i / 256 * 32) * 8) (i / 256 * 256) c
      (λ (j : ℕ) h. ap (bits_in 8 s) (omega arith))

  pub all_from : (n r c : ℕ) → r ≡ count (bits_in 8 s) ((p + i / 256 * 32) * 8) c → c ≡ the_group_size n (group_of i)
      → r ≡ ones_in (bits_from s p) n (group_of i)
  unfolding ones_in
  all_from n r c e h = e ∙ from c ∙ ap (count (bits_from s p) (i / 256 * 256)) h

  pub before-from : (r : ℕ) → r ≡ count (bits_in 8 s) ((p + i / 256 * 32) * 8) (i % 256) → r ≡ ones_up_to (bits_from s p) i
  unfolding ones_up_to
  before-from r e = e ∙ from (i % 256)

-- with no bitmap every point is a one
module _ (s store : List ℕ) (p n i : ℕ) where
  pub all_ones : (c : ℕ) → c ≡ the_group_size n (group_of i) → c ≡ ones_in (held Without s store p) n (group_of i)
  unfolding ones_in held
  all_ones c e =
      count_ones (held Without s store p) (i / 256 * 256) c (λ j l. refl)
      ∙ ap (count (held Without s store p) (i / 256 * 256)) e

  pub before-ones : i % 256 ≡ ones_up_to (held Without s store p) i
  unfolding ones_up_to held
  before-ones = count_ones (held Without s store p) (i / 256 * 256) (i % 256) (λ j l. refl)

-- presence that agrees below n
module _ (f g : ℕ → ℕ) (n i : ℕ) (l : i < n) (h : (j : ℕ) → j < n → f j ≡ g j) where
  pub in_ext : ones_in f n (group_of i) ≡ ones_in g n (group_of i)
  unfolding ones_in
  in_ext =
      count_ext f g (i / 256 * 256) (i / 256 * 256) (the_group_size n (group_of i))
      (λ j k. h (i / 256 * 256 + j) (omega (arith, in_group n i l)))

  pub to_ext : ones_up_to f i ≡ ones_up_to g i
  unfolding ones_up_to
  to_ext =
      count_ext f g (i / 256 * 256) (i / 256 * 256) (i % 256) (λ j k. h (i / 256 * 256 + j) (omega arith))

-- the next entry, by the test of code
module _ (index : List ℕ) (n m g k : ℕ) (e : k ≡ the_groups_for n) where
  pub next-inside : g + 1 < k → (r : ℕ) → r ≡ entry_of index (g + 1) → r ≡ the_next_entry index n m g
  unfolding the_next_entry
  next-inside l r q =
      q ∙ sym (ap (λ (t : Bool). cond t (entry_of index (g + 1)) m) (ap (ltb (g + 1)) (sym e) ∙ lt-ltb (g + 1) k l))

  pub next_last : k ≤ g + 1 → m ≡ the_next_entry index n m g
  unfolding the_next_entry
  next_last l =
      sym (ap (λ (t : Bool). cond t (entry_of index (g + 1)) m) (ap (ltb (g + 1)) (sym e) ∙ le-ltb (g + 1) k l))

-- 25 as code tests it, and what passing it leaves: a number no more than m
pub faults_are : (index : List ℕ) (n m g inside k x y : ℕ) → k ≡ the_groups_for n → x ≡ entry_of index g
    → y ≡ the_next_entry index n m g
    → ltb (length index) k || not (eqb (x + inside) y) || ltb m (x + inside) ≡ any_of (index_faults index n m g inside)
unfolding any_of or_all index_faults
faults_are index n m g inside k x y e p q = rw (e, p, q)

pub number-few : (f : ℕ → ℕ) (index : List ℕ) (n m i all e before : ℕ) → i < n → all ≡ ones_in f n (group_of i)
    → any_of (index_faults index n m (group_of i) all) ≡ false → e ≡ entry_of index (group_of i) → before ≡ ones_up_to f i
    → e + before ≤ m
number-few f index n m i all e before l ea q pe pb =
    omega (arith, before-le f n i l, not-above index n m (group_of i) all q)

-- entries: with no bitmap, and one more by the ones of 32 octets
pub even_entries : (s store : List ℕ) (p k : ℕ) → tab (λ g. g * 256) k ≡ tab (ones_before (held Without s store p)) k
unfolding ones_before held
even_entries s store p k =
    tab_ext (λ g. g * 256) (ones_before (held Without s store p)) k
    (λ g l. count_ones (held Without s store p) 0 (g * 256) (λ j i. refl))

module _ (s : List ℕ) (p : ℕ) where
  pub no_ones : 0 ≡ ones_before (bits_from s p) 0
  unfolding ones_before count
  no_ones = refl

  pub next-ones : (g at x r : ℕ) → at ≡ p + g * 32 → x ≡ ones_before (bits_from s p) g
      → r ≡ count (bits_in 8 s) (at * 8) 256 → x + r ≡ ones_before (bits_from s p) (g + 1)
  unfolding ones_before
  next-ones g at x r e h q =
      let more : g * 256 + 256 ≡ (g + 1) * 256 = omega arith in
      ap₂ (λ (y z : ℕ). y + z) h
      (q ∙ count_ext (bits_in 8 s) (bits_from s p) (at * 8) (0 + g * 256) 256
      (λ (j : ℕ) l. ap (bits_in 8 s) (omega arith)))
      ∙ sym (count-split (bits_from s p) 0 (g * 256) 256) ∙ ap (count (bits_from s p) 0) more

  pub ones-few : (g : ℕ) → ones_before (bits_from s p) g ≤ g * 256
  unfolding ones_before
  ones-few g = count-le (λ i. bits_in-bits 8 s (p * 8 + i)) 0 (g * 256)

-- a turn of the loop that fills entries, and its end
module _ (f : ℕ → ℕ) (d now : List ℕ) where
  pub entry-put : (g x : ℕ) → now ≡ tab f g ++ drop g d → x ≡ f g → g < length d
      → set now g x ≡ tab f (g + 1) ++ drop (g + 1) d
  entry-put g x e h l = ap₂ (λ (y : List ℕ) (z : ℕ). set y g z) e h ∙ fill f g d l

  pub entries_put : (g k : ℕ) → g ≡ k → now ≡ tab f g ++ drop g d → now ≡ tab f k ++ drop k d
  entries_put g k h e = e ∙ ap (λ (x : ℕ). tab f x ++ drop x d) h
