-- All numbers of a list together have no bit that none of them has.
use mathlib.Core.Path.{◌≡◌, refl, sym, ap, ap₂, subst, ◌∙◌}
use mathlib.Core.Bool.{Bool, true, false, not, ◌&&◌, ◌||◌}
use mathlib.Core.List.{List}
use Prim.Native.Nat.{ℕ, ◌+◌, ◌^◌, ◌<◌}
use native.Mathlib.Omega.{arith}
use mathlib.Core.Logic.{⊎_elim}
use native.Mathlib.Numerals.{add-one}
use borrow.Author.Tests.{leb-false, not-true, lt-ltb, le-ltb, lt-leb, le-leb}
use lib.Bits.{bit_or, or_lt, or_add_and, and_le_l, and_le_r}
use lib.Pow.{pow_pos}
use lib.Dec.{leb, ltb}
use lib.ListN.{length, get_or, get_or-eq_default}
use Rattle.bits.specs.Tables.{any_below}
use Rattle.bits.proofs.Runs.{lt_or_ge}
use Rattle.bits.proofs.Below.{none_below, no-below}
use Rattle.widths.specs.Below.{all_below}
use Rattle.bits.specs.Bits.{Wide}

-- none of the numbers has a bit that all of them together have not
pub or_below : (a b n : ℕ) → ltb (bit_or a b) (2 ^ n) ≡ ltb a (2 ^ n) && ltb b (2 ^ n)
or_below a b n = ⊎_elim
    (λ h. ⊎_elim
    (λ k. lt-ltb (bit_or a b) (2 ^ n) (or_lt n a b h k) ∙ sym (rw (lt-ltb a (2 ^ n) h) (lt-ltb b (2 ^ n) k)))
    (λ k. le-ltb (bit_or a b) (2 ^ n) (omega (arith, or_add_and a b, and_le_l a b))
    ∙ sym (rw (lt-ltb a (2 ^ n) h) (le-ltb b (2 ^ n) k)))
    (lt_or_ge b (2 ^ n)))
    (λ h. le-ltb (bit_or a b) (2 ^ n) (omega (arith, or_add_and a b, and_le_r a b)) ∙ sym (rw (le-ltb a (2 ^ n) h) refl))
    (lt_or_ge a (2 ^ n))

pub below_none : (n : ℕ) (f : ℕ → Bool) → ltb 0 (2 ^ n) ≡ not (any_below f 0)
unfolding any_below
below_none n f = lt-ltb 0 (2 ^ n) (pow_pos n)

pub below-least : (x b : ℕ) → ltb x b ≡ not (leb b x)
below-least x b = ⊎_elim
    (λ h. lt-ltb x b h ∙ ap not (sym (lt-leb b x h)))
    (λ h. le-ltb x b h ∙ ap not (sym (le-leb b x h)))
    (lt_or_ge x b)

pub below_turn : (n : ℕ) (x : ℕ → ℕ) (i all : ℕ) → ltb all (2 ^ n) ≡ not (any_below (λ k. leb (2 ^ n) (x k)) i)
    → ltb (bit_or all (x i)) (2 ^ n) ≡ not (any_below (λ k. leb (2 ^ n) (x k)) (i + 1))
unfolding any_below
below_turn n x i all e =
    let f : ℕ → Bool = λ k. leb (2 ^ n) (x k) in
    or_below all (x i) n ∙ ap₂ (λ (x y : Bool). x && y) e (below-least (x i) (2 ^ n)) ∙ sym (split (any_below f i) (f i))
    ∙ ap (λ (x : ℕ). not (any_below f x)) (sym (add-one i))
  where
    split : (x y : Bool) → not (x || y) ≡ not x && not y
    split true y = refl
    split false y = refl

-- then each number is below 2 ^ n, also those past the end
pub below-wide : (n : ℕ) (vs : List ℕ) → all_below n vs ≡ true → Wide n vs
unfolding all_below
below-wide n vs e k = ⊎_elim
    (λ l. leb-false (2 ^ n) (get_or vs k 0)
    (none_below (λ j. leb (2 ^ n) (get_or vs j 0)) (length vs)
    (not-true (any_below (λ j. leb (2 ^ n) (get_or vs j 0)) (length vs)) e) k l))
    (λ g. subst (λ (x : ℕ). x < 2 ^ n) (sym (get_or-eq_default vs 0 g)) (pow_pos n))
    (lt_or_ge k (length vs))

pub wide_below : (n : ℕ) (vs : List ℕ) → Wide n vs → all_below n vs ≡ true
unfolding all_below
wide_below n vs w =
    ap not (no-below (λ k. leb (2 ^ n) (get_or vs k 0)) (length vs) (λ k l. lt-leb (2 ^ n) (get_or vs k 0) (w k)))
