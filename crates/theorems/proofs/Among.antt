-- One of a list of numbers, as a test that computes: there and back, by induction on the list.
use Prim.Native.Nat.{ℕ}
use mathlib.Core.Bool.{Bool, true, false, not, ◌||◌}
use mathlib.Core.Logic.{◌⊎◌, inl, inr}
use mathlib.Core.List.{List, [], ◌∷◌}
use borrow.Author.Tests.{eq-eqb}
use lib.Dec.{T, eqb, eqb→eq}
use Rattle.laws.proofs.Rows.{true-is}
use Rattle.theorems.specs.Replies.{Among}

abbrev pub one_of : ℕ → List ℕ → Bool
one_of n [] = false
one_of n (x ∷ xs) = eqb n x || one_of n xs

pub either : (a b : Bool) → T (a || b) → T a ⊎ T b
either true b h = inl tt
either false b h = inr h

or_l : (a b : Bool) → T a → T (a || b)
or_l true b h = tt
or_l false b h = absurd h

or_r : (a b : Bool) → T b → T (a || b)
or_r true b h = tt
or_r false b h = h

pub denied : (b : Bool) → T (not b) → T b → ⊥
denied true n h = n
denied false n h = h

pub among_of : (n : ℕ) (xs : List ℕ) → T (one_of n xs) → Among n xs
among_of n [] h = h
among_of n (x ∷ xs) h = go (either (eqb n x) (one_of n xs) h) (among_of n xs)
  where
    go : T (eqb n x) ⊎ T (one_of n xs) → (T (one_of n xs) → Among n xs) → Among n (x ∷ xs)
    go (inl t) f = inl (eqb→eq n x t)
    go (inr t) f = inr (f t)

pub of-among : (n : ℕ) (xs : List ℕ) → Among n xs → T (one_of n xs)
of-among n [] a = a
of-among n (x ∷ xs) (inl e) = or_l (eqb n x) (one_of n xs) (true-is (eqb n x) (eq-eqb n x e))
of-among n (x ∷ xs) (inr a) = or_r (eqb n x) (one_of n xs) (of-among n xs a)

pub not-among : (n : ℕ) (xs : List ℕ) → T (not (one_of n xs)) → Among n xs → ⊥
not-among n xs h a = denied (one_of n xs) h (of-among n xs a)
