-- The points present: no more than there are points, and the marks' own count where they are 0 or 1.
use mathlib.Core.Path.{◌≡◌, sym}
use mathlib.Core.Bool.{cond}
use mathlib.Core.List.{List}
use Prim.Native.Nat.{ℕ, ◌≤◌, ◌<◌}
use native.Mathlib.Nat.{le_refl}
use native.Mathlib.Omega.{arith}
use native.Mathlib.Decide.{ℕ_discrete}
use borrow.Author.Tests.{eq-eqb, ne_eqb}
use lib.Dec.{eqb}
use Rattle.bits.specs.Bits.{count}
use Rattle.bits.proofs.Runs.{Bits}
use Rattle.bits.proofs.Marks.{count_same}
use Rattle.rules.specs.Bitmap.{mark_of}
use Rattle.laws.specs.Marks.{here}
use Rattle.marks.proofs.Points.{count-few}
use Rattle.framing.specs.Layout.{marked_count}

pub present-few : (marks : List ℕ) (n : ℕ) → marked_count marks n ≤ n
unfolding marked_count
present-few marks n = count-few marks 0 n

pub present-count : (marks : List ℕ) → Bits (mark_of marks) → (n : ℕ) → marked_count marks n ≡ count (mark_of marks) 0 n
unfolding marked_count here
present-count marks b n = count_same (here marks) (mark_of marks) n (λ i _. same (mark_of marks i) (b i)) n (le_refl n)
  where
    zero_of : (x : ℕ) → x < 2 → (x ≡ 1 → ⊥) → 0 ≡ x
    zero_of x l e = omega arith

    same : (x : ℕ) → x < 2 → cond (eqb x 1) 1 0 ≡ x
    same x l = elim (ℕ_discrete x 1) [ yes e ↦ rw (eq-eqb x 1 e) (sym e) | no e ↦ rw (ne_eqb x 1 e) (zero_of x l e) ]
