-- Octets placed in a list from a place on, copied one by one, and parts that reach to the end.
use mathlib.Core.Path.{◌≡◌, sym, ap, ap₂, ◌∙◌}
use mathlib.Core.List.{List, [], ◌++◌, append_assoc}
use Prim.Native.Nat.{ℕ, ◌+◌, ◌-◌, ◌≤◌, ◌<◌}
use native.Mathlib.Nat.{add_assoc}
use native.Mathlib.Numerals.{add-one}
use native.Mathlib.Omega.{arith}
use lib.ListN.{length, take, drop, length-drop, take-append-drop, set, get_or}
use lib.Seq.{take-suc, take_all, take-append-add, drop-append-add, drop-length, length-take-le}
use Rattle.bits.specs.Bits.{placed}
use Rattle.marks.proofs.Bitmaps.{placed-set}

-- what is placed in the second of two parts; in a list from a place on
pub placed-after : (a b : List ℕ) (k : ℕ) (p : List ℕ) → placed (a ++ b) (length a + k) p ≡ a ++ placed b k p
unfolding placed
placed-after a b k p =
    ap₂ (λ (x y : List ℕ). x ++ (p ++ y)) (take-append-add a b k)
    (ap (λ (n : ℕ). drop n (a ++ b)) (add_assoc (length a) k (length p)) ∙ drop-append-add a b (k + length p))
    ∙ append_assoc a (take k b) (p ++ drop (k + length p) b)

pub placed-from : (d : List ℕ) (at k : ℕ) (p : List ℕ) → at ≤ length d
    → placed d (at + k) p ≡ take at d ++ placed (drop at d) k p
placed-from d at k p h =
    ap₂ (λ (x : List ℕ) (n : ℕ). placed x (n + k) p) (sym (take-append-drop at d)) (sym (length-take-le at d h))
    ∙ placed-after (take at d) (drop at d) k p

-- a turn of a loop that copies s
pub copied : (d s out : List ℕ) (at i : ℕ) → i < length s → at + length s ≤ length d → out ≡ placed d at (take i s)
    → set out (at + i) (get_or s i 0) ≡ placed d at (take (i + 1) s)
copied d s out at i h r e =
    let l : length (take i s) ≡ i = length-take-le i s (omega arith) in
    ap₂ (λ (y : List ℕ) (n : ℕ). set y (at + n) (get_or s i 0)) e (sym l)
    ∙ placed-set d at (take i s) (get_or s i 0) (omega arith) ∙ ap (placed d at) (sym (rw add-one (take-suc s i 0 h)))

-- a part that reaches to the end, and what is placed at its start
pub part_length : (o : List ℕ) (k : ℕ) → length (take (length o - k) (drop k o)) ≡ length o - k
part_length o k = length-take-le (length o - k) (drop k o) (omega (arith, length-drop k o))

pub part-whole : (o : List ℕ) (k : ℕ) → take (length o - k) (drop k o) ≡ drop k o
part-whole o k = take_all (length o - k) (drop k o) (omega (arith, length-drop k o))

pub part-rest : (o : List ℕ) (k : ℕ) → drop (length o - k) (drop k o) ≡ []
part-rest o k = ap (λ (n : ℕ). drop n (drop k o)) (sym (length-drop k o)) ∙ drop-length (drop k o)
