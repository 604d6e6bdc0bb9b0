-- Octets put over others: what is put after what was put, and a number or an element as what is put.
use mathlib.Core.Path.{◌≡◌, sym, ap, ap₂, ◌∙◌}
use mathlib.Core.List.{List, [], ◌∷◌, ◌++◌, append_assoc}
use Prim.Native.Nat.{ℕ, suc, ◌+◌, ◌*◌, ◌≤◌, ◌<◌}
use native.Mathlib.Nat.{add-zero, zero-add, add_assoc}
use native.Mathlib.Numerals.{add-one}
use native.Mathlib.Omega.{arith}
use lib.ListN.{length, set, take, drop, length-append, length-drop, take-append-drop}
use lib.Seq.{drop_at, drop-drop, take_at, length-take-le, drop-cons, set_at}
use Rattle.bits.specs.Bits.{bit_of, runs, number_at, placed}
use Rattle.bits.proofs.Trip.{length_runs}

pub placed-none : (d : List ℕ) (at : ℕ) → placed d at [] ≡ d
unfolding placed
placed-none d at = ap (λ (x : ℕ). take at d ++ drop x d) (add-zero at) ∙ take-append-drop at d

pub placed-front : (d p : List ℕ) → placed d 0 p ≡ p ++ drop (length p) d
unfolding placed
placed-front d p = ap (λ (x : ℕ). p ++ drop x d) (zero-add (length p))

pub length-placed : (d : List ℕ) (at : ℕ) (p : List ℕ) → at + length p ≤ length d → length (placed d at p) ≡ length d
unfolding placed
length-placed d at p h = simp (length-append, length-take-le at d (omega arith), length-drop) (omega arith)

-- what is put right after what was put
pub placed-next : (d : List ℕ) (at : ℕ) (p q : List ℕ) → at + length p + length q ≤ length d
    → placed (placed d at p) (at + length p) q ≡ placed d at (p ++ q)
unfolding placed
placed-next d at p q h =
    let A = take at d in
    let l : length A ≡ at = length-take-le at d (omega arith) in
    let front : length (A ++ p) ≡ at + length p = length-append A p ∙ ap (λ (x : ℕ). x + length p) l in
    let D = drop (at + length p) d in
    let whole : A ++ (p ++ D) ≡ (A ++ p) ++ D = sym (append_assoc A p D) in
    ap₂ (λ (x y : List ℕ). x ++ (q ++ y))
    (ap (take (at + length p)) whole ∙ take_at (A ++ p) D (at + length p) front)
    (ap (drop (at + length p + length q)) whole ∙ sym (drop-drop (length q) (at + length p) ((A ++ p) ++ D))
    ∙ ap (drop (length q)) (drop_at (A ++ p) D (at + length p) front) ∙ drop-drop (length q) (at + length p) d)
    ∙ append_assoc A p (q ++ drop (at + length p + length q) d)
    ∙ ap (λ (x : List ℕ). A ++ x) (sym (append_assoc p q (drop (at + length p + length q) d)))
    ∙ ap (λ (x : ℕ). A ++ ((p ++ q) ++ drop x d))
    (add_assoc at (length p) (length q) ∙ ap (λ (x : ℕ). at + x) (sym (length-append p q)))

-- a number put into octets
pub number-placed : (d : List ℕ) (k c x : ℕ) → number_at d k c x ≡ placed d k (runs (bit_of (c * 8) x) 0 8 c)
unfolding number_at placed
number-placed d k c x =
    let R = runs (bit_of (c * 8) x) 0 8 c in
    append_assoc (take k d) R (drop (k + c) d)
    ∙ ap (λ (y : ℕ). take k d ++ (R ++ drop (k + y) d)) (sym (length_runs (bit_of (c * 8) x) 0 8 c))

-- one element
pub set-placed : (d : List ℕ) (at v : ℕ) → at < length d → set d at v ≡ placed d at (v ∷ [])
unfolding placed
set-placed d at v h =
    let l : length (take at d) ≡ at = length-take-le at d (omega arith) in
    ap (λ (x : List ℕ). set x at v)
    (sym (take-append-drop at d) ∙ ap (λ (x : List ℕ). take at d ++ x) (drop-cons d at 0 h))
    ∙ set_at (take at d) _ (drop (suc at) d) v at l
    ∙ ap (λ (x : ℕ). take at d ++ (v ∷ drop x d)) (sym (add-one at))
