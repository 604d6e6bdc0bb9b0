-- Numbers that fill whole octets packed, and then more of them from there on, are all of them packed.
use mathlib.Core.Path.{◌≡◌, sym, ap, ap₂, ◌∙◌}
use mathlib.Core.List.{List, ◌++◌, append_assoc}
use Prim.Native.Nat.{ℕ, ◌+◌, ◌*◌}
use native.Mathlib.Nat.{add-mul, zero-add}
use native.Mathlib.Omega.{arith}
use lib.ListN.{length, take, drop, length-append}
use lib.Seq.{take_at, drop_at, drop-drop}
use Rattle.bits.specs.Bits.{bits_in, runs, octets_for, packed_into, Wide}
use Rattle.bits.proofs.Trip.{length_runs, runs_ext}
use Rattle.bits.proofs.Next.{bits_left, bits_right}
use Rattle.bits.proofs.Placed.{runs-split}

pub pack-append : (n : ℕ) (xs ys d : List ℕ) (k : ℕ) → Wide n (xs ++ ys) → Wide n ys → length xs * n ≡ k * 8
    → take k (packed_into n xs d) ++ packed_into n ys (drop k (packed_into n xs d)) ≡ packed_into n (xs ++ ys) d
unfolding packed_into
pack-append n xs ys d k w u e =
    let m = octets_for (length ys * n) in
    let X = runs (bits_in n xs) 0 8 k in
    let ox : octets_for (length xs * n) ≡ k = omega arith in
    let lx : length X ≡ k = length_runs (bits_in n xs) 0 8 k in
    let P : packed_into n xs d ≡ X ++ drop k d = ap (λ (o : ℕ). runs (bits_in n xs) 0 8 o ++ drop o d) ox in
    let T : take k (packed_into n xs d) ≡ X = ap (take k) P ∙ take_at X (drop k d) k lx in
    let D : drop k (packed_into n xs d) ≡ drop k d = ap (drop k) P ∙ drop_at X (drop k d) k lx in
    let p : length (xs ++ ys) * n ≡ length xs * n + length ys * n = ap (λ (z : ℕ). z * n) (length-append xs ys) ∙ add-mul (length xs) (length ys) n in
    let o : octets_for (length (xs ++ ys) * n) ≡ k + m = omega (arith, p, e) in
    let left : X ≡ runs (bits_in n (xs ++ ys)) 0 8 k =
    runs_ext (bits_in n xs) (bits_in n (xs ++ ys)) 0 0 8 k (λ i h. sym (bits_left n xs ys (0 + i) (omega (arith, e)))) in
    let right : runs (bits_in n ys) 0 8 m ≡ runs (bits_in n (xs ++ ys)) (0 + k * 8) 8 m =
    runs_ext (bits_in n ys) (bits_in n (xs ++ ys)) 0 (0 + k * 8) 8 m
    (λ i h. ap (bits_in n ys) (zero-add i) ∙ sym (bits_right n xs ys i w u)
    ∙ ap (bits_in n (xs ++ ys)) (omega (arith, e))) in
    ap₂ (λ (a b : List ℕ). a ++ (runs (bits_in n ys) 0 8 m ++ drop m b)) T D
    ∙ ap₂ (λ (a b : List ℕ). a ++ (b ++ drop m (drop k d))) left right
    ∙ ap (λ (z : List ℕ). runs (bits_in n (xs ++ ys)) 0 8 k ++ (runs (bits_in n (xs ++ ys)) (0 + k * 8) 8 m ++ z))
    (drop-drop m k d)
    ∙ sym (append_assoc (runs (bits_in n (xs ++ ys)) 0 8 k) (runs (bits_in n (xs ++ ys)) (0 + k * 8) 8 m)
    (drop (k + m) d))
    ∙ ap (λ (z : List ℕ). z ++ drop (k + m) d) (sym (runs-split (bits_in n (xs ++ ys)) 0 8 k m))
    ∙ ap (λ (z : ℕ). runs (bits_in n (xs ++ ys)) 0 8 z ++ drop z d) (sym o)
