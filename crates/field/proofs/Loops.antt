-- What the loops over values and marks leave: unpacked to the front, spread to their points; each from the loops' own
-- promises.
use mathlib.Core.Path.{◌≡◌, sym, ap, ◌∙◌}
use mathlib.Core.List.{List, ◌++◌}
use Prim.Native.Nat.{ℕ, ◌+◌, ◌*◌, ◌≤◌}
use native.Mathlib.Nat.{zero-add}
use native.Mathlib.Omega.{arith}
use lib.ListN.{length, drop}
use Rattle.bits.specs.Bits.{bits_in, count, runs}
use Rattle.bits.specs.Tables.{tab}
use Rattle.bits.proofs.Runs.{bits_in-bits}
use Rattle.bits.proofs.Ones.{count-le}
use Rattle.bits.proofs.Trip.{length_runs}
use Rattle.runs.specs.Take.{unpacked}
use Rattle.runs.proofs.Lists.{unpacked-fits}
use Rattle.rules.specs.Points.{value_at, scattered}
use Rattle.marks.specs.Marks.{marked_by}
use Rattle.marks.proofs.Bitmaps.{marked_ext}
use Rattle.field.proofs.Spreading.{spread-front}

pub unpack-done : (s v o : List ℕ) (at n m : ℕ) → n ≤ 24 → m ≤ length v → o ≡ unpacked s at n m v
    → o ≡ runs (bits_in 8 s) at n m ++ drop m v
unpack-done s v o at n m a b e = e ∙ unpacked-fits s v at n m a b

-- no more points are present than there are
pub few : (bm : List ℕ) (n m l : ℕ) → m ≡ count (bits_in 8 bm) 0 n → n ≤ l → m ≤ l
few bm n m l e h = omega (arith, count-le (bits_in-bits 8 bm) 0 n)

pub some-values : (s bm v o p : List ℕ) (at bits n m : ℕ) → bits ≤ 24 → m ≡ count (bits_in 8 bm) 0 n → n ≤ length v
    → o ≡ unpacked s at bits m v
    → p ≡ tab (value_at (bits_in 8 bm) o) n ++ drop n o
    → p ≡ scattered (bits_in 8 bm) (runs (bits_in 8 s) at bits m) n ++ drop n v
unfolding scattered
some-values s bm v o p at bits n m w e h u t =
    let xs = runs (bits_in 8 s) at bits m in
    let l : length xs ≡ m = length_runs (bits_in 8 s) at bits m in
    let d : o ≡ xs ++ drop (length xs) v = unpack-done s v o at bits m w (few bm n m (length v) e h) u ∙ ap (λ (x : ℕ). xs ++ drop x v) (sym l) in
    t ∙ ap (λ (x : List ℕ). tab (value_at (bits_in 8 bm) x) n ++ drop n x) d
    ∙ spread-front (bits_in-bits 8 bm) xs v n (l ∙ e) h

pub some-marks : (bm v o : List ℕ) (n : ℕ) → o ≡ marked_by (λ i. bits_in 8 bm (0 * 8 + i)) n v
    → o ≡ marked_by (bits_in 8 bm) n v
some-marks bm v o n e =
    e ∙ marked_ext (λ i. bits_in 8 bm (0 * 8 + i)) (bits_in 8 bm) n v (λ i l. ap (bits_in 8 bm) (zero-add i))
