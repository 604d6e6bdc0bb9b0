-- A count turned stays below its bound, and a point's number fits; where a shape of each kind has a point, and a place;
-- what is answered at a place on the chart. By cases and arithmetic.
use Rattle.std.specs.Prelude.{Some, None}
use mathlib.Core.Path.{◌≡◌, sym, ap, ◌∙◌, subst}
use mathlib.Core.Bool.{Bool, true, false, ◌&&◌, cond}
use Prim.Native.Nat.{ℕ, ◌+◌, ◌*◌, ◌<◌}
use native.Mathlib.Omega.{arith}
use borrow.Author.Tests.{ltb-true, lt-ltb}
use lib.Dec.{ltb}
use lib.ListN.{length}
use Rattle.bits.proofs.Products.{product, left-positive, right_positive}
use Rattle.bits.proofs.Tests.{and_left, and_right}
use Rattle.laws.proofs.Flags.{bit_1, bit_2, bit_3}
use Rattle.rules.specs.declared.{Rectangle.Rectangle, Thinning.Thinning, Shape.Shape, Shape.TheVariants.Even}
use Rattle.rules.specs.declared.{Shape.TheVariants.Uneven}
use Rattle.rules.specs.declared.{Spot.Spot}
use Rattle.rules.specs.Counts.{counts_of}
use Rattle.rules.specs.Chart.{turned, across}
use Rattle.rules.specs.Chart.{the_points_on, the_rows_on, the_row_long, the_point_on, pointed}

-- the scanning flags as the code tests them
pub ruleset flags = (bit_1, bit_2, bit_3)

pub turned_lt : (turn : Bool) (n i r : ℕ) → r ≡ turned turn n i → i < n → r < n
unfolding turned
turned_lt true n i r e h = omega arith
turned_lt false n i r e h = omega arith

-- a count times a side, and another count, fit 32 bits
fits : (i m j : ℕ) → i < 65536 → m < 65536 → j < 65536 → (i * m < 4294967296) × (i * m + j < 4294967296)
fits i m j a b c = let h : i * m < 4294836226 = product 65535 65535 4294836226 tt i m (omega arith) (omega arith) in (omega arith, omega arith)

module _ (t u : Bool) (ni nj row column j i : ℕ) (ej : j ≡ turned t nj row) (ei : i ≡ turned u ni column)
    (hj : row < nj) (hi : column < ni) (bi : ni < 65536) (bj : nj < 65536) where
  pub columns-fit : (i * nj < 4294967296) × (i * nj + j < 4294967296)
  columns-fit =
      fits i nj j (omega (arith, turned_lt u ni column i ei hi)) bj (omega (arith, turned_lt t nj row j ej hj))

  pub rows_fit : (j * ni < 4294967296) × (j * ni + i < 4294967296)
  rows_fit = fits j ni i (omega (arith, turned_lt t nj row j ej hj)) bi (omega (arith, turned_lt u ni column i ei hi))

-- two tests that hold together
pub both : (a b c d : ℕ) → (ltb a b && ltb c d) ≡ true → (a < b) × (c < d)
both a b c d e = (ltb-true a b (and_left (ltb a b) (ltb c d) e), ltb-true c d (and_right (ltb a b) (ltb c d) e))

-- a rectangle
module _ (g : Shape) (q : Rectangle) (e : g ≡ Even q) where
  -- where it has a point, and a place
  pub sides : (k : ℕ) → k < the_points_on g → (0 < q.ni) × (0 < q.nj)
  unfolding the_points_on
  sides k l =
      let h : k < q.ni * q.nj = subst (λ (x : Shape). k < the_points_on x) e l in
      (left-positive q.ni q.nj k h, right_positive q.ni q.nj k h)

  pub inside : (c : Spot) → c.row < the_rows_on g → c.column < the_row_long g c.row → (c.row < q.nj) × (c.column < q.ni)
  unfolding the_rows_on the_row_long
  inside c r l =
      let h : c.row < q.nj = subst (λ (x : Shape). c.row < the_rows_on x) e r in
      let m : c.column < cond (ltb c.row q.nj) q.ni 0 = subst (λ (x : Shape). c.column < the_row_long x c.row) e l in
      (h, subst (λ (t : Bool). c.column < cond t q.ni 0) (lt-ltb c.row q.nj h) m)

-- the rows of a thinned octant
module _ (g : Shape) (u : Thinning) (e : g ≡ Uneven u) where
  pub among : (c : Spot) → c.row < the_rows_on g → c.column < the_row_long g c.row
      → (c.row < length (counts_of u.start)) × (c.column < across (counts_of u.start) u.scan c.row)
  unfolding the_rows_on the_row_long
  among c r l =
      (subst (λ (x : Shape). c.row < the_rows_on x) e r, subst (λ (x : Shape). c.column < the_row_long x c.row) e l)

-- a place among n rows, m points long the one it names
module _ (g : Shape) (c : Spot) (n m : ℕ) (e : n ≡ the_rows_on g) (f : m ≡ the_row_long g c.row) where
  same : (ltb c.row n && ltb c.column m) ≡ (ltb c.row (the_rows_on g) && ltb c.column (the_row_long g c.row))
  same = λ i. ltb c.row (e i) && ltb c.column (f i)

  pub within : (ltb c.row n && ltb c.column m) ≡ true → (c.row < the_rows_on g) × (c.column < the_row_long g c.row)
  within t = both c.row (the_rows_on g) c.column (the_row_long g c.row) (sym same ∙ t)

  pub at : (ltb c.row n && ltb c.column m) ≡ true → (k : ℕ) → k ≡ the_point_on g c
      → Some (record { 0 = k }) ≡ pointed g c
  unfolding pointed
  at t k h =
      ap (λ (x : ℕ). Some (record { 0 = x })) h
      ∙ sym (ap (λ (b : Bool). cond b (Some (record { 0 = the_point_on g c })) None) (sym same ∙ t))
