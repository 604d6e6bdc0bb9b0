-- The chart of any shape: the point of a place inside is one of its points, and its rows, from north, have no more
-- points together than it has. By the two kinds of shape, and by induction on the rows.
use Rattle.std.specs.Prelude.{None, Some}
use Prim.Native.Nat.{ℕ, zero, suc, ◌+◌, ◌-◌, ◌*◌, ◌<◌, ◌≤◌}
use mathlib.Core.Bool.{Bool, true, false, ◌&&◌, cond}
use mathlib.Core.Path.{◌≡◌, refl, sym, subst, ◌∙◌, ap}
use mathlib.Core.List.{List}
use native.Mathlib.Nat.{mul_comm, suc-mul, zero-mul, zero-add, mul-le-mul_right}
use native.Mathlib.Numerals.{add-one}
use native.Mathlib.Omega.{arith}
use borrow.Author.Tests.{lt-ltb, ltb-true}
use lib.Arith.{digits_lt}
use lib.Dec.{ltb}
use lib.ListN.{length, get_or}
use Rattle.rules.specs.declared.{Rectangle.Rectangle, Thinning.Thinning, Shape.Shape, Shape.TheVariants.Even}
use Rattle.rules.specs.declared.{Shape.TheVariants.Uneven, Spot.Spot, GridPoint.GridPoint}
use Rattle.rules.specs.Counts.{total, the_before_row, counts_of}
use Rattle.rules.specs.Chart.{west, north, by_column, turned, point_of, across, the_point_among, the_points_on, the_rows_on, the_row_long}
use Rattle.rules.specs.Chart.{the_point_on, pointed}
use Rattle.bits.proofs.Tests.{both}
use Rattle.laws.proofs.Counts.{joined, before-first, before-next, before-most, before-all}

-- a direction turned: it stays below its bound, and it is its own way back
pub turned_lt : (t : Bool) (n i : ℕ) → i < n → turned t n i < n
unfolding turned
turned_lt true n i h = omega (arith, h)
turned_lt false n i h = h

pub turned-back : (t : Bool) (n i : ℕ) → i < n → turned t n (turned t n i) ≡ i
unfolding turned
turned-back true n i h = omega (arith, h)
turned-back false n i h = refl

-- a row inside the chart
pub row-even : (q : Rectangle) (r : ℕ) → r < q.nj → the_row_long (Even q) r ≡ q.ni
unfolding the_row_long
row-even q r h = ap (λ (t : Bool). cond t q.ni 0) (lt-ltb r q.nj h)

pub row-among : (counts : List ℕ) (scan r : ℕ) → r < length counts
    → across counts scan r ≡ get_or counts (turned (north scan) (length counts) r) 0
unfolding across
row-among counts scan r h =
    ap (λ (t : Bool). cond t (get_or counts (turned (north scan) (length counts) r) 0) 0) (lt-ltb r (length counts) h)

-- the point of a place inside
even-lt : (ni nj scan : ℕ) (c : Spot) → c.row < nj → c.column < ni → point_of ni nj scan c < ni * nj
unfolding point_of
even-lt ni nj scan c hr hc =
    go (by_column scan) _ _ (turned_lt (west scan) ni c.column hc) (turned_lt (north scan) nj c.row hr)
  where
    go : (t : Bool) (i j : ℕ) → i < ni → j < nj → cond t (i * nj + j) (j * ni + i) < ni * nj
    go true i j h k = digits_lt h k
    go false i j h k = subst (λ (x : ℕ). j * ni + i < x) (mul_comm nj ni) (digits_lt k h)

pub among-lt : (counts : List ℕ) (scan : ℕ) (c : Spot) → c.row < length counts
    → c.column < across counts scan c.row
    → the_point_among counts scan c < total counts
unfolding the_point_among
among-lt counts scan c hr hc =
    let j = turned (north scan) (length counts) c.row in
    let i = turned (west scan) (across counts scan c.row) c.column in
    (joined counts j i (turned_lt (north scan) (length counts) c.row hr)
    (subst (λ (x : ℕ). i < x) (row-among counts scan c.row hr)
    (turned_lt (west scan) (across counts scan c.row) c.column hc))).0

pub point-lt : (g : Shape) (c : Spot) → c.row < the_rows_on g → c.column < the_row_long g c.row → the_point_on g c < the_points_on g
unfolding the_points_on the_rows_on the_row_long the_point_on
point-lt (Even q) c hr hc =
    even-lt q.ni q.nj q.scan c hr (subst (λ (x : ℕ). c.column < x) (row-even q c.row hr) hc)
point-lt (Uneven u) c hr hc = among-lt (counts_of u.start) u.scan c hr hc

-- a place that has a point is inside, and the point is one of the shape's
at-is : (b : Bool) (x k : GridPoint) → cond b (Some x) None ≡ Some k → (b ≡ true) × (x ≡ k)
at-is true x k e = (refl, cc)
at-is false x k e = absurd (let z : ◌≡◌ {A = ℕ} 0 1 = cc in omega arith)

pub record Found (g : Shape) (c : Spot) (k : ℕ) : Type 0 where
  pub row : c.row < the_rows_on g
  pub column : c.column < the_row_long g c.row
  pub is : the_point_on g c ≡ k
  pub below : k < the_points_on g

pub found : (g : Shape) (c : Spot) (k : GridPoint) → pointed g c ≡ Some k → Found g c k.0
unfolding pointed
found g c k e =
    let h = at-is (ltb c.row (the_rows_on g) && ltb c.column (the_row_long g c.row)) (record { 0 = the_point_on g c }) k e in
    let b = both (ltb c.row (the_rows_on g)) (ltb c.column (the_row_long g c.row)) h.0 in
    let r = ltb-true c.row (the_rows_on g) b.0 in
    let l = ltb-true c.column (the_row_long g c.row) b.1 in
    let same : the_point_on g c ≡ k.0 = ap (λ (x : GridPoint). x.0) h.1 in
    record { row = r; column = l; is = same; below = subst (λ (x : ℕ). x < the_points_on g) same (point-lt g c r l) }

-- the points of the first rows
abbrev pub rows_to : Shape → ℕ → ℕ
rows_to g zero = 0
rows_to g (suc r) = rows_to g r + the_row_long g r

even-to : (q : Rectangle) (r : ℕ) → r ≤ q.nj → rows_to (Even q) r ≡ r * q.ni
even-to q zero h = sym (zero-mul q.ni)
even-to q (suc r) h =
    let a = even-to q r (omega (arith, h)) in
    let b = row-even q r (omega (arith, h)) in
    omega (arith, a, b, suc-mul r q.ni)

-- those of a thinned octant, in the order of the message or from the other end
module _ (u : Thinning) where
  abbrev counts : List ℕ
  counts = counts_of u.start

  abbrev n : ℕ
  n = length counts

  turned-to : (r : ℕ) → r < n → (b : Bool) → north u.scan ≡ b
      → the_row_long (Uneven u) r ≡ get_or counts (turned b n r) 0
  unfolding the_row_long
  turned-to r h b e = row-among counts u.scan r h ∙ ap (λ (t : Bool). get_or counts (turned t n r) 0) e

  south_to : north u.scan ≡ false → (r : ℕ) → r ≤ n → rows_to (Uneven u) r ≡ the_before_row counts r
  unfolding turned
  south_to e zero h = sym (before-first counts)
  south_to e (suc r) h =
      let a = south_to e r (omega (arith, h)) in
      let b = turned-to r (omega (arith, h)) false e in
      let c = before-next counts r (omega (arith, h)) in
      omega (arith, a, b, c) ∙ ap (the_before_row counts) (add-one r)

  north-to : north u.scan ≡ true → (r : ℕ) → r ≤ n → rows_to (Uneven u) r + the_before_row counts (n - r) ≡ total counts
  unfolding turned
  north-to e zero h =
      let d : n - 0 ≡ n = omega arith in
      zero-add (the_before_row counts (n - 0)) ∙ ap (the_before_row counts) d ∙ before-all counts
  north-to e (suc r) h =
      let k = n - 1 - r in
      let a = north-to e r (omega (arith, h)) in
      let b : the_row_long (Uneven u) r ≡ get_or counts k 0 = turned-to r (omega (arith, h)) true e in
      let c = before-next counts k (omega (arith, h)) in
      let d : the_before_row counts (k + 1) ≡ the_before_row counts (n - r) = ap (the_before_row counts) (omega (arith, h)) in
      let f : the_before_row counts (n - suc r) ≡ the_before_row counts k = ap (the_before_row counts) (omega (arith, h)) in
      omega (arith, a, b, c, d, f)

  uneven-to : (b : Bool) → north u.scan ≡ b → (r : ℕ) → r ≤ n → rows_to (Uneven u) r ≤ total counts
  uneven-to true e r h = omega (arith, north-to e r h)
  uneven-to false e r h = omega (arith, south_to e r h, before-most counts r)

pub rows-to : (g : Shape) (r : ℕ) → r ≤ the_rows_on g → rows_to g r ≤ the_points_on g
unfolding the_points_on the_rows_on
rows-to (Even q) r h =
    let m : r * q.ni ≤ q.nj * q.ni = mul-le-mul_right q.ni h in
    omega (arith, even-to q r h, m, mul_comm q.nj q.ni)
rows-to (Uneven u) r h = uneven-to u (north u.scan) refl r h
