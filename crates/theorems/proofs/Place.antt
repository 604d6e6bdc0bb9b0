-- Demand 2: place and point determine each other on every grid. Once, over any list of counts: of the lines of a grid in
-- message order, a point is a line and a position in it, each turned or not. A rectangle's lines have equal counts, its
-- rows, or its columns where bit 3 is set; an octant's are its rows.
use Rattle.std.specs.Prelude.{None, Some}
use Prim.Native.Nat.{ℕ, zero, suc, ◌+◌, ◌-◌, ◌*◌, ◌/◌, ◌%◌, ◌<◌, ◌≤◌}
use mathlib.Core.Bool.{Bool, true, false, ◌&&◌, cond}
use mathlib.Core.Path.{◌≡◌, refl, sym, subst, ◌∙◌, ap}
use mathlib.Core.List.{List}
use native.Mathlib.Omega.{arith}
use native.Mathlib.Nat.{zero-mul, suc-mul, mul-zero, mul-suc, mul_comm, mod-lt, div-add-mod', div-lt_iff_lt-mul}
use borrow.Author.Tests.{lt-ltb, ltb-true}
use lib.Dec.{ltb}
use lib.ListN.{length, get_or, replicate, length-replicate, get_or-replicate}
use Rattle.bits.proofs.Products.{left-positive}
use Rattle.rules.specs.declared.{Shape.Shape, Shape.TheVariants.Even}
use Rattle.rules.specs.declared.{Shape.TheVariants.Uneven, GridPoint.GridPoint, Spot.Spot}
use Rattle.rules.specs.Counts.{total, row_of, in_row, the_before_row, counts_of}
use Rattle.rules.specs.Chart.{west, north, by_column, turned, spot_of, point_of, the_spot_among, across, the_point_among, the_points_on}
use Rattle.rules.specs.Chart.{the_rows_on, the_row_long, the_spot_on, the_point_on, charted, pointed}
use Rattle.theorems.specs.Reads.{ChartDrawn, PlacePoint, PlacePointAnswers, EqualCounts}
use Rattle.laws.proofs.Counts.{parted, joined}
use Rattle.laws.proofs.Charts.{turned_lt, turned-back, row-even, row-among, found}

-- lines of these counts, t and u whether lines and positions are turned
module _ (counts : List ℕ) (t u : Bool) where
  abbrev line_of : ℕ → ℕ
  line_of k = turned t (length counts) (row_of counts k)

  abbrev along_of : ℕ → ℕ
  along_of k = turned u (get_or counts (row_of counts k) 0) (in_row counts k)

  abbrev long : ℕ → ℕ
  long l = get_or counts (turned t (length counts) l) 0

  abbrev number_of : ℕ → ℕ → ℕ
  number_of l i = the_before_row counts (turned t (length counts) l) + turned u (long l) i

  pub record Lined (k : ℕ) : Type 0 where
    pub line : line_of k < length counts
    pub along : along_of k < long (line_of k)
    pub is : number_of (line_of k) (along_of k) ≡ k

  pub lined : (k : ℕ) → k < total counts → Lined k
  lined k l =
      let h = parted counts k l in
      let n = get_or counts (row_of counts k) 0 in
      let r = turned-back t (length counts) (row_of counts k) h.0 in
      let w = turned-back u n (in_row counts k) h.1 in
      record {
        line = turned_lt t (length counts) (row_of counts k) h.0;
        along = subst (λ (x : ℕ). along_of k < get_or counts x 0) (sym r) (turned_lt u n (in_row counts k) h.1);
        is =
            (λ i. the_before_row counts (r i) + turned u (get_or counts (r i) 0) (along_of k))
            ∙ ap (λ (x : ℕ). the_before_row counts (row_of counts k) + x) w ∙ h.2;
      }

  pub record Numbered (l i : ℕ) : Type 0 where
    pub few : number_of l i < total counts
    pub line : line_of (number_of l i) ≡ l
    pub along : along_of (number_of l i) ≡ i

  pub numbered : (l i : ℕ) → l < length counts → i < long l → Numbered l i
  numbered l i hl hi =
      let j = turned t (length counts) l in
      let h = joined counts j (turned u (long l) i) (turned_lt t (length counts) l hl) (turned_lt u (long l) i hi) in
      record {
        few = h.0;
        line = ap (turned t (length counts)) h.1 ∙ turned-back t (length counts) l hl;
        along = (λ x. turned u (get_or counts (h.1 x) 0) (h.2 x)) ∙ turned-back u (long l) i hi;
      }

-- equal counts: m lines of c points each; a line and a position are quotient and remainder
total-equal : (m c : ℕ) → total (replicate m c) ≡ c * m
unfolding total
total-equal zero c = sym (mul-zero c)
total-equal (suc m) c = omega (arith, total-equal m c, mul-suc c m)

before-equal : (m c j : ℕ) → j ≤ m → the_before_row (replicate m c) j ≡ j * c
unfolding the_before_row
before-equal zero c zero h = sym (zero-mul c)
before-equal zero c (suc j) h = absurd (omega (arith, h))
before-equal (suc m) c zero h = sym (zero-mul c)
before-equal (suc m) c (suc j) h = omega (arith, before-equal m c j (omega (arith, h)), suc-mul j c)

module _ (m c : ℕ) where
  abbrev equal : List ℕ
  equal = replicate m c

  divided : (k : ℕ) → k < c * m → (row_of equal k ≡ k / c) × (in_row equal k ≡ k % c) × (k / c < m)
  divided k l =
      let p = left-positive c m k l in
      let hj : k / c < m = (div-lt_iff_lt-mul p).1 (subst (λ (x : ℕ). k < x) (mul_comm c m) l) in
      let n = get_or-replicate m (k / c) c 0 hj in
      let hi : k % c < get_or equal (k / c) 0 = subst (λ (x : ℕ). k % c < x) (sym n) (mod-lt k p) in
      let h = joined equal (k / c) (k % c) (subst (λ (x : ℕ). k / c < x) (sym (length-replicate m c)) hj) hi in
      let f = before-equal m c (k / c) (omega (arith, hj)) in
      let e : the_before_row equal (k / c) + k % c ≡ k = ap (λ (x : ℕ). x + k % c) f ∙ div-add-mod' k c in
      (ap (row_of equal) (sym e) ∙ h.1, ap (in_row equal) (sym e) ∙ h.2, hj)

  module _ (t u : Bool) where
    line-equal : (k : ℕ) → k < c * m → line_of equal t u k ≡ turned t m (k / c)
    line-equal k l = λ i. turned t (length-replicate m c i) ((divided k l).0 i)

    along-equal : (k : ℕ) → k < c * m → along_of equal t u k ≡ turned u c (k % c)
    along-equal k l =
        let d = divided k l in
        let n : get_or equal (row_of equal k) 0 ≡ c = ap (λ (x : ℕ). get_or equal x 0) d.0 ∙ get_or-replicate m (k / c) c 0 d.2 in
        λ i. turned u (n i) (d.1 i)

    long-equal : (l : ℕ) → l < m → long equal t u l ≡ c
    long-equal l h =
        ap (λ (x : ℕ). get_or equal (turned t x l) 0) (length-replicate m c)
        ∙ get_or-replicate m (turned t m l) c 0 (turned_lt t m l h)

    number-equal : (l i : ℕ) → l < m → number_of equal t u l i ≡ turned t m l * c + turned u c i
    number-equal l i h =
        (λ x. the_before_row equal (turned t (length-replicate m c x) l) + turned u (long-equal l h x) i)
        ∙ ap (λ (x : ℕ). x + turned u c i) (before-equal m c (turned t m l) (omega (arith, turned_lt t m l h)))

    abbrev at : ℕ → ℕ → ℕ
    at l i = turned t m l * c + turned u c i

    pub equal-there : (k : ℕ) → k < c * m
        → (turned t m (k / c) < m) × (turned u c (k % c) < c) × (at (turned t m (k / c)) (turned u c (k % c)) ≡ k)
    equal-there k h =
        let d = lined equal t u k (subst (λ (x : ℕ). k < x) (sym (total-equal m c)) h) in
        let el = line-equal k h in
        let ea = along-equal k h in
        let hd = subst (λ (x : ℕ). line_of equal t u k < x) (length-replicate m c) d.line in
        let hl : turned t m (k / c) < m = subst (λ (x : ℕ). x < m) el hd in (
          hl,
          turned_lt u c (k % c) (mod-lt k (left-positive c m k h)),
          sym (number-equal (turned t m (k / c)) (turned u c (k % c)) hl)
              ∙ (λ x. number_of equal t u (sym el x) (sym ea x)) ∙ d.is,
        )

    pub equal-back : (l i : ℕ) → l < m → i < c
        → (at l i < c * m) × (turned t m (at l i / c) ≡ l) × (turned u c (at l i % c) ≡ i)
    equal-back l i hl hi =
        let hr = subst (λ (x : ℕ). l < x) (sym (length-replicate m c)) hl in
        let hc = subst (λ (x : ℕ). i < x) (sym (long-equal l hl)) hi in
        let n = numbered equal t u l i hr hc in
        let e = number-equal l i hl in
        let all = subst (λ (x : ℕ). x < total equal) e n.few in
        let few : at l i < c * m = subst (λ (x : ℕ). at l i < x) (total-equal m c) all in (
          few,
          sym (line-equal (at l i) few) ∙ ap (line_of equal t u) (sym e) ∙ n.line,
          sym (along-equal (at l i) few) ∙ ap (along_of equal t u) (sym e) ∙ n.along,
        )

-- a rectangle, its rows or its columns being the lines
module _ (ni nj scan : ℕ) where
  -- its definitions, by bit 3
  abbrev spot_by : Bool → ℕ → Spot
  spot_by b k = record {
    row = turned (north scan) nj (cond b (k % nj) (k / ni));
    column = turned (west scan) ni (cond b (k / nj) (k % ni));
  }

  abbrev point_by : Bool → Spot → ℕ
  point_by b c =
      cond b (turned (west scan) ni c.column * nj + turned (north scan) nj c.row)
      (turned (north scan) nj c.row * ni + turned (west scan) ni c.column)

  even-there : (b : Bool) (k : ℕ) → k < ni * nj
      → ((spot_by b k).row < nj) × ((spot_by b k).column < ni) × (point_by b (spot_by b k) ≡ k)
  even-there false k l = equal-there nj ni (north scan) (west scan) k l
  even-there true k l =
      let h = equal-there ni nj (west scan) (north scan) k (subst (λ (x : ℕ). k < x) (mul_comm ni nj) l) in
      (h.1, h.0, h.2)

  even-back : (b : Bool) (c : Spot) → c.row < nj → c.column < ni
      → (point_by b c < ni * nj) × (spot_by b (point_by b c) ≡ c)
  even-back false c hr hc =
      let h = equal-back nj ni (north scan) (west scan) c.row c.column hr hc in
      (h.0, λ i. record { row = h.1 i; column = h.2 i })
  even-back true c hr hc =
      let h = equal-back ni nj (west scan) (north scan) c.column c.row hc hr in
      (subst (λ (x : ℕ). point_by true c < x) (mul_comm nj ni) h.0, λ i. record { row = h.2 i; column = h.1 i })

-- "The chart's row 0 is north and column 0 is west": the place of point i of scanned row j, by the way back
pub chart-drawn : ChartDrawn
unfolding spot_of turned
chart-drawn ni nj scan j i hj hi = go (by_column scan)
  where
    go : (b : Bool)
        → spot_by ni nj scan b (cond b (i * nj + j) (j * ni + i))
        ≡ record { row = cond (north scan) (nj - 1 - j) j; column = cond (west scan) (ni - 1 - i) i }
    go b =
        let c : Spot = record { row = turned (north scan) nj j; column = turned (west scan) ni i } in
        let r = turned-back (north scan) nj j hj in
        let k = turned-back (west scan) ni i hi in
        ap (spot_by ni nj scan b) (λ x. cond b (sym k x * nj + sym r x) (sym r x * ni + sym k x))
        ∙ (even-back ni nj scan b c (turned_lt (north scan) nj j hj) (turned_lt (west scan) ni i hi)).1

-- an octant, its rows being the lines
module _ (counts : List ℕ) (scan : ℕ) where
  among_there : (k : ℕ) → k < total counts
      → ((the_spot_among counts scan k).row < length counts)
      × ((the_spot_among counts scan k).column < across counts scan (the_spot_among counts scan k).row)
      × (the_point_among counts scan (the_spot_among counts scan k) ≡ k)
  unfolding the_spot_among the_point_among
  among_there k l =
      let h = lined counts (north scan) (west scan) k l in
      let e = row-among counts scan (line_of counts (north scan) (west scan) k) h.line in (
        h.line,
        subst (λ (x : ℕ). along_of counts (north scan) (west scan) k < x) (sym e) h.along,
        ap (λ (x : ℕ). the_before_row counts (turned (north scan) (length counts) (line_of counts (north scan) (west scan) k))
            + turned (west scan) x (along_of counts (north scan) (west scan) k)) e
            ∙ h.is,
      )

  among-back : (c : Spot) → c.row < length counts → c.column < across counts scan c.row
      → (the_point_among counts scan c < total counts) × (the_spot_among counts scan (the_point_among counts scan c) ≡ c)
  unfolding the_spot_among the_point_among
  among-back c hr hc =
      let e = row-among counts scan c.row hr in
      let h = numbered counts (north scan) (west scan) c.row c.column hr (subst (λ (x : ℕ). c.column < x) e hc) in
      let b = the_before_row counts (turned (north scan) (length counts) c.row) in
      let f = ap (λ (x : ℕ). b + turned (west scan) x c.column) e in
      let n : the_point_among counts scan c ≡ number_of counts (north scan) (west scan) c.row c.column = f in (
        subst (λ (x : ℕ). x < total counts) (sym n) h.few,
        ap (the_spot_among counts scan) n ∙ (λ i. record { row = h.line i; column = h.along i }),
      )

pub place-point : PlacePoint
unfolding the_points_on the_rows_on the_row_long the_spot_on the_point_on spot_of point_of
place-point (Even q) = (
  λ k l.
      let h = even-there q.ni q.nj q.scan (by_column q.scan) k l in
      (h.0, subst (λ (x : ℕ). (spot_of q.ni q.nj q.scan k).column < x) (sym (row-even q _ h.0)) h.1, h.2),
  λ c r l.
      even-back q.ni q.nj q.scan (by_column q.scan) c r
      (subst (λ (x : ℕ). c.column < x) (row-even q c.row r) l),
)
place-point (Uneven u) = (among_there (counts_of u.start) u.scan, among-back (counts_of u.start) u.scan)

-- the rectangle scanned by rows is the case of equal counts
pub equal-counts : EqualCounts
unfolding the_spot_among the_point_among spot_of point_of
equal-counts ni nj scan way = (
  total-equal nj ni,
  λ k l.
      (λ i. record {
        row = line-equal nj ni (north scan) (west scan) k l i;
        column = along-equal nj ni (north scan) (west scan) k l i;
      })
      ∙ ap (λ (b : Bool). spot_by ni nj scan b k) (sym way),
  λ c r l.
      ap (λ (x : ℕ). the_before_row (replicate nj ni) (turned (north scan) (length (replicate nj ni)) c.row)
      + turned (west scan) x c.column)
      (row-among (replicate nj ni) scan c.row (subst (λ (x : ℕ). c.row < x) (sym (length-replicate nj ni)) r))
      ∙ number-equal nj ni (north scan) (west scan) c.row c.column r
      ∙ ap (λ (b : Bool). point_by ni nj scan b c) (sym way),
)

-- as answered: on the chart exactly where its number is a point's
on-is : (b : Bool) (x c : Spot) → cond b (Some x) None ≡ Some c → (b ≡ true) × (x ≡ c)
on-is true x c e = (refl, cc)
on-is false x c e = absurd (let z : ◌≡◌ {A = ℕ} 0 1 = cc in omega arith)

module _ (g : Shape) (k : GridPoint) (c : Spot) where
  on-chart : the_spot_on g k.0 ≡ c → k.0 < the_points_on g → charted g k ≡ Some c
  unfolding charted
  on-chart e l = ap (λ (b : Bool). cond b (Some (the_spot_on g k.0)) None) (lt-ltb k.0 (the_points_on g) l) ∙ ap Some e

  at-point : the_point_on g c ≡ k.0 → c.row < the_rows_on g → c.column < the_row_long g c.row → pointed g c ≡ Some k
  unfolding pointed
  at-point e r l =
      let a = lt-ltb c.row (the_rows_on g) r in
      let b = lt-ltb c.column (the_row_long g c.row) l in
      λ i. cond (a i && b i) (Some (record { 0 = e i })) None

  to : charted g k ≡ Some c → pointed g c ≡ Some k
  unfolding charted
  to e =
      let h = on-is (ltb k.0 (the_points_on g)) (the_spot_on g k.0) c e in
      let q = (place-point g).0 k.0 (ltb-true k.0 (the_points_on g) h.0) in
      at-point (ap (the_point_on g) (sym h.1) ∙ q.2)
      (subst (λ (x : Spot). x.row < the_rows_on g) h.1 q.0)
      (subst (λ (x : Spot). x.column < the_row_long g x.row) h.1 q.1)

  from : pointed g c ≡ Some k → charted g k ≡ Some c
  from e =
      let f = found g c k e in
      let q = (place-point g).1 c f.row f.column in
      on-chart (ap (the_spot_on g) (sym f.is) ∙ q.1) f.below

pub place-point-answers : PlacePointAnswers
place-point-answers g k c = (to g k c, from g k c)
