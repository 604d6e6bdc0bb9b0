-- R from what the walk finds; and E from the greatest r, which alone decides it.
use mathlib.Core.Path.{◌≡◌, refl, sym, ap, ap₂, ◌∙◌, subst}
use mathlib.Core.Bool.{Bool, true, false, not, cond}
use mathlib.Core.Logic.{inl, ⊎_elim}
use mathlib.Core.List.{List}
use Prim.Native.Nat.{ℕ, zero, suc, ◌+◌, ◌^◌, ◌<◌, ◌≤◌}
use native.Mathlib.Omega.{arith}
use borrow.Author.Tests.{eqb-true, not-false}
use lib.Dec.{leb, eqb}
use lib.IntN.{ℤ, pos, nat_abs, ◌-ℤ◌}
use lib.Signed.{lt_z, mag}
use lib.ListN.{length, get_or}
use lib.Pow.{pow_pos}
use Rattle.bits.specs.Bits.{count}
use Rattle.bits.proofs.Below.{least}
use Rattle.bits.proofs.Runs.{lt_or_ge}
use Rattle.rules.specs.Bounds.{step_most}
use Rattle.rules.specs.Bitmap.{mark_of}
use Rattle.rules.specs.Checking.{Source, any_present}
use Rattle.rules.specs.Packing.{reference, stepped, above, too_wide, exponent}
use Rattle.laws.proofs.Lowest.{reference-under}
use Rattle.scaling.specs.Spread.{some_in, lowest_in, floor, Highest, spread_of, least_for}
use Rattle.scaling.proofs.Distances.{farther, floor-spread}
use Rattle.scaling.proofs.Stepping.{wide-none, wide-one, the_least}

-- R
module _ (numbers : List ℤ) (marks : List ℕ) (d : ℤ) where
  abbrev f : Source
  f = record { numbers = numbers; marks = marks; d = d }

  pub reference-is : (marked : Bool) (low r : ℤ) → marked ≡ some_in marks (length numbers)
      → low ≡ lowest_in numbers marks (length numbers) → r ≡ cond marked low (pos 0) → r ≡ reference f
  unfolding reference
  reference-is marked low r p q e =
      e ∙ ap₂ (λ (t : Bool) (z : ℤ). cond t z (pos 0)) p q
      ∙ turned (eqb (count (mark_of marks) 0 (length numbers)) 0) _ _
    where
      turned : (t : Bool) (x y : ℤ) → cond (not t) x y ≡ cond t y x
      turned true x y = refl
      turned false x y = refl

  -- E
  module _ (r high : ℤ) (bound : mag r < 2147483648) (p : r ≡ reference f)
      (h : Highest numbers marks (length numbers) high) where
    spread_at : (k : ℕ) → k < length numbers → mark_of marks k ≡ 1 → get_or numbers k (pos 0) ≡ high
        → spread_of r high ≡ above f k
    unfolding above
    spread_at k l here e =
        rw (← e) (let u : lt_z (get_or numbers k (pos 0)) r
        ≡ false = subst (λ (z : ℤ). lt_z (get_or numbers k (pos 0)) z ≡ false) (sym p) (reference-under f k l here) in
        rw u (ap (λ (z : ℤ). nat_abs (get_or numbers k (pos 0) -ℤ z)) p))

    most : (k : ℕ) → get_or numbers k (pos 0) ≡ high → (i : ℕ) → i < length numbers → mark_of marks i ≡ 1
        → above f i ≤ above f k
    unfolding above
    most k e i l here =
        farther (reference f) (get_or numbers i (pos 0)) (get_or numbers k (pos 0)) (reference-under f i l here)
        (subst (λ (z : ℤ). lt_z z (get_or numbers i (pos 0)) ≡ false) (sym e) (h.over i l here))

    wide_is : (bits e : ℕ) → leb (2 ^ bits) (stepped e (spread_of r high)) ≡ too_wide f bits e
    unfolding too_wide any_present
    wide_is bits e = ⊎_elim
        (λ n. ap (λ (x : ℕ). leb (2 ^ bits) (stepped e x)) (ap (spread_of r) n.1 ∙ floor-spread r bound)
        ∙ wide-none (2 ^ bits) e (mark_of marks) (above f) (length numbers) (pow_pos bits) n.0)
        (λ o. ap (λ (x : ℕ). leb (2 ^ bits) (stepped e x)) (spread_at o.at o.below o.here o.is)
        ∙ wide-one (2 ^ bits) e (mark_of marks) (above f) (length numbers) o.at o.below o.here
        (most o.at o.is))
        h.from

    pub exponent-is : (bits e s : ℕ) → s ≡ spread_of r high → e ≡ least_for bits s → e ≡ exponent f bits
    unfolding exponent
    exponent-is bits e s q g =
        let o = least (λ k. not (leb (2 ^ bits) (stepped k (spread_of r high)))) (suc step_most) in
        let b = least_for bits (spread_of r high) in
        g ∙ ap (least_for bits) q ∙ the_least (λ k. not (too_wide f bits k)) (suc step_most) b (record {
          within = o.within;
          passes = λ l. ap not (sym (wide_is bits b)) ∙ o.passes l;
          before = λ k l. ap not (sym (wide_is bits k)) ∙ o.before k l;
        })

-- where no point is present the floor is the highest
counted_zero : (f : ℕ → ℕ) (n : ℕ) → count f 0 n ≡ 0 → (i : ℕ) → i < n → f i ≡ 0
unfolding count
counted_zero f zero e i l = absurd (omega arith)
counted_zero f (suc n) e i l = ⊎_elim
    (λ (h : i < n). counted_zero f n (omega arith) i h)
    (λ (h : n ≤ i).
    let q : i ≡ 0 + n = omega arith in
    ap f q ∙ omega arith)
    (lt_or_ge i n)

pub none_highest : (numbers : List ℤ) (marks : List ℕ) (n : ℕ) → some_in marks n ≡ false → Highest numbers marks n floor
none_highest numbers marks n h =
    let none : (i : ℕ) → i < n → mark_of marks i ≡ 1 → ⊥ = λ i l e.
    let z = counted_zero (mark_of marks) n (eqb-true _ 0 (not-false _ h)) i l in
    omega arith in
    record { over = λ i l e. absurd (none i l e); from = inl (none, refl) }

-- the loop over E
abbrev fitting : ℕ → ℕ → ℕ → Bool
fitting bits r e = not (leb (2 ^ bits) (stepped e r))

abbrev pub NoneBefore : ℕ → ℕ → ℕ → Type 0
NoneBefore bits r e = (k : ℕ) → k < e → fitting bits r k ≡ false

module _ (bits r e : ℕ) (h : NoneBefore bits r e) where
  pub least-end : e ≡ suc step_most → e ≡ least_for bits r
  least-end l =
      the_least (fitting bits r) (suc step_most) e (record { within = omega arith; passes = λ m. absurd (omega arith); before = h })

  module _ (x : ℕ) (t : Bool) (p : x ≡ stepped e r) (q : t ≡ leb (2 ^ bits) x) where
    fitting-is : not t ≡ fitting bits r e
    fitting-is = ap not (q ∙ ap (leb (2 ^ bits)) p)

    pub least-found : e < suc step_most → not t ≡ true → e ≡ least_for bits r
    least-found l s =
        the_least (fitting bits r) (suc step_most) e (record { within = omega arith; passes = λ m. sym fitting-is ∙ s; before = h })
