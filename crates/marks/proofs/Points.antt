-- What loops over marks have shown of the points passed: counts and tests, turn by turn; and points past the end of a
-- list add nothing.
use mathlib.Core.Path.{◌≡◌, refl, sym, ap, ap₂, ◌∙◌, subst}
use mathlib.Core.Bool.{Bool, true, false, not, cond, ◌&&◌, ◌||◌}
use mathlib.Core.List.{List}
use Prim.Native.Nat.{ℕ, zero, suc, ◌+◌, ◌-◌, ◌*◌, ◌/◌, ◌%◌, ◌^◌, ◌≤◌, ◌<◌}
use native.Mathlib.Nat.{zero-add, add-zero, add-suc}
use native.Mathlib.Numerals.{add-one}
use native.Mathlib.Omega.{arith}
use borrow.Author.Tests.{ne_eqb}
use lib.Dec.{T, ltb, leb, eqb}
use lib.ListN.{length, get_or, get_or-eq_default}
use Rattle.bits.specs.Bits.{bit_of, bits_in, count}
use Rattle.bits.specs.Tables.{any_below}
use Rattle.bits.proofs.Runs.{Bits}
use Rattle.bits.proofs.Ones.{count-le, count-split, count-zero}
use Rattle.bits.proofs.Below.{any_none, any_next, none_below}
use Rattle.widths.proofs.Lists.{below-least}
use Rattle.rules.specs.Bitmap.{mark_of, mark_odd, value_of}
use Rattle.laws.specs.Marks.{here}
use Rattle.marks.specs.Marks.{the_all_present, the_none_marked, strays, marks_differ}

pub mark-past : (marks : List ℕ) (i : ℕ) → length marks ≤ i → mark_of marks i ≡ 0
mark-past marks i h = get_or-eq_default marks 0 h

value-past : (values : List ℕ) (i : ℕ) → length values ≤ i → value_of values i ≡ 0
value-past values i h = get_or-eq_default values 0 h

-- a bit of a bitmap, as the code takes it
pub map-bit : (map : List ℕ) (k i : ℕ) → get_or map (k + i / 8) 0 / 2 ^ (7 - i % 8) % 2 ≡ bits_in 8 map (k * 8 + i)
unfolding bits_in bit_of
map-bit map k i =
    let d : k + i / 8 ≡ (k * 8 + i) / 8 = omega arith in
    let m : i % 8 ≡ (k * 8 + i) % 8 = omega arith in
    ap₂ (λ (a b : ℕ). get_or map a 0 / 2 ^ (7 - b) % 2) d m

-- the points present, counted
few : (b : Bool) → cond b 1 0 < 2
few true = omega arith
few false = omega arith

pub here-few : (marks : List ℕ) → Bits (here marks)
unfolding here
here-few marks i = few (eqb (mark_of marks i) 1)

pub count_none : (marks : List ℕ) (p : ℕ) → 0 ≡ count (here marks) p 0
unfolding count
count_none marks p = refl

pub count-one : (marks : List ℕ) (p i m x : ℕ) → m ≡ count (here marks) p i
    → x ≡ cond (eqb (get_or marks (p + i) 0) 1) 1 0 → m + x ≡ count (here marks) p (i + 1)
unfolding count here
count-one marks p i m x e f = rw add-one (ap₂ (λ (a b : ℕ). a + b) e f)

pub one-few : (x m : ℕ) → x ≡ cond (eqb m 1) 1 0 → x < 2
one-few x m e = subst (λ (y : ℕ). y < 2) (sym e) (few (eqb m 1))

pub count-few : (marks : List ℕ) (p i : ℕ) → count (here marks) p i ≤ i
count-few marks p i = count-le (here-few marks) p i

-- more of them at once
pub count-more : (marks : List ℕ) (i c m x : ℕ) → m ≡ count (here marks) 0 i → x ≡ count (here marks) i c
    → m + x ≡ count (here marks) 0 (i + c)
count-more marks i c m x e f =
    ap₂ (λ (a b : ℕ). a + b) e (f ∙ ap (λ (a : ℕ). count (here marks) a c) (sym (zero-add i)))
    ∙ sym (count-split (here marks) 0 i c)

pub count-all : (marks : List ℕ) (n i c : ℕ) → i + c ≡ n - (n - length marks)
    → count (here marks) 0 (i + c) ≡ count (here marks) 0 n
unfolding here
count-all marks n i c e =
    let d : i + c + (n - (i + c)) ≡ n = omega arith in
    sym (ap (count (here marks) 0) (sym d) ∙ count-split (here marks) 0 (i + c) (n - (i + c))
    ∙ ap (λ (x : ℕ). count (here marks) 0 (i + c) + x)
    (count-zero (here marks) (0 + (i + c)) (n - (i + c)) (λ j l. rw (mark-past marks (0 + (i + c) + j) (omega arith))))
    ∙ add-zero (count (here marks) 0 (i + c)))

-- tests: one that passes; and none from e on
some_below : (f : ℕ → Bool) (n i : ℕ) → i < n → f i ≡ true → any_below f n ≡ true
some_below f n i l p = go (any_below f n) refl
  where
    go : (b : Bool) → any_below f n ≡ b → any_below f n ≡ true
    go true e = e
    go false e = absurd (subst T (sym p ∙ none_below f n e i l) tt)

or_nothing : (b : Bool) → (b || false) ≡ b
or_nothing true = refl
or_nothing false = refl

and_nothing : (b : Bool) → (b && false) ≡ false
and_nothing true = refl
and_nothing false = refl

any_from : (f : ℕ → Bool) (e r : ℕ) → ((i : ℕ) → e ≤ i → i < e + r → f i ≡ false) → any_below f e ≡ any_below f (e + r)
unfolding any_below
any_from f e zero h = sym (ap (any_below f) (add-zero e))
any_from f e (suc r) h =
    any_from f e r (λ i a b. h i a (omega arith))
    ∙ sym (ap (any_below f) (add-suc e r)
    ∙ ap (λ (x : Bool). any_below f (e + r) || x) (h (e + r) (omega arith) (omega arith))
    ∙ or_nothing (any_below f (e + r)))

any_past : (f : ℕ → Bool) (e n : ℕ) → e ≤ n → ((i : ℕ) → e ≤ i → i < n → f i ≡ false) → any_below f e ≡ any_below f n
any_past f e n l h =
    let d : e + (n - e) ≡ n = omega arith in
    any_from f e (n - e) (λ i a b. h i a (omega arith)) ∙ ap (any_below f) d

-- all present
pub present-none : (marks : List ℕ) → false ≡ any_below (λ k. not (eqb (mark_of marks k) 1)) 0
present-none marks = any_none _

pub present-more : (marks : List ℕ) (i : ℕ) (gap : Bool) → gap ≡ any_below (λ k. not (eqb (mark_of marks k) 1)) i
    → gap || not (eqb (get_or marks i 0) 1) ≡ any_below (λ k. not (eqb (mark_of marks k) 1)) (i + 1)
present-more marks i gap e = any_next (λ k. not (eqb (mark_of marks k) 1)) i gap _ e refl

pub present-short : (marks : List ℕ) (n : ℕ) → length marks < n → false ≡ the_all_present marks n
unfolding the_all_present
present-short marks n l =
    sym (ap not
    (some_below (λ k. not (eqb (mark_of marks k) 1)) n (length marks) l
    (rw (mark-past marks (length marks) (omega arith)))))

-- marks other than 0
twice : (y : Bool) → not (not y) ≡ y
twice true = refl
twice false = refl

none_both : (a b : ℕ) → (not (eqb a 0) || not (eqb b 0)) ≡ not (eqb (a + b) 0)
none_both zero b = ap (λ (x : ℕ). not (eqb x 0)) (sym (zero-add b))
none_both (suc a) b =
    ap (λ (x : Bool). not x || not (eqb b 0)) (ne_eqb (suc a) 0 (λ e. omega arith))
    ∙ sym (ap not (ne_eqb (suc a + b) 0 (λ e. omega arith)))

pub marked-none : (marks : List ℕ) → false ≡ not (the_none_marked marks 0)
unfolding the_none_marked count
marked-none marks = refl

pub marked_more : (marks : List ℕ) (i : ℕ) (a : Bool) → a ≡ not (the_none_marked marks i)
    → (a || not (eqb (get_or marks i 0) 0)) ≡ not (the_none_marked marks (i + 1))
unfolding the_none_marked count
marked_more marks i a p =
    rw add-one
    (ap₂ (λ (x : Bool) (k : ℕ). x || not (eqb (mark_of marks k) 0)) p (sym (zero-add i))
    ∙ none_both (count (mark_of marks) 0 i) (mark_of marks (0 + i)))

pub marked-done : (marks : List ℕ) (n e : ℕ) (a : Bool) → e ≡ n - (n - length marks) → a ≡ not (the_none_marked marks e)
    → not a ≡ the_none_marked marks n
unfolding the_none_marked
marked-done marks n e a l p =
    let d : e + (n - e) ≡ n = omega arith in
    ap not p ∙ twice (eqb (count (mark_of marks) 0 e) 0)
    ∙ ap (λ (x : ℕ). eqb x 0) (sym (ap (count (mark_of marks) 0) (sym d) ∙ count-split (mark_of marks) 0 e (n - e)
    ∙ ap (λ (x : ℕ). count (mark_of marks) 0 e + x)
    (count-zero (mark_of marks) (0 + e) (n - e) (λ j k. mark-past marks (0 + e + j) (omega (arith, k))))
    ∙ add-zero (count (mark_of marks) 0 e)))

-- marks other than 0 and 1, by the bits of all of them
pub odd-done : (marks : List ℕ) (n e all : ℕ) → e ≡ n - (n - length marks)
    → ltb all (2 ^ 1) ≡ not (any_below (λ k. leb (2 ^ 1) (mark_of marks k)) e) → ltb 1 all ≡ mark_odd marks n
odd-done marks n e all l h =
    let f : ℕ → Bool = λ k. ltb 1 (mark_of marks k) in
    sym (twice (ltb 1 all)) ∙ ap not (sym (below-least all 2) ∙ h) ∙ twice (any_below f e)
    ∙ any_past f e n (omega arith) (λ i a b. rw (mark-past marks i (omega arith)))

-- values at absent points
pub stray-none : (values marks : List ℕ) → false ≡ strays values marks 0
unfolding strays
stray-none values marks = any_none _

module _ (values marks : List ℕ) (bad : Bool) (i : ℕ) (e : bad ≡ strays values marks i) where
  pub stray-more : bad || (eqb (get_or marks i 0) 0 && not (eqb (get_or values i 0) 0)) ≡ strays values marks (i + 1)
  unfolding strays
  stray-more = any_next (λ i. eqb (mark_of marks i) 0 && not (eqb (value_of values i) 0)) i bad _ e refl

  pub stray_unmarked : length marks ≤ i → bad || not (eqb (get_or values i 0) 0) ≡ strays values marks (i + 1)
  unfolding strays
  stray_unmarked l =
      any_next (λ i. eqb (mark_of marks i) 0 && not (eqb (value_of values i) 0)) i bad _ e (rw (mark-past marks i l))

  pub stray-done : (n : ℕ) → i ≡ n - (n - length values) → bad ≡ strays values marks n
  unfolding strays
  stray-done n l = e ∙ any_past (λ i. eqb (mark_of marks i) 0 && not (eqb (value_of values i) 0)) i n (omega arith)
      (λ j a b. rw (value-past values j (omega arith)) (and_nothing (eqb (mark_of marks j) 0)))

-- bits unlike the marks
pub unlike-none : (map marks : List ℕ) (k : ℕ) → false ≡ marks_differ map k marks 0
unfolding marks_differ
unlike-none map marks k = any_none _

pub unlike-more : (map marks : List ℕ) (k i x y : ℕ) (bad : Bool) → bad ≡ marks_differ map k marks i
    → x ≡ get_or map (k + i / 8) 0 → y ≡ get_or marks i 0
    → bad || not (eqb (x / 2 ^ (7 - i % 8) % 2) y) ≡ marks_differ map k marks (i + 1)
unfolding marks_differ
unlike-more map marks k i x y bad e a b =
    any_next (λ i. not (eqb (bits_in 8 map (k * 8 + i)) (mark_of marks i))) i bad _ e
    (ap₂ (λ (u v : ℕ). not (eqb u v)) (ap (λ (u : ℕ). u / 2 ^ (7 - i % 8) % 2) a ∙ map-bit map k i) b)
