-- Tables of refusals and lists of tests: a table accepts exactly when no row applies, and a row's tests fail together
-- exactly when each does; by induction on the list.
use Prim.Native.Nat.{ℕ, ◌≤◌, ◌<◌}
use mathlib.Core.Bool.{Bool, true, false, not, ◌||◌, ◌&&◌, cond}
use mathlib.Core.Path.{◌≡◌, refl, sym, subst, ◌∙◌, ap}
use mathlib.Core.List.{List, [], ◌∷◌, ◌++◌}
use native.Mathlib.Nat.{lt_irrefl}
use borrow.Author.Tests.{le-ltb, ltb-false, eq-eqb}
use lib.Dec.{T, ltb, eqb, eqb→eq, ltb→lt}
use lib.Ieee.Fits.{and_l, and_r}
use Rattle.rules.specs.declared.{Refusal.Refusal}
use Rattle.rules.specs.Numbers.{not_within}
use Rattle.rules.specs.Table.{Row, given, refusal, accepted, first_or, first, or_all, any_of}
use Rattle.laws.specs.Tables.{Clear}
use Rattle.bits.proofs.Tests.{or_false, or_none}

-- the rows of a table all have a number that is not acceptance's: a test that computes whatever the rows ask, so that
-- of a table that is written out it is `tt`
abbrev numbered : List Row → Bool
numbered [] = true
numbered (given r test ∷ rows) = ltb 0 r.number && numbered rows

abbrev pub Numbered : List Row → Type 0
Numbered rows = T (numbered rows)

-- the first row's number, and the other rows'
pub row-numbered : (r : Refusal) (test : Bool) (rows : List Row) → Numbered (given r test ∷ rows)
    → T (ltb 0 r.number) × Numbered rows
row-numbered r test rows h = (and_l (ltb 0 r.number) (numbered rows) h, and_r (ltb 0 r.number) (numbered rows) h)

-- rows after rows
and_map : (x y z : Bool) → (T y → T z) → T (x && y) → T (x && z)
and_map true y z f h = f h
and_map false y z f h = h

pub numbered-append : (a b : List Row) → Numbered a → Numbered b → Numbered (a ++ b)
numbered-append [] b h k = k
numbered-append (given r test ∷ a) b h k =
    and_map (ltb 0 r.number) (numbered a) (numbered (a ++ b)) (λ q. numbered-append a b q k) h

pub passed : (r : Refusal) (test : Bool) (below : Refusal) → T (ltb 0 r.number) → T (accepted (cond test r below))
    → (test ≡ false) × T (accepted below)
passed r true below p t =
    absurd (lt_irrefl 0 (subst (λ (k : ℕ). 0 < k) (eqb→eq r.number 0 t) (ltb→lt 0 r.number p)))
passed r false below p t = (refl, t)

pub clear : (rows : List Row) → Numbered rows → T (accepted (first rows)) → Clear rows
unfolding first first_or
clear [] p t = tt
clear (given r test ∷ rows) p t =
    let n = row-numbered r test rows p in
    let h = passed r test (first rows) n.0 t in
    (h.0, clear rows n.1 h.1)

pub clear-parts : (a b : List Row) → Clear (a ++ b) → Clear a × Clear b
clear-parts [] b h = (tt, h)
clear-parts (given r test ∷ a) b h =
    let k = clear-parts a b h.1 in
    ((h.0, k.0), k.1)

pub clear-join : (a b : List Row) → Clear a → Clear b → Clear (a ++ b)
clear-join [] b h k = k
clear-join (given r test ∷ a) b h k = (h.0, clear-join a b h.1 k)

-- rows that do not apply, in front of others
pub first-after : (a b : List Row) → Clear a → first (a ++ b) ≡ first b
unfolding first first_or
first-after [] b h = refl
first-after (given r test ∷ a) b h = ap (λ (t : Bool). cond t r (first (a ++ b))) h.0 ∙ first-after a b h.1

pub accepts : (rows : List Row) → Clear rows → first rows ≡ refusal 0
unfolding first first_or
accepts [] h = refl
accepts (given r test ∷ rows) h = ap (λ (t : Bool). cond t r (first rows)) h.0 ∙ accepts rows h.1

-- an accepted table's reply is refusal 0: nothing rebuilds a refusal from its number
pub zero_of : (rows : List Row) → Numbered rows → accepted (first rows) ≡ true → first rows ≡ refusal 0
zero_of rows h e = accepts rows (clear rows h (subst T (sym e) tt))

pub taken-by : (r : Refusal) → r ≡ refusal 0 → T (accepted r)
taken-by r e = subst (λ (x : Refusal). T (accepted x)) (sym e) tt

-- none of the tests of a list applies
abbrev pub NoneOf : List Bool → Type 0
NoneOf [] = Unit
NoneOf (a ∷ tests) = (a ≡ false) × NoneOf tests

or-all : (a : Bool) (tests : List Bool) → or_all a tests ≡ false → (a ≡ false) × NoneOf tests
unfolding or_all
or-all a [] e = (e, tt)
or-all a (b ∷ tests) e =
    let h = or-all (a || b) tests e in
    let k = or_false a b h.0 in
    (k.0, (k.1, h.1))

pub none_of : (tests : List Bool) → any_of tests ≡ false → NoneOf tests
unfolding any_of
none_of [] e = tt
none_of (a ∷ tests) e = or-all a tests e

all_none : (a : Bool) (tests : List Bool) → a ≡ false → NoneOf tests → or_all a tests ≡ false
unfolding or_all
all_none a [] e h = e
all_none a (b ∷ tests) e h = all_none (a || b) tests (or_none a b e h.0) h.1

pub any_none : (tests : List Bool) → NoneOf tests → any_of tests ≡ false
unfolding any_of
any_none [] h = refl
any_none (a ∷ tests) h = all_none a tests h.0 h.1

-- single tests
pub is_true : (b : Bool) → T b → b ≡ true
is_true true t = refl
is_true false t = absurd t

pub true-is : (b : Bool) → b ≡ true → T b
true-is b e = subst T (sym e) tt

pub clash {ℓ} : {A : Type ℓ} (b : Bool) → b ≡ true → b ≡ false → A
clash b p q = absurd (subst T (sym p ∙ q) tt)

not-not : (b : Bool) → not b ≡ false → T b
not-not true e = tt
not-not false e = subst T e tt

pub and_false : (a b : Bool) → a ≡ true → (a && b) ≡ false → b ≡ false
and_false a b t e = ap (λ (x : Bool). x && b) (sym t) ∙ e

pub gated : (b x : Bool) → (b ≡ true → x ≡ false) → (b && x) ≡ false
gated true x h = h refl
gated false x h = refl

pub is_eq : (a b : ℕ) → not (eqb a b) ≡ false → a ≡ b
is_eq a b e = eqb→eq a b (not-not (eqb a b) e)

pub not_eq : (a b : ℕ) → a ≡ b → not (eqb a b) ≡ false
not_eq a b e = ap not (eq-eqb a b e)

-- a number within its range
pub inside : (least most n : ℕ) → not_within least most n ≡ false → (least ≤ n) × (n ≤ most)
inside least most n e =
    let h = or_false (ltb n least) (ltb most n) e in
    (ltb-false n least h.0, ltb-false most n h.1)

pub outside-no : (least most n : ℕ) → least ≤ n → n ≤ most → not_within least most n ≡ false
outside-no least most n a b = or_none (ltb n least) (ltb most n) (le-ltb n least a) (le-ltb most n b)

-- tests joined
pub none_both : (a b : List Bool) → NoneOf a → NoneOf b → NoneOf (a ++ b)
none_both [] b h k = k
none_both (t ∷ a) b h k = (h.0, none_both a b h.1 k)

pub none-parts : (a b : List Bool) → NoneOf (a ++ b) → NoneOf a × NoneOf b
none-parts [] b h = (tt, h)
none-parts (t ∷ a) b h = let k = none-parts a b h.1 in ((h.0, k.0), k.1)
