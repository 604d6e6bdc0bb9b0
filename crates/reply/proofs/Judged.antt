-- A table's reply row by row, and rows after rows, as code that leaves at the first refusal gives it.
use Rattle.std.proofs.Common.{◌≡◌, ◌∙◌, refl, ap, Bool, true, false, cond, List, [], ◌∷◌, ◌++◌, ℕ, arith}
use Rattle.std.specs.Prelude.{Result, Ok, Err, IsErrAnd}
use Rattle.std.proofs.lemmas.Result.{err_from_is_err_and}
use lib.Dec.{T, eqb, ltb, ltb→lt}
use borrow.Author.Tests.{ne_eqb}
use Rattle.rules.specs.declared.{Refusal.Refusal}
use Rattle.rules.specs.Table.{Row, given, first_or, first, accepted, refusal}
use Rattle.rules.specs.Answers.{replied, judged}
use Rattle.laws.specs.Tables.{Clear}
use Rattle.laws.proofs.Rows.{Numbered, row-numbered}

-- what one row gives
abbrev pub reply_is : Result (Unit {0}) Refusal → Refusal → Bool → Type 0
reply_is x q t = x ≡ cond t (Err q) (Ok tt)

pub row_stops : (q : Refusal) (t : Bool) (rows : List Row) (r : Refusal) → reply_is (Err r) q t → Err r ≡ judged (given q t ∷ rows)
unfolding judged
row_stops q true rows r e = e
row_stops q false rows r e = absurd (cc e)

pub row_passes : (q : Refusal) (t : Bool) (rows : List Row) (u : Unit {0}) → reply_is (Ok u) q t → judged rows ≡ judged (given q t ∷ rows)
unfolding judged
row_passes q true rows u e = absurd (cc e)
row_passes q false rows u e = refl

-- a row that let pass, and one that did not
pub passed_as : (t : Bool) (q : Refusal) (u : Unit {0}) → reply_is (Ok u) q t → t ≡ false
passed_as true q u e = absurd (cc e)
passed_as false q u e = refl

pub stopped-as : (t : Bool) (q r : Refusal) → reply_is (Err r) q t → (t ≡ true) × (r ≡ q)
stopped-as true q r e = (refl, cc)
stopped-as false q r e = absurd (cc e)

pub stops : (xs ys : List Row) (r : Refusal) → Err r ≡ judged xs → Err r ≡ judged (xs ++ ys)
unfolding judged
stops [] ys r e = absurd (cc e)
stops (given q true ∷ xs) ys r e = e
stops (given q false ∷ xs) ys r e = stops xs ys r e

pub goes_on : (xs ys : List Row) (u : Unit {0}) → Ok u ≡ judged xs → judged ys ≡ judged (xs ++ ys)
unfolding judged
goes_on [] ys u e = refl
goes_on (given q true ∷ xs) ys u e = absurd (cc e)
goes_on (given q false ∷ xs) ys u e = goes_on xs ys u e

-- what rows and then more rows give: the first refusal
abbrev pub then_judged : Result (Unit {0}) Refusal → Result (Unit {0}) Refusal → Result (Unit {0}) Refusal
then_judged (Ok u) next = next
then_judged (Err r) next = Err r

pub judged_append : (xs ys : List Row) → judged (xs ++ ys) ≡ then_judged (judged xs) (judged ys)
unfolding judged
judged_append [] ys = refl
judged_append (given q true ∷ xs) ys = refl
judged_append (given q false ∷ xs) ys = judged_append xs ys

-- what leaves at a refusal
pub left_by : {A : Type 0} (x : Result A Refusal) (r : Refusal) → IsErrAnd x (λ y. y ≡ r) → x ≡ Err r
left_by x r h = let p = err_from_is_err_and x h in p.1 ∙ ap Err p.2

-- what is answered where rows have gone by
abbrev pub answer_after : {A : Type 0} → Result (Unit {0}) Refusal → A → Result A Refusal
answer_after (Ok u) found = Ok found
answer_after (Err r) found = Err r

pub replied_after : {A : Type 0} (r : Refusal) (found : A) → replied r found ≡ answer_after (replied r tt) found
replied_after r found = elim (accepted r) as (λ b. cond b (Ok found) (Err r) ≡ answer_after (cond b (Ok tt) (Err r)) found) [ true ↦ refl | false ↦ refl ]

above : (n : ℕ) → T (ltb 0 n) → n ≡ 0 → ⊥
above n h e = let l = ltb→lt 0 n h in omega arith

-- the same by the table's refusal
pub judged-first : (rows : List Row) → Numbered rows → judged rows ≡ replied (first rows) tt
unfolding judged first first_or
judged-first [] h = refl
judged-first (given r true ∷ rows) h =
    let e : eqb r.number 0 ≡ false = ne_eqb r.number 0 (above r.number (row-numbered r true rows h).0) in rw e
judged-first (given r false ∷ rows) h = judged-first rows (row-numbered r false rows h).1

-- what an answer of the rows says of the table's refusal
pub passed : (rows : List Row) (u : Unit {0}) → Ok u ≡ judged rows → Clear rows
unfolding judged
passed [] u e = tt
passed (given r true ∷ rows) u e = absurd (cc e)
passed (given r false ∷ rows) u e = (refl, passed rows u e)

pub taken_first : (rows : List Row) (u : Unit {0}) → Ok u ≡ judged rows → first rows ≡ refusal 0
unfolding judged first first_or
taken_first [] u e = refl
taken_first (given r true ∷ rows) u e = absurd (cc e)
taken_first (given r false ∷ rows) u e = taken_first rows u e

pub refused_first : (rows : List Row) → Numbered rows → (r : Refusal) → Err r ≡ judged rows
    → (first rows ≡ r) × (accepted r ≡ false)
unfolding judged first first_or
refused_first [] h r e = absurd (cc e)
refused_first (given q true ∷ rows) h r e =
    let k : eqb q.number 0 ≡ false = ne_eqb q.number 0 (above q.number (row-numbered q true rows h).0) in (cc, cc)
refused_first (given q false ∷ rows) h r e = refused_first rows (row-numbered q false rows h).1 r e

-- rows that let pass leave the refusal to those below
pub passed_over : (rows : List Row) (u : Unit {0}) → Ok u ≡ judged rows → (below : Refusal) → first_or rows below ≡ below
unfolding judged first_or
passed_over [] u e below = refl
passed_over (given r true ∷ rows) u e below = absurd (cc e)
passed_over (given r false ∷ rows) u e below = passed_over rows u e below

-- a row that lets pass does not apply
pub let_pass : (q : Refusal) (t : Bool) (u : Unit {0}) → reply_is (Ok u) q t → t ≡ false
let_pass q true u e = absurd (cc e)
let_pass q false u e = refl
