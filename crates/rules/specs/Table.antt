-- Document 01, "Reply numbers": a table of refusals is read from the top. Document 02, R-2: what a refusal tells beside
-- its number.
use Rattle.std.specs.Prelude.{ℕ, Bool, false, ◌||◌, cond, List, [], ◌∷◌, ◌++◌, eqb, length, drop}
use Rattle.rules.specs.declared.{Refusal.Refusal}

-- R-2: "each with the section's number and its first octet's place in the message"
abbrev pub the_refusal_at : ℕ → ℕ → ℕ → Refusal
the_refusal_at n section place = record { number = n; section = section; place = place }

-- "They alone return two fields that may not be zero": a refusal by its number
abbrev pub refusal : ℕ → Refusal
refusal n = the_refusal_at n 0 0

pub data Row : Type 0 where
  given : Refusal → Bool → Row

-- a row's tests, joined by "or": ((a || b) || c) of a ∷ b ∷ c ∷ [], as code joins them by |
unfoldable pub or_all : Bool → List Bool → Bool
or_all a [] = a
or_all a (b ∷ tests) = or_all (a || b) tests

unfoldable pub any_of : List Bool → Bool
any_of [] = false
any_of (a ∷ tests) = or_all a tests

-- "Given exactly when": a number and its test; and the same with what R-2 tells
abbrev pub row : ℕ → Bool → Row
row n test = given (refusal n) test

abbrev pub row_at : ℕ → ℕ → ℕ → Bool → Row
row_at n section place test = given (the_refusal_at n section place) test

-- "The first that applies in number order is given, by reader and writer", whose rows stand in that order, the reader's
-- 20 to 23 "where 5 stood"; the checker's and the packer's stand in their own. "0 is acceptance": what the rows give,
-- and `below` where none applies (a `let` waits: no test below a row that applies is computed)
unfoldable pub first_or : List Row → Refusal → Refusal
first_or [] below = below
first_or (given r test ∷ rows) below = let rest = first_or rows below in cond test r rest

unfoldable pub first : List Row → Refusal
first rows = first_or rows (refusal 0)

abbrev pub accepted : Refusal → Bool
accepted r = eqb r.number 0

-- "Every other reply returns its number with all counts and fields zero": what is answered, of what was found and of
-- zeros
abbrev pub answered {ℓ} : {A : Type ℓ} → Refusal → A → A → A
answered r found zeros = cond (accepted r) found zeros

-- "and no lent element changes": a lent list afterwards, whose front is written and whose "later ones stay"
unfoldable pub filled : Refusal → List ℕ → List ℕ → List ℕ
filled r front lent = answered r (front ++ drop (length front) lent) lent
