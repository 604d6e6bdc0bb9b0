-- A table of refusals read in stages: the rows that gave nothing may be left behind, and a row that gave something ends
-- it.
use mathlib.Core.Path.{◌≡◌, refl, sym, ap, ◌∙◌}
use mathlib.Core.Bool.{true, false, cond}
use mathlib.Core.List.{List, [], ◌∷◌, ◌++◌}
use Prim.Native.Nat.{ℕ}
use lib.Dec.{T, eqb, ltb, ltb→lt}
use borrow.Author.Tests.{eq-eqb, ne_eqb}
use native.Mathlib.Omega.{arith}
use Rattle.rules.specs.declared.{Refusal.Refusal}
use Rattle.rules.specs.Table.{Row, given, first_or, first, accepted}
use Rattle.laws.specs.Tables.{Clear}
use Rattle.laws.proofs.Rows.{Numbered, row-numbered, clear, true-is}

-- rows, and then more rows
pub or_append : (xs ys : List Row) (z : Refusal) → first_or (xs ++ ys) z ≡ first_or xs (first_or ys z)
unfolding first_or
or_append [] ys z = refl
or_append (given r t ∷ xs) ys z = ap (cond t r) (or_append xs ys z)

above : (n : ℕ) → T (ltb 0 n) → n ≡ 0 → ⊥
above n h e = let l = ltb→lt 0 n h in omega arith

-- what follows the rows is asked for where they accept
pub staged : (rows : List Row) (x : Refusal) → Numbered rows
    → first_or rows x ≡ cond (accepted (first rows)) x (first rows)
unfolding first first_or
staged [] x h = refl
staged (given r true ∷ rows) x h =
    let e : eqb r.number 0 ≡ false = ne_eqb r.number 0 (above r.number (row-numbered r true rows h).0) in rw e
staged (given r false ∷ rows) x h = staged rows x (row-numbered r false rows h).1

module _ (xs ys : List Row) (z r : Refusal) (h : Numbered xs) (e : r ≡ first xs) where
  -- the first rows refuse
  pub stop : (r.number ≡ 0 → ⊥) → r ≡ first_or (xs ++ ys) z
  stop n =
      let t : eqb (first xs).number 0 ≡ false = ap (λ (q : Refusal). eqb q.number 0) (sym e) ∙ ne_eqb r.number 0 n in
      e ∙ sym (or_append xs ys z ∙ staged xs (first_or ys z) h ∙ rw t)

  -- they do not, and the others decide
  pub go_on : r.number ≡ 0 → (q : Refusal) → q ≡ first_or ys z → q ≡ first_or (xs ++ ys) z
  go_on n q f =
      let t : eqb (first xs).number 0 ≡ true = ap (λ (q : Refusal). eqb q.number 0) (sym e) ∙ eq-eqb r.number 0 n in
      f ∙ sym (or_append xs ys z ∙ staged xs (first_or ys z) h ∙ rw t)

-- none of the rows applies where their reply is 0
pub passed : (rows : List Row) → Numbered rows → (first rows).number ≡ 0 → Clear rows
passed rows h e = clear rows h (true-is (eqb (first rows).number 0) (eq-eqb (first rows).number 0 e))
