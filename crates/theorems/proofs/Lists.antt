-- A lent list that an accepted call filled from a table: at a place below the table's length, its front, and the rest;
-- by the definition of `filled`.
use Prim.Native.Nat.{ℕ, ◌<◌}
use mathlib.Core.Bool.{Bool, cond}
use mathlib.Core.Path.{◌≡◌, sym, subst, ◌∙◌, ap}
use mathlib.Core.List.{List, ◌++◌}
use lib.Dec.{T}
use lib.ListN.{length, get_or, take, drop, get_or-append}
use Rattle.bits.specs.Tables.{tab}
use Rattle.bits.proofs.Fill.{length-tab, get_or-tab}
use Rattle.rules.specs.declared.{Refusal.Refusal}
use Rattle.rules.specs.Table.{accepted, filled}
use Rattle.laws.proofs.Rows.{is_true}
use Rattle.theorems.proofs.Replies.{accepted_fills}

pub filled_at : (r : Refusal) (g : ℕ → ℕ) (n : ℕ) (lent : List ℕ) (i : ℕ) → T (accepted r) → i < n
    → get_or (filled r (tab g n) lent) i 0 ≡ g i
unfolding filled
filled_at r g n lent i t l =
    ap (λ (b : Bool). get_or (cond b (tab g n ++ drop (length (tab g n)) lent) lent) i 0) (is_true (accepted r) t)
    ∙ get_or-append (tab g n) _ 0 i (subst (λ (x : ℕ). i < x) (sym (length-tab g n)) l) ∙ get_or-tab g n i 0 l

pub filled-front : (r : Refusal) (g : ℕ → ℕ) (n : ℕ) (lent : List ℕ) → T (accepted r)
    → take n (filled r (tab g n) lent) ≡ tab g n
filled-front r g n lent t =
    subst (λ (k : ℕ). take k (filled r (tab g n) lent) ≡ tab g n) (length-tab g n)
    (accepted_fills r (tab g n) lent t).written

pub filled-after : (r : Refusal) (g : ℕ → ℕ) (n : ℕ) (lent : List ℕ) → T (accepted r)
    → drop n (filled r (tab g n) lent) ≡ drop n lent
filled-after r g n lent t =
    subst (λ (k : ℕ). drop k (filled r (tab g n) lent) ≡ drop k lent) (length-tab g n)
    (accepted_fills r (tab g n) lent t).kept
