-- The touched octets become the number of their kept bits, v and zeros.
use mathlib.Core.Path.{◌≡◌, refl, sym, ap, ◌∙◌, subst}
use mathlib.Core.List.{List}
use Prim.Native.Nat.{ℕ, ◌+◌, ◌*◌, ◌-◌, ◌/◌, ◌%◌, ◌^◌, ◌<◌, ◌≤◌}
use native.Mathlib.Nat.{add-zero}
use borrow.Author.Rules.{rules}
use native.Mathlib.Omega.{arith}
use lib.ListN.{get_or}
use Rattle.bits.specs.Bits.{run, number_at, Wide}
use Rattle.bits.proofs.Placed.{F, add-fits, machine, all-lt, put_law}
use Rattle.packs.proofs.fields.placed.Goals as goal

module _ (out : List ℕ) (from n v : ℕ) (w : Wide 8 out) (b : v < 2 ^ n) (h : n ≤ 32) (x : ℕ)
    (e : x ≡ get_or out (from / 8 + 0) 0) where
  kept : x ≡ get_or out (from / 8) 0
  kept = e ∙ ap (λ (i : ℕ). get_or out i 0) (add-zero (from / 8))

  fits : x / 2 ^ (8 - from % 8) * 2 ^ n % 2 ^ 64 + v < 2 ^ 64
  fits = rw kept (add-fits out from n v w b h)

  -- the number of the touched octets, as the machine makes it
  all-is : (k : ℕ) → k ≡ (from % 8 + n + 7) / 8
      → (x / 2 ^ (8 - from % 8) * 2 ^ n % 2 ^ 64 + v) * 2 ^ (k * 8 - from % 8 - n) % 2 ^ 64
      ≡ run (F out from n v w b) (from / 8 * 8) (k * 8)
  all-is k o = rw kept (machine out from n v w b h k (k * 8 - from % 8 - n) (omega arith) (omega arith))

pub store-requires-clause-x_bound : goal.store-requires-clause-x_bound
store-requires-clause-x_bound c =
    let a = c.args in
    let k = (a.from % 8 + a.n + 7) / 8 in
    subst (λ (x : ℕ). x < 2 ^ (k * 8))
    (sym (all-is a.out.now a.from a.n a.v (λ i. search rules) c.requires.v_bound (omega arith) _ c.at.ensures k refl))
    (all-lt a.out.now a.from a.n a.v _ _ k)

pub returns : goal.returns
returns c =
    let a = c.args in
    let k = (a.from % 8 + a.n + 7) / 8 in
    c.store.ensures
    ∙ ap (number_at a.out.now (a.from / 8) k)
    (all-is a.out.now a.from a.n a.v (λ i. search rules) c.requires.v_bound (omega arith) _ c.at.ensures k refl)
    ∙ put_law a.out.now a.from a.n a.v _ _ k (omega arith) (omega arith)
