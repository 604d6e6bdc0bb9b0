-- Two results that a contract fixes by the same equations are the same: a law for each number of its clauses, each
-- clause a plain statement.
use mathlib.Core.Path.{◌≡◌, sym, ◌∙◌}
use seplogic.Ra.Ura.{Ura}
use base.Logic.{SProp, ent, id⊢, via, sep, fst∗, snd∗}
use contract.Monad.{conj, conj_l, conj_r, fact, fact_i, fact_use}
use denote.Triple.Clauses.{Ended}
use Rattle.tight.specs.Tight.{Call}

module _ {M : Type 1} (𝓤 : Ura M) where
  -- whoever has P learns φ
  abbrev Says : SProp 𝓤 → Type 0 → Type 1
  Says P φ = ent 𝓤 P (fact 𝓤 φ)

  itself : (φ : Type 0) → Says (fact 𝓤 φ) φ
  itself φ = id⊢ 𝓤 (fact 𝓤 φ)

  beside : (P Q : SProp 𝓤) (φ ψ : Type 0) → Says P φ → Says Q ψ → Says (sep 𝓤 P Q) (φ × ψ)
  beside P Q φ ψ p q =
      fact_use 𝓤 φ (via 𝓤 P (fst∗ 𝓤 P Q) p)
      (λ x. fact_use 𝓤 ψ (via 𝓤 Q (snd∗ 𝓤 P Q) q) (λ y. fact_i 𝓤 (φ × ψ) (sep 𝓤 P Q) (x, y)))

  -- what follows from what P says and what Q says
  together : (P Q : SProp 𝓤) (φ ψ χ : Type 0) → Says P φ → Says Q ψ → (φ → ψ → χ) → Says (conj 𝓤 P Q) χ
  together P Q φ ψ χ p q f =
      fact_use 𝓤 φ (via 𝓤 P (conj_l 𝓤 P Q) p)
      (λ x. fact_use 𝓤 ψ (via 𝓤 Q (conj_r 𝓤 P Q) q) (λ y. fact_i 𝓤 χ (conj 𝓤 P Q) (f x y)))

  -- clauses as a contract joins them
  abbrev Two : (φ ψ : Type 0) → SProp 𝓤
  Two φ ψ = sep 𝓤 (fact 𝓤 φ) (fact 𝓤 ψ)

  abbrev Three : (φ ψ χ : Type 0) → SProp 𝓤
  Three φ ψ χ = sep 𝓤 (fact 𝓤 φ) (Two ψ χ)

  two : (φ ψ : Type 0) → Says (Two φ ψ) (φ × ψ)
  two φ ψ = beside (fact 𝓤 φ) (fact 𝓤 ψ) φ ψ (itself φ) (itself ψ)

  three : (φ ψ χ : Type 0) → Says (Three φ ψ χ) (φ × (ψ × χ))
  three φ ψ χ = beside (fact 𝓤 φ) (Two ψ χ) φ (ψ × χ) (itself φ) (two ψ χ)

module _ {T : Ended} (k : Call T) where
  -- one clause, whatever it says
  pub by_clause : {φ ψ χ : Type 0} → (φ → ψ → χ) → Says k.𝓤 (conj k.𝓤 (fact k.𝓤 φ) (fact k.𝓤 ψ)) χ
  by_clause {φ} {ψ} {χ} f = together k.𝓤 (fact k.𝓤 φ) (fact k.𝓤 ψ) φ ψ χ (itself k.𝓤 φ) (itself k.𝓤 ψ) f

  -- the reply is what v is; where no list is lent there is one thing that ws and vs can be
  pub by-reply : {X W : Type 0} {v x y : X} {ws vs : W} → ws ≡ vs
      → Says k.𝓤 (conj k.𝓤 (fact k.𝓤 (x ≡ v)) (fact k.𝓤 (y ≡ v))) ((x ≡ y) × (ws ≡ vs))
  by-reply e = by_clause λ p q. (p ∙ sym q, e)

  -- and one lent list is what l is; f puts it among all that was passed
  pub by-list : {X L W : Type 0} {v x y : X} {l a b : L} {ws vs : W} → (a ≡ b → ws ≡ vs)
      → Says k.𝓤 (conj k.𝓤 (Two k.𝓤 (x ≡ v) (a ≡ l)) (Two k.𝓤 (y ≡ v) (b ≡ l))) ((x ≡ y) × (ws ≡ vs))
  by-list f =
      together k.𝓤 _ _ _ _ _ (two k.𝓤 _ _) (two k.𝓤 _ _) λ p q. (p.0 ∙ sym q.0, f (p.1 ∙ sym q.1))

  -- and two lent lists
  pub by-lists : {X L N W : Type 0} {v x y : X} {l a b : L} {n c d : N} {ws vs : W} → (a ≡ b → c ≡ d → ws ≡ vs)
      → Says k.𝓤 (conj k.𝓤 (Three k.𝓤 (x ≡ v) (a ≡ l) (c ≡ n)) (Three k.𝓤 (y ≡ v) (b ≡ l) (d ≡ n)))
      ((x ≡ y) × (ws ≡ vs))
  by-lists f =
      together k.𝓤 _ _ _ _ _ (three k.𝓤 _ _ _) (three k.𝓤 _ _ _) λ p q.
      (p.0 ∙ sym q.0, f (p.1.0 ∙ sym q.1.0) (p.1.1 ∙ sym q.1.1))
