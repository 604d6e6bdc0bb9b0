-- The contracts of `scaling` are tight. What holds whatever D is holds where D is 0.
use mathlib.Core.Path.{refl, sym, ◌∙◌}
use lib.IntN.{pos}
use Rattle.scaling.specs.contracts as contracts
use Rattle.tight.specs.Tight.{Tight}
use Rattle.tight.proofs.Laws.{by_clause, by-reply}

pub apart : Tight contracts.apart.ended λ M 𝓤 𝓛. contracts.apart.clauses 𝓛
apart k g h x y ws vs = by-reply k refl

pub step : Tight contracts.step.ended λ M 𝓤 𝓛. contracts.step.clauses 𝓛
step k g h x y ws vs = by-reply k refl

pub reference : Tight contracts.reference.ended λ M 𝓤 𝓛. contracts.reference.clauses 𝓛
reference k g h x y ws vs = by_clause k λ p q. (p (pos 0) ∙ sym (q (pos 0)), refl)

pub choose : Tight contracts.choose.ended λ M 𝓤 𝓛. contracts.choose.clauses 𝓛
choose k g h x y ws vs =
    by_clause k λ p q. ((λ i. record { reference = ((p (pos 0)).0 ∙ sym (q (pos 0)).0) i; exponent = ((p (pos 0)).1 ∙ sym (q (pos 0)).1) i }), refl)
