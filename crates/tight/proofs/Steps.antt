-- The contracts of `steps` are tight.
use mathlib.Core.Path.{refl, sym, ◌∙◌}
use Rattle.steps.specs.contracts as contracts
use Rattle.tight.specs.Tight.{Tight}
use Rattle.tight.proofs.Laws.{by_clause}

pub scale : Tight contracts.scale.ended λ M 𝓤 𝓛. contracts.scale.clauses 𝓛
scale k g h x y ws vs = by_clause k λ p q. (refl, λ i. (tt, (tt, (tt, ((p ∙ sym q) i, tt)))))
