-- The contracts of `data_numbers` are tight. An answer about a point is fixed by what it means, since no two mean the
-- same.
use mathlib.Core.Path.{refl, sym, ◌∙◌}
use Rattle.data_numbers.specs.contracts as contracts
use Rattle.data_numbers.proofs.Told.{told-one}
use Rattle.tight.specs.Tight.{Tight}
use Rattle.tight.proofs.Laws.{by_clause, by-reply}

pub number : Tight contracts.DataPoint.number.ended λ M 𝓤 𝓛. contracts.DataPoint.number.clauses 𝓛
number k g h x y ws vs = by-reply k refl

pub data_of : Tight contracts.data_of.ended λ M 𝓤 𝓛. contracts.data_of.clauses 𝓛
data_of k g h x y ws vs = by_clause k λ p q. (told-one x y (p ∙ sym q), refl)

pub data_number : Tight contracts.data_number.ended λ M 𝓤 𝓛. contracts.data_number.clauses 𝓛
data_number k g h x y ws vs = by_clause k λ p q. (told-one x y (p ∙ sym q), refl)
