-- The contracts of `listing` are tight.
use Rattle.listing.specs.contracts as contracts
use Rattle.tight.specs.Tight.{Tight}
use Rattle.tight.proofs.Laws.{by-list}

pub list : Tight contracts.list.ended λ M 𝓤 𝓛. contracts.list.clauses 𝓛
list k g h x y ws vs = by-list k λ e i. (tt, (e i, tt))
