-- The contracts of `catalogue` are tight.
use mathlib.Core.Path.{refl}
use Rattle.catalogue.specs.contracts as contracts
use Rattle.tight.specs.Tight.{Tight}
use Rattle.tight.proofs.Laws.{by-reply}

pub catalogued : Tight contracts.catalogued.ended λ M 𝓤 𝓛. contracts.catalogued.clauses 𝓛
catalogued k g h x y ws vs = by-reply k refl

pub is_octant : Tight contracts.is_octant.ended λ M 𝓤 𝓛. contracts.is_octant.clauses 𝓛
is_octant k g h x y ws vs = by-reply k refl
