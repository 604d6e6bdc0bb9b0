-- The contracts of `gds` are tight.
use mathlib.Core.Path.{refl}
use Rattle.gds.specs.contracts as contracts
use Rattle.tight.specs.Tight.{Tight}
use Rattle.tight.proofs.Laws.{by-reply}

pub grid_in : Tight contracts.grid_in.ended λ M 𝓤 𝓛. contracts.grid_in.clauses 𝓛
grid_in k g h x y ws vs = by-reply k refl

pub gds_bad : Tight contracts.gds_bad.ended λ M 𝓤 𝓛. contracts.gds_bad.clauses 𝓛
gds_bad k g h x y ws vs = by-reply k refl
