-- The contracts of `kinds` are tight.
use mathlib.Core.Path.{refl}
use Rattle.kinds.specs.contracts as contracts
use Rattle.tight.specs.Tight.{Tight}
use Rattle.tight.proofs.Laws.{by-reply}

pub figures_of : Tight contracts.figures_of.ended λ M 𝓤 𝓛. contracts.figures_of.clauses 𝓛
figures_of k g h x y ws vs = by-reply k refl

pub geometry_by : Tight contracts.geometry_by.ended λ M 𝓤 𝓛. contracts.geometry_by.clauses 𝓛
geometry_by k g h x y ws vs = by-reply k refl

pub geometry_of : Tight contracts.geometry_of.ended λ M 𝓤 𝓛. contracts.geometry_of.clauses 𝓛
geometry_of k g h x y ws vs = by-reply k refl
