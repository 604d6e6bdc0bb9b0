-- The contracts of `grid` are tight.
use mathlib.Core.Path.{refl}
use Rattle.grid.specs.contracts as contracts
use Rattle.tight.specs.Tight.{Tight}
use Rattle.tight.proofs.Laws.{by-reply}

pub grid_from : Tight contracts.grid_from.ended λ M 𝓤 𝓛. contracts.grid_from.clauses 𝓛
grid_from k g h x y ws vs = by-reply k refl

pub grid_missing : Tight contracts.grid_missing.ended λ M 𝓤 𝓛. contracts.grid_missing.clauses 𝓛
grid_missing k g h x y ws vs = by-reply k refl

pub the_grid : Tight contracts.the_grid.ended λ M 𝓤 𝓛. contracts.the_grid.clauses 𝓛
the_grid k g h x y ws vs = by-reply k refl

pub points : Tight contracts.points.ended λ M 𝓤 𝓛. contracts.points.clauses 𝓛
points k g h x y ws vs = by-reply k refl

pub grid_bad : Tight contracts.grid_bad.ended λ M 𝓤 𝓛. contracts.grid_bad.clauses 𝓛
grid_bad k g h x y ws vs = by-reply k refl
