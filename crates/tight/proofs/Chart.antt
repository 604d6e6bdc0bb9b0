-- The contracts of `chart` are tight.
use mathlib.Core.Path.{refl}
use Rattle.chart.specs.contracts as contracts
use Rattle.tight.specs.Tight.{Tight}
use Rattle.tight.proofs.Laws.{by-reply}

pub shape_of : Tight contracts.shape_of.ended λ M 𝓤 𝓛. contracts.shape_of.clauses 𝓛
shape_of k g h x y ws vs = by-reply k refl

pub points_on : Tight contracts.points_on.ended λ M 𝓤 𝓛. contracts.points_on.clauses 𝓛
points_on k g h x y ws vs = by-reply k refl

pub rows_on : Tight contracts.rows_on.ended λ M 𝓤 𝓛. contracts.rows_on.clauses 𝓛
rows_on k g h x y ws vs = by-reply k refl

pub row_long : Tight contracts.row_long.ended λ M 𝓤 𝓛. contracts.row_long.clauses 𝓛
row_long k g h x y ws vs = by-reply k refl

pub columns_on : Tight contracts.columns_on.ended λ M 𝓤 𝓛. contracts.columns_on.clauses 𝓛
columns_on k g h x y ws vs = by-reply k refl

pub spot_of : Tight contracts.spot_of.ended λ M 𝓤 𝓛. contracts.spot_of.clauses 𝓛
spot_of k g h x y ws vs = by-reply k refl

pub point_at : Tight contracts.point_at.ended λ M 𝓤 𝓛. contracts.point_at.clauses 𝓛
point_at k g h x y ws vs = by-reply k refl
