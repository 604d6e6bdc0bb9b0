-- The contracts of `octants` are tight.
use mathlib.Core.Path.{refl}
use Rattle.octants.specs.contracts as contracts
use Rattle.tight.specs.Tight.{Tight}
use Rattle.tight.proofs.Laws.{by-reply}

pub count : Tight contracts.count.ended λ M 𝓤 𝓛. contracts.count.clauses 𝓛
count k g h x y ws vs = by-reply k refl

pub rows : Tight contracts.rows.ended λ M 𝓤 𝓛. contracts.rows.clauses 𝓛
rows k g h x y ws vs = by-reply k refl

pub points : Tight contracts.points.ended λ M 𝓤 𝓛. contracts.points.clauses 𝓛
points k g h x y ws vs = by-reply k refl

pub scanned : Tight contracts.scanned.ended λ M 𝓤 𝓛. contracts.scanned.clauses 𝓛
scanned k g h x y ws vs = by-reply k refl

pub before_row : Tight contracts.before_row.ended λ M 𝓤 𝓛. contracts.before_row.clauses 𝓛
before_row k g h x y ws vs = by-reply k refl
