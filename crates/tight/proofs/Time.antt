-- The contracts of `time` are tight.
use mathlib.Core.Path.{refl}
use Rattle.time.specs.contracts as contracts
use Rattle.tight.specs.Tight.{Tight}
use Rattle.tight.proofs.Laws.{by-reply}

pub moment_at : Tight contracts.moment_at.ended λ M 𝓤 𝓛. contracts.moment_at.clauses 𝓛
moment_at k g h x y ws vs = by-reply k refl

pub time_bad : Tight contracts.time_bad.ended λ M 𝓤 𝓛. contracts.time_bad.clauses 𝓛
time_bad k g h x y ws vs = by-reply k refl
