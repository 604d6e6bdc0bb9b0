-- The contracts of `point_records` are tight.
use mathlib.Core.Path.{refl}
use Rattle.point_records.specs.contracts as contracts
use Rattle.tight.specs.Tight.{Tight}
use Rattle.tight.proofs.Laws.{by-reply}

pub force_record : Tight contracts.force_record.ended λ M 𝓤 𝓛. contracts.force_record.clauses 𝓛
force_record k g h x y ws vs = by-reply k refl

pub data_record : Tight contracts.data_record.ended λ M 𝓤 𝓛. contracts.data_record.clauses 𝓛
data_record k g h x y ws vs = by-reply k refl
