-- The contracts of `message` are tight.
use mathlib.Core.Path.{refl}
use Rattle.message.specs.contracts as contracts
use Rattle.tight.specs.Tight.{Tight}
use Rattle.tight.proofs.Laws.{by-reply}

pub header : Tight contracts.header.ended λ M 𝓤 𝓛. contracts.header.clauses 𝓛
header k g h x y ws vs = by-reply k refl
