-- The contracts of `field` are tight.
use Rattle.field.specs.contracts as contracts
use Rattle.tight.specs.Tight.{Tight}
use Rattle.tight.proofs.Laws.{by-lists}

pub read : Tight contracts.read.ended λ M 𝓤 𝓛. contracts.read.clauses 𝓛
read k g h x y ws vs = by-lists k λ d e i. (tt, (tt, (tt, (d i, (e i, tt)))))
