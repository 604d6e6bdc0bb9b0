-- The contracts of `packer` are tight.
use Rattle.packer.specs.contracts as contracts
use Rattle.tight.specs.Tight.{Tight}
use Rattle.tight.proofs.Laws.{by-list}

pub pack : Tight contracts.pack.ended λ M 𝓤 𝓛. contracts.pack.clauses 𝓛
pack k g h x y ws vs = by-list k λ e i. (tt, (tt, (tt, (tt, (tt, (tt, (tt, (e i, tt))))))))
