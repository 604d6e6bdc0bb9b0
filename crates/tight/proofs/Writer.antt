-- The contracts of `writer` are tight.
use Rattle.writer.specs.contracts as contracts
use Rattle.tight.specs.Tight.{Tight}
use Rattle.tight.proofs.Laws.{by-list}

pub write : Tight contracts.write.ended λ M 𝓤 𝓛. contracts.write.clauses 𝓛
write k g h x y ws vs = by-list k λ e i. (tt, (tt, (tt, (tt, (tt, (tt, (tt, (e i, tt))))))))
