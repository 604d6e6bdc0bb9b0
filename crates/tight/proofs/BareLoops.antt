-- The contracts of `bare_loops` are tight.
use Rattle.bare_loops.specs.contracts as contracts
use Rattle.tight.specs.Tight.{Tight}
use Rattle.tight.proofs.Laws.{by-list}

pub bare_unpack : Tight contracts.bare_unpack.ended λ M 𝓤 𝓛. contracts.bare_unpack.clauses 𝓛
bare_unpack k g h x y ws vs = by-list k λ e i. (tt, (tt, (tt, (e i, (tt, tt)))))

pub bare_pack : Tight contracts.bare_pack.ended λ M 𝓤 𝓛. contracts.bare_pack.clauses 𝓛
bare_pack k g h x y ws vs = by-list k λ e i. (tt, (tt, (e i, tt)))
