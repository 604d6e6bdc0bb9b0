-- The contracts of `packs` are tight.
use Rattle.packs.specs.contracts as contracts
use Rattle.tight.specs.Tight.{Tight}
use Rattle.tight.proofs.Laws.{by-list}

pub put_number : Tight contracts.put_number.ended λ M 𝓤 𝓛. contracts.put_number.clauses 𝓛
put_number k g h x y ws vs = by-list k λ e i. (e i, (tt, (tt, (tt, (tt, tt)))))

pub put_bits : Tight contracts.put_bits.ended λ M 𝓤 𝓛. contracts.put_bits.clauses 𝓛
put_bits k g h x y ws vs = by-list k λ e i. (e i, (tt, (tt, (tt, tt))))

pub pack : Tight contracts.pack.ended λ M 𝓤 𝓛. contracts.pack.clauses 𝓛
pack k g h x y ws vs = by-list k λ e i. (tt, (tt, (e i, tt)))
