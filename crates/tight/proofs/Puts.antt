-- The contracts of `puts` are tight.
use Rattle.puts.specs.contracts as contracts
use Rattle.tight.specs.Tight.{Tight}
use Rattle.tight.proofs.Laws.{by-list}

pub put_octet : Tight contracts.put_octet.ended λ M 𝓤 𝓛. contracts.put_octet.clauses 𝓛
put_octet k g h x y ws vs = by-list k λ e i. (e i, (tt, (tt, (tt, tt))))

pub put_two : Tight contracts.put_two.ended λ M 𝓤 𝓛. contracts.put_two.clauses 𝓛
put_two k g h x y ws vs = by-list k λ e i. (e i, (tt, (tt, (tt, tt))))

pub put_three : Tight contracts.put_three.ended λ M 𝓤 𝓛. contracts.put_three.clauses 𝓛
put_three k g h x y ws vs = by-list k λ e i. (e i, (tt, (tt, (tt, tt))))

pub put_four : Tight contracts.put_four.ended λ M 𝓤 𝓛. contracts.put_four.clauses 𝓛
put_four k g h x y ws vs = by-list k λ e i. (e i, (tt, (tt, (tt, tt))))

pub put_signed_two : Tight contracts.put_signed_two.ended λ M 𝓤 𝓛. contracts.put_signed_two.clauses 𝓛
put_signed_two k g h x y ws vs = by-list k λ e i. (e i, (tt, (tt, (tt, tt))))

pub put_signed_three : Tight contracts.put_signed_three.ended λ M 𝓤 𝓛. contracts.put_signed_three.clauses 𝓛
put_signed_three k g h x y ws vs = by-list k λ e i. (e i, (tt, (tt, (tt, tt))))
