-- The contracts of `gds_put` are tight.
use mathlib.Core.Path.{refl}
use Rattle.gds_put.specs.contracts as contracts
use Rattle.tight.specs.Tight.{Tight}
use Rattle.tight.proofs.Laws.{by-reply, by-list}

pub gds_room : Tight contracts.gds_room.ended λ M 𝓤 𝓛. contracts.gds_room.clauses 𝓛
gds_room k g h x y ws vs = by-reply k refl

pub put_gds : Tight contracts.put_gds.ended λ M 𝓤 𝓛. contracts.put_gds.clauses 𝓛
put_gds k g h x y ws vs = by-list k λ e i. (e i, (tt, (tt, tt)))
