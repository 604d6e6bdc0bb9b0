-- The contracts of `framing` are tight.
use mathlib.Core.Path.{refl}
use Rattle.framing.specs.contracts as contracts
use Rattle.tight.specs.Tight.{Tight}
use Rattle.tight.proofs.Laws.{by-reply, by-list}

pub lay : Tight contracts.lay.ended λ M 𝓤 𝓛. contracts.lay.clauses 𝓛
lay k g h x y ws vs = by-list k λ e i. (tt, (tt, (tt, (tt, (tt, (e i, tt))))))

pub message_length : Tight contracts.message_length.ended λ M 𝓤 𝓛. contracts.message_length.clauses 𝓛
message_length k g h x y ws vs = by-reply k refl
