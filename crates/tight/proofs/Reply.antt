-- The contracts of `reply` are tight.
use mathlib.Core.Path.{refl}
use Rattle.reply.specs.contracts as contracts
use Rattle.tight.specs.Tight.{Tight}
use Rattle.tight.proofs.Laws.{by-reply}

pub refusal_at : Tight contracts.refusal_at.ended λ M 𝓤 𝓛. contracts.refusal_at.clauses 𝓛
refusal_at k g h x y ws vs = by-reply k refl

pub refusal : Tight contracts.refusal.ended λ M 𝓤 𝓛. contracts.refusal.clauses 𝓛
refusal k g h x y ws vs = by-reply k refl

pub refuse_at : Tight contracts.refuse_at.ended λ M 𝓤 𝓛. contracts.refuse_at.clauses 𝓛
refuse_at k g h x y ws vs = by-reply k refl

pub refuse : Tight contracts.refuse.ended λ M 𝓤 𝓛. contracts.refuse.clauses 𝓛
refuse k g h x y ws vs = by-reply k refl
