-- The contracts of `widths` are tight.
use mathlib.Core.Path.{refl}
use Rattle.widths.specs.contracts as contracts
use Rattle.tight.specs.Tight.{Tight}
use Rattle.tight.proofs.Laws.{by-reply}

pub below : Tight contracts.below.ended λ M 𝓤 𝓛. contracts.below.clauses 𝓛
below k g h x y ws vs = by-reply k refl

pub all_below : Tight contracts.all_below.ended λ M 𝓤 𝓛. contracts.all_below.clauses 𝓛
all_below k g h x y ws vs = by-reply k refl
