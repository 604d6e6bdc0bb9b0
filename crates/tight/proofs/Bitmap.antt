-- The contracts of `bitmap` are tight.
use mathlib.Core.Path.{refl}
use Rattle.bitmap.specs.contracts as contracts
use Rattle.tight.specs.Tight.{Tight}
use Rattle.tight.proofs.Laws.{by-reply}

pub bitmap_at : Tight contracts.bitmap_at.ended λ M 𝓤 𝓛. contracts.bitmap_at.clauses 𝓛
bitmap_at k g h x y ws vs = by-reply k refl

pub bitmap_bad : Tight contracts.bitmap_bad.ended λ M 𝓤 𝓛. contracts.bitmap_bad.clauses 𝓛
bitmap_bad k g h x y ws vs = by-reply k refl

pub present : Tight contracts.present.ended λ M 𝓤 𝓛. contracts.present.clauses 𝓛
present k g h x y ws vs = by-reply k refl
