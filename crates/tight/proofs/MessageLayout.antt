-- The contracts of `layout` are tight.
use mathlib.Core.Path.{refl}
use Rattle.layout.specs.contracts as contracts
use Rattle.tight.specs.Tight.{Tight}
use Rattle.tight.proofs.Laws.{by-reply}

pub has_grid : Tight contracts.has_grid.ended λ M 𝓤 𝓛. contracts.has_grid.clauses 𝓛
has_grid k g h x y ws vs = by-reply k refl

pub has_bitmap : Tight contracts.has_bitmap.ended λ M 𝓤 𝓛. contracts.has_bitmap.clauses 𝓛
has_bitmap k g h x y ws vs = by-reply k refl

pub places : Tight contracts.places.ended λ M 𝓤 𝓛. contracts.places.clauses 𝓛
places k g h x y ws vs = by-reply k refl

pub layout : Tight contracts.layout.ended λ M 𝓤 𝓛. contracts.layout.clauses 𝓛
layout k g h x y ws vs = by-reply k refl
