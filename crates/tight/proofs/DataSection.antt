-- The contracts of `data_section` are tight.
use mathlib.Core.Path.{refl}
use Rattle.data_section.specs.contracts as contracts
use Rattle.tight.specs.Tight.{Tight}
use Rattle.tight.proofs.Laws.{by-reply}

pub packing_at : Tight contracts.packing_at.ended λ M 𝓤 𝓛. contracts.packing_at.clauses 𝓛
packing_at k g h x y ws vs = by-reply k refl

pub scale_at : Tight contracts.scale_at.ended λ M 𝓤 𝓛. contracts.scale_at.clauses 𝓛
scale_at k g h x y ws vs = by-reply k refl

pub packing_bad : Tight contracts.packing_bad.ended λ M 𝓤 𝓛. contracts.packing_bad.clauses 𝓛
packing_bad k g h x y ws vs = by-reply k refl

pub length_bad : Tight contracts.length_bad.ended λ M 𝓤 𝓛. contracts.length_bad.clauses 𝓛
length_bad k g h x y ws vs = by-reply k refl
