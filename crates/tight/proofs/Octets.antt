-- The contracts of `octets` are tight.
use mathlib.Core.Path.{refl}
use Rattle.octets.specs.contracts as contracts
use Rattle.tight.specs.Tight.{Tight}
use Rattle.tight.proofs.Laws.{by-reply}

pub at : Tight contracts.at.ended λ M 𝓤 𝓛. contracts.at.clauses 𝓛
at k g h x y ws vs = by-reply k refl

pub offset : Tight contracts.offset.ended λ M 𝓤 𝓛. contracts.offset.clauses 𝓛
offset k g h x y ws vs = by-reply k refl

pub octet : Tight contracts.octet.ended λ M 𝓤 𝓛. contracts.octet.clauses 𝓛
octet k g h x y ws vs = by-reply k refl

pub two : Tight contracts.two.ended λ M 𝓤 𝓛. contracts.two.clauses 𝓛
two k g h x y ws vs = by-reply k refl

pub three : Tight contracts.three.ended λ M 𝓤 𝓛. contracts.three.clauses 𝓛
three k g h x y ws vs = by-reply k refl

pub four : Tight contracts.four.ended λ M 𝓤 𝓛. contracts.four.clauses 𝓛
four k g h x y ws vs = by-reply k refl

pub signed_two : Tight contracts.signed_two.ended λ M 𝓤 𝓛. contracts.signed_two.clauses 𝓛
signed_two k g h x y ws vs = by-reply k refl

pub signed_three : Tight contracts.signed_three.ended λ M 𝓤 𝓛. contracts.signed_three.clauses 𝓛
signed_three k g h x y ws vs = by-reply k refl

pub plain : Tight contracts.plain.ended λ M 𝓤 𝓛. contracts.plain.clauses 𝓛
plain k g h x y ws vs = by-reply k refl
