-- The contracts of `source` are tight. What holds whatever D is holds where D is 0.
use mathlib.Core.Path.{refl, sym, ◌∙◌}
use lib.IntN.{pos}
use Rattle.source.specs.contracts as contracts
use Rattle.tight.specs.Tight.{Tight}
use Rattle.tight.proofs.Laws.{by_clause, by-reply}

pub source_bad : Tight contracts.source_bad.ended λ M 𝓤 𝓛. contracts.source_bad.clauses 𝓛
source_bad k g h x y ws vs = by_clause k λ p q. (p (pos 0) ∙ sym (q (pos 0)), refl)

pub decimal_differs : Tight contracts.decimal_differs.ended λ M 𝓤 𝓛. contracts.decimal_differs.clauses 𝓛
decimal_differs k g h x y ws vs = by-reply k refl

pub whole_bad : Tight contracts.whole_bad.ended λ M 𝓤 𝓛. contracts.whole_bad.clauses 𝓛
whole_bad k g h x y ws vs = by-reply k refl

pub whole_of : Tight contracts.whole_of.ended λ M 𝓤 𝓛. contracts.whole_of.clauses 𝓛
whole_of k g h x y ws vs = by-reply k refl

pub spelling : Tight contracts.spelling.ended λ M 𝓤 𝓛. contracts.spelling.clauses 𝓛
spelling k g h x y ws vs = by-reply k refl

pub large : Tight contracts.large.ended λ M 𝓤 𝓛. contracts.large.clauses 𝓛
large k g h x y ws vs = by-reply k refl
