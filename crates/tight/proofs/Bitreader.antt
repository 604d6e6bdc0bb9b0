-- The contracts of `bitreader` are tight. A reader is its two fields, and the slice that it holds is the very reference
-- given.
use mathlib.Core.Path.{refl, sym, ◌∙◌}
use Rattle.bitreader.specs.contracts as contracts
use Rattle.tight.specs.Tight.{Tight}
use Rattle.tight.proofs.Laws.{by_clause, by-reply, by-list}

pub new : Tight contracts.BitReader.new.ended λ M 𝓤 𝓛. contracts.BitReader.new.clauses 𝓛
new k g h x y ws vs =
    by_clause k λ p q. ((λ i. record { «data» = (p.0 ∙ sym q.0) i; at = (p.1 ∙ sym q.1) i }), refl)

pub next : Tight contracts.BitReader.next.ended λ M 𝓤 𝓛. contracts.BitReader.next.clauses 𝓛
next k g h x y ws vs = by-reply k refl

pub moved : Tight contracts.BitReader.moved.ended λ M 𝓤 𝓛. contracts.BitReader.moved.clauses 𝓛
moved k g h x y ws vs =
    by_clause k λ p q. ((λ i. record { «data» = (p.0 ∙ sym q.0) i; at = (p.1 ∙ sym q.1) i }), refl)

pub take : Tight contracts.take.ended λ M 𝓤 𝓛. contracts.take.clauses 𝓛
take k g h x y ws vs = by-reply k refl

pub next_all : Tight contracts.BitReader.next_all.ended λ M 𝓤 𝓛. contracts.BitReader.next_all.clauses 𝓛
next_all k g h x y ws vs = by-list k λ e i. (tt, (tt, (e i, (tt, tt))))

pub take_all : Tight contracts.take_all.ended λ M 𝓤 𝓛. contracts.take_all.clauses 𝓛
take_all k g h x y ws vs = by-list k λ e i. (tt, (tt, (tt, (e i, (tt, tt)))))

pub data_place : Tight contracts.data_place.ended λ M 𝓤 𝓛. contracts.data_place.clauses 𝓛
data_place k g h x y ws vs = by-reply k refl

pub value_place : Tight contracts.value_place.ended λ M 𝓤 𝓛. contracts.value_place.clauses 𝓛
value_place k g h x y ws vs = by-reply k refl
