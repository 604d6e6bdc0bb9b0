-- The contracts of `runs` are tight.
use mathlib.Core.Path.{refl}
use Rattle.runs.specs.contracts as contracts
use Rattle.tight.specs.Tight.{Tight}
use Rattle.tight.proofs.Laws.{by-reply, by-list}

pub ones : Tight contracts.ones.ended λ M 𝓤 𝓛. contracts.ones.clauses 𝓛
ones k g h x y ws vs = by-reply k refl

pub fetch : Tight contracts.fetch.ended λ M 𝓤 𝓛. contracts.fetch.clauses 𝓛
fetch k g h x y ws vs = by-reply k refl

pub unpack : Tight contracts.unpack.ended λ M 𝓤 𝓛. contracts.unpack.clauses 𝓛
unpack k g h x y ws vs = by-list k λ e i. (tt, (tt, (tt, (e i, (tt, tt)))))

pub bit : Tight contracts.bit.ended λ M 𝓤 𝓛. contracts.bit.clauses 𝓛
bit k g h x y ws vs = by-reply k refl

pub ones_256 : Tight contracts.ones_256.ended λ M 𝓤 𝓛. contracts.ones_256.clauses 𝓛
ones_256 k g h x y ws vs = by-reply k refl

pub ones_few : Tight contracts.ones_few.ended λ M 𝓤 𝓛. contracts.ones_few.clauses 𝓛
ones_few k g h x y ws vs = by-reply k refl
