-- The contracts of `checker` are tight.
use mathlib.Core.Path.{refl}
use Rattle.checker.specs.contracts as contracts
use Rattle.tight.specs.Tight.{Tight}
use Rattle.tight.proofs.Laws.{by-reply}

pub check : Tight contracts.check.ended λ M 𝓤 𝓛. contracts.check.clauses 𝓛
check k g h x y ws vs = by-reply k refl
