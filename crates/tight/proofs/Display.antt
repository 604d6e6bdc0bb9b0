-- The contracts of `display` are tight.
use mathlib.Core.Path.{refl}
use Rattle.display.specs.contracts as contracts
use Rattle.tight.specs.Tight.{Tight}
use Rattle.tight.proofs.Laws.{by-reply}

pub display : Tight contracts.display.ended λ M 𝓤 𝓛. contracts.display.clauses 𝓛
display k g h x y ws vs = by-reply k refl
