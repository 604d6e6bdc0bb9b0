-- The contracts of `choices` are tight.
use mathlib.Core.Path.{refl}
use mir.Syntax.{Dict}
use denote.RattleType.{RattleType}
use Rattle.std.specs.declared.clone.Clone as Clone
use Rattle.choices.specs.contracts as contracts
use Rattle.tight.specs.Tight.{Tight}
use Rattle.tight.proofs.Laws.{by-reply}

-- of values of any type that is copied
pub pick : (T : RattleType) (C : Clone.Ghosts T.Denot) (d : Dict) → Tight (contracts.pick.ended T C d) λ M 𝓤 𝓛. contracts.pick.clauses T C d 𝓛
pick T C d k g h x y ws vs = by-reply k refl

pub less : Tight contracts.less.ended λ M 𝓤 𝓛. contracts.less.clauses 𝓛
less k g h x y ws vs = by-reply k refl
