-- The contracts of `gathering` are tight.
use mir.Syntax.{Dict}
use denote.RattleType.{RattleType}
use Rattle.std.specs.declared.clone.Clone as Clone
use Rattle.gathering.specs.contracts as contracts
use Rattle.tight.specs.Tight.{Tight}
use Rattle.tight.proofs.Laws.{by-list}

-- of values of any type that is copied
pub gather : (T : RattleType) (C : Clone.Ghosts T.Denot) (d : Dict) → Tight (contracts.gather.ended T C d) λ M 𝓤 𝓛. contracts.gather.clauses T C d 𝓛
gather T C d k g h x y ws vs = by-list k λ e i. (tt, (tt, (tt, (e i, tt))))
