-- The contracts of `cursor` are tight.
use mathlib.Core.Path.{refl}
use Rattle.cursor.specs.contracts as contracts
use Rattle.tight.specs.Tight.{Tight}
use Rattle.tight.proofs.Laws.{by-reply, by-list}

pub under : Tight contracts.under.ended λ M 𝓤 𝓛. contracts.under.clauses 𝓛
under k g h x y ws vs = by-reply k refl

pub fill : Tight contracts.fill.ended λ M 𝓤 𝓛. contracts.fill.clauses 𝓛
fill k g h x y ws vs = by-list k λ e i. (tt, (tt, (tt, (e i, tt))))
