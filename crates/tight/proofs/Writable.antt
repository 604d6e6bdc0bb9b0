-- The contracts of `writable` are tight.
use mathlib.Core.Path.{refl}
use Rattle.writable.specs.contracts as contracts
use Rattle.tight.specs.Tight.{Tight}
use Rattle.tight.proofs.Laws.{by-reply}

pub pds_bad : Tight contracts.pds_bad.ended λ M 𝓤 𝓛. contracts.pds_bad.clauses 𝓛
pds_bad k g h x y ws vs = by-reply k refl

pub scale_bad : Tight contracts.scale_bad.ended λ M 𝓤 𝓛. contracts.scale_bad.clauses 𝓛
scale_bad k g h x y ws vs = by-reply k refl

pub judge : Tight contracts.judge.ended λ M 𝓤 𝓛. contracts.judge.clauses 𝓛
judge k g h x y ws vs = by-reply k refl

pub judge_marks : Tight contracts.judge_marks.ended λ M 𝓤 𝓛. contracts.judge_marks.clauses 𝓛
judge_marks k g h x y ws vs = by-reply k refl
