-- The contracts of `marks` are tight.
use mathlib.Core.Path.{refl}
use Rattle.marks.specs.contracts as contracts
use Rattle.tight.specs.Tight.{Tight}
use Rattle.tight.proofs.Laws.{by-reply, by-list}

pub long : Tight contracts.long.ended λ M 𝓤 𝓛. contracts.long.clauses 𝓛
long k g h x y ws vs = by-reply k refl

pub present : Tight contracts.present.ended λ M 𝓤 𝓛. contracts.present.clauses 𝓛
present k g h x y ws vs = by-reply k refl

pub count : Tight contracts.count.ended λ M 𝓤 𝓛. contracts.count.clauses 𝓛
count k g h x y ws vs = by-reply k refl

pub all_present : Tight contracts.all_present.ended λ M 𝓤 𝓛. contracts.all_present.clauses 𝓛
all_present k g h x y ws vs = by-reply k refl

pub odd : Tight contracts.odd.ended λ M 𝓤 𝓛. contracts.odd.clauses 𝓛
odd k g h x y ws vs = by-reply k refl

pub stray : Tight contracts.stray.ended λ M 𝓤 𝓛. contracts.stray.clauses 𝓛
stray k g h x y ws vs = by-reply k refl

pub unlike : Tight contracts.unlike.ended λ M 𝓤 𝓛. contracts.unlike.clauses 𝓛
unlike k g h x y ws vs = by-reply k refl

pub put : Tight contracts.put.ended λ M 𝓤 𝓛. contracts.put.clauses 𝓛
put k g h x y ws vs = by-list k λ e i. (tt, (tt, (e i, (tt, (tt, tt)))))

pub fill : Tight contracts.fill.ended λ M 𝓤 𝓛. contracts.fill.clauses 𝓛
fill k g h x y ws vs = by-list k λ e i. (tt, (tt, (tt, (e i, tt))))

pub fill_all : Tight contracts.fill_all.ended λ M 𝓤 𝓛. contracts.fill_all.clauses 𝓛
fill_all k g h x y ws vs = by-list k λ e i. (tt, (e i, tt))

pub none_marked : Tight contracts.none_marked.ended λ M 𝓤 𝓛. contracts.none_marked.clauses 𝓛
none_marked k g h x y ws vs = by-reply k refl
