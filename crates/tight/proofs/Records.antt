-- The contracts of `records` are tight.
use mathlib.Core.Path.{refl}
use Rattle.records.specs.contracts as contracts
use Rattle.tight.specs.Tight.{Tight}
use Rattle.tight.proofs.Laws.{by-reply}

pub part_record : Tight contracts.part_record.ended λ M 𝓤 𝓛. contracts.part_record.clauses 𝓛
part_record k g h x y ws vs = by-reply k refl

pub header_record : Tight contracts.header_record.ended λ M 𝓤 𝓛. contracts.header_record.clauses 𝓛
header_record k g h x y ws vs = by-reply k refl

pub place_record : Tight contracts.place_record.ended λ M 𝓤 𝓛. contracts.place_record.clauses 𝓛
place_record k g h x y ws vs = by-reply k refl

pub point_record : Tight contracts.point_record.ended λ M 𝓤 𝓛. contracts.point_record.clauses 𝓛
point_record k g h x y ws vs = by-reply k refl

pub display_record : Tight contracts.display_record.ended λ M 𝓤 𝓛. contracts.display_record.clauses 𝓛
display_record k g h x y ws vs = by-reply k refl

pub written_record : Tight contracts.written_record.ended λ M 𝓤 𝓛. contracts.written_record.clauses 𝓛
written_record k g h x y ws vs = by-reply k refl

pub check_record : Tight contracts.check_record.ended λ M 𝓤 𝓛. contracts.check_record.clauses 𝓛
check_record k g h x y ws vs = by-reply k refl

pub grid_back : Tight contracts.grid_back.ended λ M 𝓤 𝓛. contracts.grid_back.clauses 𝓛
grid_back k g h x y ws vs = by-reply k refl

pub form_by : Tight contracts.form_by.ended λ M 𝓤 𝓛. contracts.form_by.clauses 𝓛
form_by k g h x y ws vs = by-reply k refl

pub scale_by : Tight contracts.scale_by.ended λ M 𝓤 𝓛. contracts.scale_by.clauses 𝓛
scale_by k g h x y ws vs = by-reply k refl

pub indexed_record : Tight contracts.indexed_record.ended λ M 𝓤 𝓛. contracts.indexed_record.clauses 𝓛
indexed_record k g h x y ws vs = by-reply k refl

pub cursor_record : Tight contracts.cursor_record.ended λ M 𝓤 𝓛. contracts.cursor_record.clauses 𝓛
cursor_record k g h x y ws vs = by-reply k refl
