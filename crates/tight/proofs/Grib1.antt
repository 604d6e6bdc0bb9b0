-- The contracts of `grib1` are tight.
use mathlib.Core.Path.{refl}
use Rattle.grib1.specs.contracts as contracts
use Rattle.tight.specs.Tight.{Tight}
use Rattle.tight.proofs.Laws.{by-reply, by-list, by-lists}

pub grib1_header : Tight contracts.grib1_header.ended λ M 𝓤 𝓛. contracts.grib1_header.clauses 𝓛
grib1_header k g h x y ws vs = by-reply k refl

pub grib1_read : Tight contracts.grib1_read.ended λ M 𝓤 𝓛. contracts.grib1_read.clauses 𝓛
grib1_read k g h x y ws vs = by-lists k λ d e i. (tt, (tt, (tt, (d i, (e i, tt)))))

pub grib1_section : Tight contracts.grib1_section.ended λ M 𝓤 𝓛. contracts.grib1_section.clauses 𝓛
grib1_section k g h x y ws vs = by-reply k refl

pub grib1_bitmap : Tight contracts.grib1_bitmap.ended λ M 𝓤 𝓛. contracts.grib1_bitmap.clauses 𝓛
grib1_bitmap k g h x y ws vs = by-reply k refl

pub grib1_display : Tight contracts.grib1_display.ended λ M 𝓤 𝓛. contracts.grib1_display.clauses 𝓛
grib1_display k g h x y ws vs = by-reply k refl

pub grib1_place : Tight contracts.grib1_place.ended λ M 𝓤 𝓛. contracts.grib1_place.clauses 𝓛
grib1_place k g h x y ws vs = by-reply k refl

pub grib1_point : Tight contracts.grib1_point.ended λ M 𝓤 𝓛. contracts.grib1_point.clauses 𝓛
grib1_point k g h x y ws vs = by-reply k refl

pub grib1_row : Tight contracts.grib1_row.ended λ M 𝓤 𝓛. contracts.grib1_row.clauses 𝓛
grib1_row k g h x y ws vs = by-reply k refl

pub grib1_data_number : Tight contracts.grib1_data_number.ended λ M 𝓤 𝓛. contracts.grib1_data_number.clauses 𝓛
grib1_data_number k g h x y ws vs = by-reply k refl

pub grib1_length : Tight contracts.grib1_length.ended λ M 𝓤 𝓛. contracts.grib1_length.clauses 𝓛
grib1_length k g h x y ws vs = by-reply k refl

pub grib1_write : Tight contracts.grib1_write.ended λ M 𝓤 𝓛. contracts.grib1_write.clauses 𝓛
grib1_write k g h x y ws vs = by-list k λ e i. (tt, (tt, (tt, (tt, (tt, (tt, (tt, (tt, (e i, tt)))))))))

pub grib1_check : Tight contracts.grib1_check.ended λ M 𝓤 𝓛. contracts.grib1_check.clauses 𝓛
grib1_check k g h x y ws vs = by-reply k refl

pub grib1_pack : Tight contracts.grib1_pack.ended λ M 𝓤 𝓛. contracts.grib1_pack.clauses 𝓛
grib1_pack k g h x y ws vs = by-list k λ e i. (tt, (tt, (tt, (tt, (tt, (tt, (tt, (e i, tt))))))))

pub grib1_index : Tight contracts.grib1_index.ended λ M 𝓤 𝓛. contracts.grib1_index.clauses 𝓛
grib1_index k g h x y ws vs = by-list k λ e i. (tt, (tt, (tt, (e i, tt))))

pub grib1_cursor : Tight contracts.grib1_cursor.ended λ M 𝓤 𝓛. contracts.grib1_cursor.clauses 𝓛
grib1_cursor k g h x y ws vs = by-reply k refl
