-- The record of a header, by one law over what the calls made of its parts.
use mathlib.Core.Path.{◌∙◌}
use mir.Syntax.{w32}
use mir.Facts.{to_z-of_z}
use Rattle.records.specs.Records.{with_reply}
use Rattle.records.proofs.Made.{header_made}
use Rattle.records.proofs.replied_record.Goals as goal

pub returns : goal.returns
returns c =
    let d = c.value in
    let e = c.value-2 in
    header_made (with_reply c.args.refusal c.args.h) _ _
    _ _ _ _ _ _ _
    (to_z-of_z {w = w32} {z = d.result} (record { sfits = d.type_inv }) ∙ d.ensures)
    (to_z-of_z {w = w32} {z = e.result} (record { sfits = e.type_inv }) ∙ e.ensures)
    c.bitmap_kind.ensures
    c.grid_record.ensures
    c.part_record.ensures
    c.part_record-2.ensures
    c.part_record-3.ensures
    c.part_record-4.ensures
    c.bitmap_number.ensures
