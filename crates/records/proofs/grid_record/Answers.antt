-- The record of a grid, by one law over what the calls made of its parts.
use mathlib.Core.Path.{◌∙◌}
use mir.Syntax.{w32}
use mir.Facts.{to_z-of_z}
use Rattle.records.proofs.Made.{grid-made}
use Rattle.records.proofs.grid_record.Goals as goal

pub returns : goal.returns
returns c =
    let v9 = c.value-9 in
    let v8 = c.value-8 in
    let v7 = c.value-7 in
    let v6 = c.value-6 in
    let v5 = c.value-5 in
    let v4 = c.value-4 in
    let v3 = c.value-3 in
    let v2 = c.value-2 in
    let v1 = c.value in
    grid-made c.args.g _ _ _ _ _ _ _ _ _ _ c.figures_of-x.ensures
    (to_z-of_z {w = w32} {z = v1.result} (record { sfits = v1.type_inv }) ∙ v1.ensures)
    (to_z-of_z {w = w32} {z = v2.result} (record { sfits = v2.type_inv }) ∙ v2.ensures)
    (to_z-of_z {w = w32} {z = v3.result} (record { sfits = v3.type_inv }) ∙ v3.ensures)
    (to_z-of_z {w = w32} {z = v4.result} (record { sfits = v4.type_inv }) ∙ v4.ensures)
    (to_z-of_z {w = w32} {z = v5.result} (record { sfits = v5.type_inv }) ∙ v5.ensures)
    (to_z-of_z {w = w32} {z = v6.result} (record { sfits = v6.type_inv }) ∙ v6.ensures)
    (to_z-of_z {w = w32} {z = v7.result} (record { sfits = v7.type_inv }) ∙ v7.ensures)
    (to_z-of_z {w = w32} {z = v8.result} (record { sfits = v8.type_inv }) ∙ v8.ensures)
    (to_z-of_z {w = w32} {z = v9.result} (record { sfits = v9.type_inv }) ∙ v9.ensures)
