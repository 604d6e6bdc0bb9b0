-- How many octets a grid section and a data section take; by their tables and lists of fields.
use Prim.Native.Nat.{ℕ, ◌+◌, ◌-◌, ◌*◌}
use mathlib.Core.Path.{◌≡◌, refl, ap, ◌∙◌}
use mathlib.Core.List.{List, []}
use native.Mathlib.Nat.{add-zero}
use native.Mathlib.Omega.{arith}
use lib.ListN.{length}
use Rattle.bits.specs.Bits.{bits_in, runs, octets_for}
use Rattle.bits.proofs.Trip.{length_runs}
use Rattle.rules.specs.declared.{Grid.Grid, Packing.Packing, Scale.Scale}
use Rattle.rules.specs.Bounds.{bds_head}
use Rattle.rules.specs.Numbers.{Field, laid, even_from}
use Rattle.rules.specs.Columns.{cells_fields}
use Rattle.rules.specs.Layouts.{columns, length_by}
use Rattle.rules.specs.Grid.{kind_of, cells_of, gds_length_of, grid_fields, gds_of}
use Rattle.rules.specs.Values.{bds_fields, bds_of}
use Rattle.laws.proofs.Fields.{widths, laid-length}
use Rattle.laws.proofs.Columns.{widths-tile, kind-tiles}

pub gds-laid : (g : Grid) → gds_of g ≡ laid (grid_fields g) []
unfolding gds_of
gds-laid g = refl

pub gds-length : (g : Grid) → length (gds_of g) ≡ gds_length_of g
unfolding grid_fields
gds-length g =
    let k = kind_of g.geometry in
    ap length (gds-laid g) ∙ laid-length (grid_fields g) [] ∙ add-zero (widths (cells_fields (columns k) (cells_of g)) 6)
    ∙ widths-tile (columns k) 6 (length_by k) (kind-tiles k) (cells_of g)

-- a section's length, of t bits after its head, and the bits left over
abbrev pub data_len : ℕ → ℕ
data_len t = even_from (bds_head + octets_for t)

abbrev pub unused : ℕ → ℕ
unused t = 8 * (data_len t - bds_head) - t

abbrev pub data_fields : Packing → Scale → ℕ → List Field
data_fields p c t = bds_fields (data_len t) (unused t) p c

abbrev pub data_bits : Packing → List ℕ → List ℕ
data_bits p xs = runs (bits_in p.bits xs) 0 8 (data_len (length xs * p.bits) - bds_head)

pub bds-laid : (p : Packing) (c : Scale) (xs : List ℕ)
    → bds_of p c xs ≡ laid (data_fields p c (length xs * p.bits)) (data_bits p xs)
unfolding bds_of
bds-laid p c xs = refl

pub bds-length : (p : Packing) (c : Scale) (xs : List ℕ) → length (bds_of p c xs) ≡ data_len (length xs * p.bits)
bds-length p c xs =
    let t = length xs * p.bits in
    let e : length (data_bits p xs) ≡ data_len t - bds_head = length_runs (bits_in p.bits xs) 0 8 (data_len t - bds_head) in
    let g : length (laid (data_fields p c t) (data_bits p xs)) ≡ bds_head + length (data_bits p xs) = laid-length (data_fields p c t) (data_bits p xs) in
    ap length (bds-laid p c xs) ∙ omega arith
