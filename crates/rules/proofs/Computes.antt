-- Every definition at once: `unfolding computes` computes with all of them. And the specimen of document 01.
use mathlib.Core.List.{List, [], ◌∷◌}
use Prim.Native.Nat.{ℕ}
use lib.Count.{count_leading_zeros}
use Rattle.rules.specs.Bitmap.{Lent}
use Rattle.bits.specs.Bits.{bit_of, bits_in, run, count, runs, join, put_at, packed_into, number_at}
use Rattle.bits.specs.Tables.{tab, any_below, least_below}
use Rattle.rules.specs.Bitmap.{the_bitmap_at, lent_faults, bitmap_faults, no_bitmap, in_force, bitmap_octets, present_by}
use Rattle.rules.specs.Bitmap.{bms_of}
use Rattle.rules.specs.Counts.{total, row_of, in_row, the_before_row, the_from_equator, counts_of}
use Rattle.rules.specs.Chart.{turned, spot_of, point_of, the_spot_among, across, the_point_among, the_points_on, the_rows_on, the_row_long}
use Rattle.rules.specs.Chart.{the_columns_on, the_spot_on, the_point_on, charted, pointed}
use Rattle.rules.specs.Columns.{cells_at, cells_fields, cells_faults, cells_stains, tiles}
use Rattle.rules.specs.Checking.{any_present, source_faults, source_differs, scale_faults, far_from, point_out}
use Rattle.rules.specs.Checking.{check_table, check_of}
use Rattle.rules.specs.Display.{the_ref_bits, the_step_bits, shown_reference, shown_step, display_table, display_of}
use Rattle.rules.specs.Figures.{the_geometry_by, the_figures_of, the_geometry_of}
use Rattle.rules.specs.Grid.{the_gds_bad, kind_at, same_counts, start_of, grid_of_cells, cells_by, the_grid_at, grid_fields}
use Rattle.rules.specs.Grid.{gds_of, grid_stains, shape_of, rectangles, octants, catalogue, lookup, the_grid_from}
use Rattle.rules.specs.Grid.{the_no_grid, the_scan_bad, the_figures_differ, grid_differs, like_one, grid_faults}
use Rattle.rules.specs.Listing.{numeral, decimal_digits, decimal, decimal_signed, hex_digits, joined_to, line, cell}
use Rattle.rules.specs.Listing.{row_line, row_lines, the_first_line, refused_line, listing_refusal, listing_of}
use Rattle.rules.specs.Numbers.{bit, joined, signed}
use Rattle.rules.specs.Packing.{lowest, reference, spelling_of, stepped, above, too_wide, exponent, packed_at}
use Rattle.rules.specs.Packing.{packed_parts, pack_table, pack_refusal, pack_of, packed_after}
use Rattle.rules.specs.Places.{the_has_grid, the_has_bitmap, the_section_at, places_of, sections_of, the_size_bad, the_grib_bad, the_edition_bad}
use Rattle.rules.specs.Places.{total_faults}
use Rattle.rules.specs.Walk.{section_rows, walk_rows, walk_of}
use Rattle.rules.specs.Points.{the_data_number, value_at, scattered, gathered}
use Rattle.rules.specs.Reading.{grid_in, grid_of, points_in, bitmap_in, in_force_in, present_in, present_count, packing_in}
use Rattle.rules.specs.Reading.{the_scale_in, decimal_in, data_in, values_in, marks_in}
use Rattle.rules.specs.Reading.{parsed_of, message_table, refused_by, found_by, found_in, own_refusal}
use Rattle.rules.specs.Reading.{answer_by, header_of, read_table, read_refusal, read_of, the_values_after, the_marks_after}
use Rattle.rules.specs.Reading.{bitmap_of, section_of, numbering_of}
use Rattle.rules.specs.Cursor.{the_groups_for, the_group_size, ones_before, ones_in, ones_up_to, entries_in, index_table}
use Rattle.rules.specs.Cursor.{index_refusal, index_of, the_index_after, the_next_entry, index_faults, index_bad, shape_in}
use Rattle.rules.specs.Cursor.{cursor_table, cursor_refusal, cursor_number, under_at, cursor_of}
use Rattle.rules.specs.RoundTrip.{parts_in, stains, canonical}
use Rattle.rules.specs.Table.{or_all, any_of, first_or, first, filled}
use Rattle.rules.specs.Time.{the_year_of, leap, the_days_in, moment_faults, the_moment_at, no_moment, time_faults}
use Rattle.rules.specs.Values.{the_packing_at, scale_at, flags_bad, packing_faults, the_length_bad, values_at, bds_of, size_of}
use Rattle.rules.specs.Values.{whole, whole_of}
use Rattle.rules.specs.Writing.{grid_for, points_for, pds_faults, lists_fit, stored_faults, point_bad, parts_faults}
use Rattle.rules.specs.Writing.{sections_for, message, write_table, write_refusal, length_of, write_of, output_after}

unfoldable pub computes : ℕ
unfolding count_leading_zeros bit_of bits_in run count runs join put_at packed_into number_at tab any_below least_below the_bitmap_at lent_faults bitmap_faults no_bitmap in_force bitmap_octets present_by bms_of total row_of in_row the_before_row the_from_equator counts_of turned spot_of point_of the_spot_among across the_point_among the_points_on the_rows_on the_row_long the_columns_on the_spot_on the_point_on charted pointed cells_at cells_fields cells_faults cells_stains tiles any_present source_faults source_differs scale_faults far_from point_out check_table check_of the_ref_bits the_step_bits shown_reference shown_step display_table display_of the_gds_bad kind_at same_counts start_of grid_of_cells cells_by the_grid_at grid_fields gds_of grid_stains shape_of the_geometry_by the_figures_of the_geometry_of rectangles octants catalogue lookup the_grid_from the_no_grid the_scan_bad the_figures_differ grid_differs like_one grid_faults numeral decimal_digits decimal decimal_signed hex_digits joined_to line cell row_line row_lines the_first_line refused_line listing_refusal listing_of bit joined signed lowest reference spelling_of stepped above too_wide exponent packed_at packed_parts pack_table pack_refusal pack_of packed_after the_has_grid the_has_bitmap the_section_at places_of sections_of the_size_bad the_grib_bad the_edition_bad total_faults section_rows walk_rows walk_of the_data_number value_at scattered gathered grid_in grid_of points_in bitmap_in in_force_in present_in present_count packing_in the_scale_in decimal_in data_in values_in marks_in parsed_of message_table refused_by found_by found_in own_refusal answer_by header_of read_table read_refusal read_of the_values_after the_marks_after bitmap_of section_of numbering_of the_groups_for the_group_size ones_before ones_in ones_up_to entries_in index_table index_refusal index_of the_index_after the_next_entry index_faults index_bad shape_in cursor_table cursor_refusal cursor_number under_at cursor_of parts_in stains canonical or_all any_of first_or first filled the_year_of leap the_days_in moment_faults the_moment_at no_moment time_faults the_packing_at scale_at flags_bad packing_faults the_length_bad values_at bds_of size_of whole whole_of grid_for points_for pds_faults lists_fit stored_faults point_bad parts_faults sections_for message write_table write_refusal length_of write_of output_after
computes = 0

-- document 01, "Specimen, 94 octets"
abbrev pub specimen : List ℕ
specimen =
    0x47 ∷ 0x52 ∷ 0x49 ∷ 0x42 ∷ 0x00 ∷ 0x00 ∷ 0x5e ∷ 0x01
    ∷ 0x00 ∷ 0x00 ∷ 0x1c ∷ 0x03 ∷ 0x07 ∷ 0x00 ∷ 0xff ∷ 0xc0 ∷ 0x0b ∷ 0x64 ∷ 0x01 ∷ 0xf4 ∷ 0x62 ∷ 0x03 ∷ 0x0a ∷ 0x06
    ∷ 0x00 ∷ 0x01 ∷ 0x00 ∷ 0x00 ∷ 0x00 ∷ 0x00 ∷ 0x00 ∷ 0x00 ∷ 0x14 ∷ 0x00 ∷ 0x00 ∷ 0x01
    ∷ 0x00 ∷ 0x00 ∷ 0x20 ∷ 0x00 ∷ 0xff ∷ 0x00 ∷ 0x00 ∷ 0x02 ∷ 0x00 ∷ 0x02 ∷ 0x00 ∷ 0xc3 ∷ 0x50 ∷ 0x80 ∷ 0x07 ∷ 0xd0
    ∷ 0x80 ∷ 0x00 ∷ 0xc7 ∷ 0x38 ∷ 0x80 ∷ 0x03 ∷ 0xe8 ∷ 0x03 ∷ 0xe8 ∷ 0x03 ∷ 0xe8 ∷ 0x40 ∷ 0x00 ∷ 0x00 ∷ 0x00 ∷ 0x00
    ∷ 0x00 ∷ 0x00 ∷ 0x08 ∷ 0x0c ∷ 0x00 ∷ 0x00 ∷ 0xd0 ∷ 0x00
    ∷ 0x00 ∷ 0x00 ∷ 0x0e ∷ 0x0f ∷ 0x00 ∷ 0x00 ∷ 0x43 ∷ 0x9c ∷ 0x40 ∷ 0x00 ∷ 0x03 ∷ 0x0b ∷ 0x80 ∷ 0x00
    ∷ 0x37 ∷ 0x37 ∷ 0x37 ∷ 0x37
    ∷ []

-- no stored bitmap is lent
abbrev pub nothing : Lent
nothing = record { number = 0; octets = [] }
