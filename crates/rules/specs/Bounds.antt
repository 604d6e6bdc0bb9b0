-- Document 01, "What a message is here": the table of bounds; and the bounds that other rules name, by their words. A
-- range that one field alone has stands at its test.
use Rattle.std.specs.Prelude.{ℕ, ◌-◌, ◌^◌, ℤ, pos, negsuc}

-- octets in a message
abbrev pub message_least : ℕ
message_least = 8

abbrev pub message_most : ℕ
message_most = 262144

-- PDS length, and the least lengths of the other sections (refusal 21, and 5 of the writer)
abbrev pub pds_least : ℕ
pds_least = 28

abbrev pub pds_most : ℕ
pds_most = 1024

abbrev pub gds_least : ℕ
gds_least = 32

-- "GDS: length 1-3 is 32"; document 02, R-4: "GDS 42 octets for the first two, else 32"; R-1: "The GDS is 178 octets"
abbrev pub gds_length : ℕ
gds_length = 32

abbrev pub long_length : ℕ
long_length = 42

abbrev pub thinned_length : ℕ
thinned_length = 178

-- R-1: "73 rows and 3,447 points"
abbrev pub octant_rows : ℕ
octant_rows = 73

abbrev pub octant_points : ℕ
octant_points = 3447

abbrev pub bms_least : ℕ
bms_least = 6

abbrev pub bds_least : ℕ
bds_least = 12

-- what stands in a BMS before its bits, and in a BDS before its data: "data from 12"
abbrev pub bms_head : ℕ
bms_head = 6

abbrev pub bds_head : ℕ
bds_head = 11

-- Ni, Nj; points n = Ni × Nj
abbrev pub side_most : ℕ
side_most = 65534

abbrev pub points_most : ℕ
points_most = 65536

-- "Latitude magnitude is at most 90,000, longitude at most 360,000"
abbrev pub latitude_most : ℕ
latitude_most = 90000

abbrev pub longitude_most : ℕ
longitude_most = 360000

-- R-6: "each group of 256 grid points"
abbrev pub group_long : ℕ
group_long = 256

-- bits per value N
abbrev pub the_bits_most : ℕ
the_bits_most = 24

-- source number and whole R, in magnitude; E in the checker and packer
abbrev pub source_most : ℕ
source_most = 8388607

abbrev pub step_most : ℕ
step_most = 24

-- E as a field of a message, in magnitude: "E outside −32,767 to 32,767"
abbrev pub exponent_most : ℕ
exponent_most = 32767

-- E for display: "E outside −1,022 to 1,023"
abbrev pub shown_least : ℤ
shown_least = negsuc 1021

abbrev pub shown_most : ℤ
shown_most = pos 1023

-- "For N = 0, 19 is given exactly when the spread is 8,388,608 or more": half of the greatest step
abbrev pub flat_spread : ℕ
flat_spread = 2 ^ (step_most - 1)

-- the listing program: "at most 32,768 octets", "room for 4,096 points"
abbrev pub listed_most : ℕ
listed_most = 32768

abbrev pub listed_room : ℕ
listed_room = 4096
