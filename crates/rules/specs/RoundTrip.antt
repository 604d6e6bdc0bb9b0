-- Document 00, demand 2: the parts that reading gives, and when reading and then writing gives the same octets.
use Rattle.std.specs.Prelude.{ℕ, ◌+◌, ◌-◌, ◌*◌, Bool, false, not, ◌&&◌, List, [], ◌∷◌, ◌++◌, map, eqb}
use Rattle.bits.specs.Bits.{bits_in, count}
use Rattle.rules.specs.declared.{Bitmap.Bitmap, Bitmap.TheVariants.Without, Bitmap.TheVariants.Carried}
use Rattle.rules.specs.declared.{Bitmap.TheVariants.Stored}
use Rattle.rules.specs.Bounds.{bms_head, bds_head}
use Rattle.rules.specs.Numbers.{octet, number, sign}
use Rattle.rules.specs.Table.{any_of}
use Rattle.rules.specs.Places.{octets_of, pds_start, the_has_grid, places_of}
use Rattle.rules.specs.Grid.{grid_stains}
use Rattle.rules.specs.Bitmap.{Lent}
use Rattle.rules.specs.Reading.{grid_in, bitmap_in, packing_in, the_scale_in, points_in, present_count, values_in}
use Rattle.rules.specs.Reading.{marks_in}
use Rattle.rules.specs.Writing.{Parts}

-- the parts that reading a message gives, as the writer takes them
unfoldable pub parts_in : List ℕ → Lent → Parts
parts_in s lent = record {
  pds = octets_of s (places_of s).pds;
  form = record { grid = grid_in s; bitmap = bitmap_in s; packing = packing_in s };
  scale = the_scale_in s;
  lent = lent;
  values = values_in s lent;
  marks = marks_in s lent;
}

-- the signed field in octets k to l is a sign bit and no magnitude
abbrev pub minus_zero : List ℕ → ℕ → ℕ → ℕ → Bool
minus_zero s p k l = eqb (number s p k l) (sign (l + 1 - k))

-- one of the padding bits from a place on is set
abbrev pub padding_set : List ℕ → ℕ → ℕ → Bool
padding_set s from unused = not (eqb (count (bits_in 8 s) from unused) 0)

abbrev pub bitmap_padding_set : List ℕ → Bitmap → ℕ → ℕ → Bool
bitmap_padding_set s Without b n = false
bitmap_padding_set s Carried b n = padding_set s ((b + bms_head) * 8 + n) (octet s b 4)
bitmap_padding_set s (Stored number) b n = false

-- the data's padding: what is left of L − 11 octets after m × N bits
abbrev pub data_padding_set : List ℕ → ℕ → ℕ → ℕ → Bool
data_padding_set s b len t = padding_set s ((b + bds_head) * 8 + t) (8 * (len - bds_head) - t)

-- what keeps a message from coming back octet for octet, each by itself: of the grid section its signed fields and its
-- reserved octets, the bitmap's padding, E, the data's padding
unfoldable pub stains : List ℕ → Lent → List Bool
stains s lent =
    let p = places_of s in
    let b = p.bds.start in
    map (λ (stain : Bool). the_has_grid s pds_start && stain) (grid_stains s p.gds)
    ++ (bitmap_padding_set s (bitmap_in s) p.bms.start (points_in s)
    ∷ minus_zero s b 5 6
    ∷ data_padding_set s b p.bds.len (present_count s lent * (packing_in s).bits)
    ∷ [])

-- "when padding and reserved octets are zero and no signed field in the grid or data section is minus zero"
unfoldable pub canonical : List ℕ → Lent → Bool
canonical s lent = not (any_of (stains s lent))
