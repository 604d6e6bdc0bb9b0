-- How many octets sections take: bounds that keep code's sums in their types, and that the rooms are the sections'
-- lengths.
use Rattle.std.specs.Prelude.{None, Option, Some}
use mathlib.Core.Path.{◌≡◌, refl, ap, ◌∙◌}
use mathlib.Core.List.{List, []}
use Prim.Native.Nat.{ℕ, ◌+◌, ◌-◌, ◌*◌, ◌≤◌}
use native.Mathlib.Nat.{mul-le-mul}
use native.Mathlib.Omega.{arith}
use lib.ListN.{length}
use Rattle.bits.specs.Bits.{bits_in, octets_for, runs}
use Rattle.bits.specs.Tables.{tab}
use Rattle.bits.proofs.Trip.{length_runs}
use Rattle.rules.specs.declared.{Bitmap.Bitmap, Bitmap.TheVariants.Without, Bitmap.TheVariants.Carried, Grid.Grid}
use Rattle.rules.specs.declared.{Bitmap.TheVariants.Stored, Form.Form, Scale.Scale, Packing.Packing}
use Rattle.rules.specs.Bounds.{pds_most, thinned_length, bms_head, bds_least, bds_head, points_most, the_bits_most}
use Rattle.rules.specs.Numbers.{even_from}
use Rattle.rules.specs.Layouts.{Kind, latlon, thinned, mercator, lambert, gaussian, polar, length_by}
use Rattle.rules.specs.Grid.{kind_of}
use Rattle.rules.specs.Bitmap.{bms_fields, bms_of}
use Rattle.rules.specs.Values.{bds_of}
use Rattle.rules.specs.Writing.{gds_for}
use Rattle.laws.proofs.Fields.{laid-length}
use Rattle.laws.proofs.Lengths.{gds-length, bds-length}
use Rattle.framing.specs.Layout.{gds_room, the_bms_room, the_bds_room, front_room, the_message_room, bms_most, data_most, bds_most}
use Rattle.framing.specs.Layout.{room_most}

kind-few : (k : Kind) → length_by k ≤ thinned_length
kind-few latlon = omega arith
kind-few thinned = omega arith
kind-few mercator = omega arith
kind-few lambert = omega arith
kind-few gaussian = omega arith
kind-few polar = omega arith

pub gds-few : (f : Option Grid) → gds_room f ≤ thinned_length
unfolding gds_room
gds-few None = omega arith
gds-few (Some g) = kind-few (kind_of g.geometry)

pub bms-few : (b : Bitmap) (n : ℕ) → n ≤ points_most → the_bms_room b n ≤ bms_most
unfolding the_bms_room
bms-few Without n h = omega arith
bms-few Carried n h = omega arith
bms-few (Stored k) n h = omega arith

pub bits-few : (bits m : ℕ) → bits ≤ the_bits_most → m ≤ points_most → m * bits ≤ data_most
bits-few bits m h k = mul-le-mul k h

pub bds-few : (bits m : ℕ) → bits ≤ the_bits_most → m ≤ points_most → the_bds_room bits m ≤ bds_most
unfolding the_bds_room
bds-few bits m h k = omega (arith, bits-few bits m h k)

pub message-few : (pds : ℕ) (form : Form) (n m : ℕ) → pds ≤ pds_most → n ≤ points_most → m ≤ points_most
    → form.packing.bits ≤ the_bits_most → the_message_room pds form n m ≤ room_most
unfolding the_message_room front_room
message-few pds form n m p h k b =
    omega (arith, gds-few form.grid, bms-few form.bitmap n h, bds-few form.packing.bits m b k)

-- how a data section's length holds its bits
pub record Held (bits m : ℕ) : Type 0 where
  pub least : bds_least ≤ the_bds_room bits m
  pub most : the_bds_room bits m ≤ bds_most
  pub low : octets_for (m * bits) ≤ the_bds_room bits m - bds_head
  pub high : the_bds_room bits m - bds_head ≤ octets_for (m * bits) + 1
  pub holds : m * bits ≤ 8 * (the_bds_room bits m - bds_head)
  pub spare : 8 * (the_bds_room bits m - bds_head) ≤ m * bits + 15
  pub few : m * bits ≤ data_most

pub bds-held : (bits m : ℕ) → bits ≤ the_bits_most → m ≤ points_most → Held bits m
unfolding the_bds_room
bds-held bits m h k =
    let f = bits-few bits m h k in
    record { least = omega arith; most = omega arith; low = omega arith; high = omega arith; holds = omega arith; spare = omega arith; few = f }

-- the rooms are lengths
pub gds-room : (f : Option Grid) → length (gds_for f) ≡ gds_room f
unfolding gds_room
gds-room None = refl
gds-room (Some g) = gds-length g

pub bms-room : (b : Bitmap) (present : ℕ → ℕ) (n : ℕ) → length (bms_of b present n) ≡ the_bms_room b n
unfolding the_bms_room bms_of
bms-room Without present n = refl
bms-room Carried present n =
    let len = even_from (bms_head + octets_for n) in
    laid-length (bms_fields len (8 * (len - bms_head) - n) 0) (runs (bits_in 1 (tab present n)) 0 8 (len - bms_head))
    ∙ ap (λ (x : ℕ). bms_head + x) (length_runs (bits_in 1 (tab present n)) 0 8 (len - bms_head)) ∙ omega arith
bms-room (Stored k) present n = laid-length (bms_fields bms_head 0 k) []

pub bds-room : (p : Packing) (c : Scale) (xs : List ℕ) → length (bds_of p c xs) ≡ the_bds_room p.bits (length xs)
unfolding the_bds_room
bds-room p c xs = bds-length p c xs
