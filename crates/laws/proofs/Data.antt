-- The m values of a message as simple packing has them: one after another, N bits each; by the definition, and row 12
-- for the bound.
use Prim.Native.Nat.{ℕ, ◌+◌, ◌-◌, ◌*◌, ◌%◌, ◌≤◌, ◌<◌}
use mathlib.Core.Path.{◌≡◌, refl, ◌∙◌, ap}
use mathlib.Core.List.{List}
use native.Mathlib.Omega.{arith}
use borrow.Author.Tests.{ltb-false}
use lib.ListN.{length, get_or}
use Rattle.bits.specs.Bits.{bits_in, run, runs, Wide}
use Rattle.bits.proofs.Runs.{bits_in-bits, next_le}
use Rattle.bits.proofs.Trip.{length_runs, wide_runs, get_or-runs}
use Rattle.rules.specs.Bounds.{message_least, message_most, the_bits_most, bds_head}
use Rattle.rules.specs.Numbers.{octet}
use Rattle.rules.specs.Places.{places_of, the_size_bad}
use Rattle.rules.specs.Bitmap.{Lent}
use Rattle.rules.specs.Values.{packing_faults, the_length_bad, values_at}
use Rattle.rules.specs.Reading.{present_count, packing_in, data_in}
use Rattle.laws.specs.Taken.{Taken}
use Rattle.laws.proofs.Rows.{none_of, is_eq, inside}
use Rattle.laws.proofs.Judged.{judged}

module _ (s : List ℕ) (lent : Lent) where
  abbrev pub the_data_place : ℕ
  the_data_place = ((places_of s).bds.start + bds_head) * 8

  abbrev bits : ℕ
  bits = (packing_in s).bits

  abbrev m : ℕ
  m = present_count s lent

  -- N is small, and so is the message
  pub data_narrow : Taken s lent → bits ≤ the_bits_most
  unfolding packing_faults
  data_narrow t = ltb-false the_bits_most bits (none_of (packing_faults (packing_in s)) (judged s lent t).packing).1.0

  pub size-most : Taken s lent → length s ≤ message_most
  unfolding the_size_bad
  size-most t = (inside message_least message_most (length s) (judged s lent t).size).1

  pub data_runs : data_in s lent ≡ runs (bits_in 8 s) the_data_place bits m
  unfolding data_in values_at
  data_runs = refl

  pub data_length : length (data_in s lent) ≡ m
  data_length = ap length data_runs ∙ length_runs (bits_in 8 s) the_data_place bits m

  pub data_wide : Wide bits (data_in s lent)
  unfolding data_in values_at
  data_wide = wide_runs (bits_in-bits 8 s) the_data_place bits m

  -- the k-th stands at its bit place, inside the data section
  pub data_at : (k : ℕ) → k < m → get_or (data_in s lent) k 0 ≡ run (bits_in 8 s) (the_data_place + k * bits) bits
  data_at k l = ap (λ (xs : List ℕ). get_or xs k 0) data_runs ∙ get_or-runs (bits_in 8 s) the_data_place bits m k l

  pub data_inside : Taken s lent → (k : ℕ) → k < m → k * bits + bits ≤ 8 * ((places_of s).bds.len - bds_head)
  unfolding the_length_bad
  data_inside t k l =
      let b = (places_of s).bds in
      omega (
        arith,
        next_le k m bits l,
        is_eq (8 * (b.len - bds_head)) (m * bits + octet s b.start 4 % 16)
            (judged s lent t).length,
      )
