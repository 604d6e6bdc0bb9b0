-- Document 01, "Misreadings to exclude": for each, an example that the misreading would answer otherwise.
use mathlib.Core.Path.{◌≡◌, refl}
use mathlib.Core.List.{[], ◌∷◌, ◌++◌, map}
use Prim.Native.Nat.{◌*◌, ◌+◌}
use lib.IntN.{negsuc}
use lib.ListN.{set, take, drop}
use Rattle.bits.specs.Bits.{bits_in, run}
use Rattle.rules.specs.Chart.{spot_of}
use Rattle.rules.specs.Numbers.{signed}
use Rattle.rules.specs.Points.{numbered}
use Rattle.rules.specs.Reading.{header_of, the_values_after, the_marks_after, numbering_of}
use Rattle.rules.proofs.Computes.{computes, specimen, nothing}

-- "Reading a sign bit as two's complement": FF FE would be −2, and 80 00 08 of three octets −8,388,600
signs : map (λ v. (signed 2 v).value) (0xfffe ∷ 0x8002 ∷ []) ++ ((signed 3 0x800008).value ∷ []) ≡ negsuc 32765 ∷ negsuc 1 ∷ negsuc 7 ∷ []
unfolding computes
signs = refl

-- "Giving an absent point the reference value": it has value 0 and mark 0, whatever R is
absents : ((header_of specimen nothing).scale.r ∷ drop 2 (take 3 (the_values_after specimen nothing (9 ∷ 9 ∷ 9 ∷ 9 ∷ []) (9 ∷ 9 ∷ 9 ∷ 9 ∷ []))))
    ++ drop 2 (take 3 (the_marks_after specimen nothing (9 ∷ 9 ∷ 9 ∷ 9 ∷ []) (9 ∷ 9 ∷ 9 ∷ 9 ∷ [])))
    ≡ 0x439c4000 ∷ 0 ∷ 0 ∷ []
unfolding computes
absents = refl

-- "Drawing the first row north whatever octet 28 says": point 0 of 3 columns and 2 rows, under each setting of the
-- three bits
corners : map (λ scan. spot_of 3 2 scan 0) (0 ∷ 32 ∷ 64 ∷ 96 ∷ 128 ∷ 160 ∷ 192 ∷ 224 ∷ [])
    ≡ record { row = 0; column = 0 }
    ∷ record { row = 0; column = 0 }
    ∷ record { row = 1; column = 0 }
    ∷ record { row = 1; column = 0 }
    ∷ record { row = 0; column = 2 }
    ∷ record { row = 0; column = 2 }
    ∷ record { row = 1; column = 2 }
    ∷ record { row = 1; column = 2 }
    ∷ []
unfolding computes
corners = refl

-- and point 1: the next of its row, or the next of its column
seconds : map (λ scan. spot_of 3 2 scan 1) (0 ∷ 32 ∷ 64 ∷ 96 ∷ 128 ∷ 160 ∷ 192 ∷ 224 ∷ [])
    ≡ record { row = 0; column = 1 }
    ∷ record { row = 1; column = 0 }
    ∷ record { row = 1; column = 1 }
    ∷ record { row = 0; column = 0 }
    ∷ record { row = 0; column = 1 }
    ∷ record { row = 1; column = 2 }
    ∷ record { row = 1; column = 1 }
    ∷ record { row = 0; column = 2 }
    ∷ []
unfolding computes
seconds = refl

-- "Assuming a 28-octet PDS": with one of 30 octets all that follows lies two octets on
longer : the_values_after (set (set (take 36 specimen ++ (5 ∷ 6 ∷ drop 36 specimen)) 6 96) 10 30) nothing (9 ∷ 9 ∷ 9 ∷ 9 ∷ []) (8 ∷ 8 ∷ 8 ∷ 8 ∷ []) ≡ 0 ∷ 2 ∷ 0 ∷ 7 ∷ []
unfolding computes
longer = refl

-- "Using a grid point's number to find its data bits": grid point 3 is data point 2, whose bits are 7; data point 3's
-- bits would be 0
fourth : numbering_of specimen nothing 3 ≡ numbered 2
unfolding computes
fourth = refl

fourth-bits : run (bits_in 8 specimen) (87 * 8 + 2 * 3) 3 ∷ run (bits_in 8 specimen) (87 * 8 + 3 * 3) 3 ∷ [] ≡ 7 ∷ 0 ∷ []
unfolding computes
fourth-bits = refl
