-- Numbers of at most 24 bits packed into octets.
use Rattle.std.specs.Prelude.{ℕ, ◌*◌, ◌^◌, ◌≡◌, List, Bool, cond, ◌&&◌, leb, ltb, length, take}
use Rattle.bits.specs.Bits.{octets_for, packed_into}
use Rattle.widths.specs.Below.{all_below}

-- the numbers of vs as n bits each, into octets from their start on
unfoldable pub pack_fits : ℕ → List ℕ → ℕ → Bool
pack_fits n vs room = leb n 24 && ltb (length vs) (2 ^ 32) && (all_below n vs && leb (octets_for (length vs * n)) room)

unfoldable pub packed : ℕ → List ℕ → List ℕ → List ℕ
packed n vs out = cond (pack_fits n vs (length out)) (packed_into n vs out) out

-- packing goes on: octets into which the first `from` numbers were packed have all of them
abbrev pub PacksOn : ℕ → ℕ → List ℕ → List ℕ → List ℕ → Type 0
PacksOn n from vs out₀ out = (d : List ℕ) → out₀ ≡ packed_into n (take from vs) d → out ≡ packed_into n vs d
