-- Presence as code reads it: bits of octets from one octet on.
use Rattle.std.specs.Prelude.{ℕ, ◌+◌, ◌*◌, List}
use Rattle.bits.specs.Bits.{bits_in}
use Rattle.rules.specs.declared.{Bitmap.Bitmap, Bitmap.TheVariants.Without, Bitmap.TheVariants.Carried}
use Rattle.rules.specs.declared.{Bitmap.TheVariants.Stored}

-- the bits of octets from octet p on
abbrev pub bits_from : List ℕ → ℕ → ℕ → ℕ
bits_from s p i = bits_in 8 s (p * 8 + i)

-- of a bitmap: bits of the message from octet p on, or of the store; with no bitmap every point has a one
unfoldable pub held : Bitmap → List ℕ → List ℕ → ℕ → ℕ → ℕ
held Without s store p i = 1
held Carried s store p i = bits_from s p i
held (Stored number) s store p i = bits_from store 0 i
