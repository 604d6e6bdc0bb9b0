-- Numbers put into octets: where one fits, and what it leaves.
use Rattle.std.specs.Prelude.{ℕ, ◌+◌, ◌-◌, ◌*◌, ◌^◌, List, Bool, cond, ◌&&◌, leb, ltb, length}
use Rattle.bits.specs.Bits.{number_at}
use Rattle.rules.specs.declared.{Signed.Signed}
use Rattle.rules.specs.Numbers.{magnitude_fits, spelled}

-- c octets from octet k on, counted from 1, of what starts at place p lie inside
abbrev pub room_at : List ℕ → ℕ → ℕ → ℕ → Bool
room_at out p k c = leb (p + (k - 1 + c)) (length out)

-- a number of c octets
unfoldable pub put_fits : List ℕ → ℕ → ℕ → ℕ → ℕ → Bool
put_fits out p k c x = room_at out p k c && ltb x (2 ^ (c * 8))

unfoldable pub the_put_number : List ℕ → ℕ → ℕ → ℕ → ℕ → List ℕ
the_put_number out p k c x = cond (put_fits out p k c x) (number_at out (p + (k - 1)) c x) out

-- a signed number of c octets: its magnitude leaves the sign bit free
unfoldable pub signed_fits : List ℕ → ℕ → ℕ → ℕ → Signed → Bool
signed_fits out p k c z = room_at out p k c && magnitude_fits c z

unfoldable pub the_put_signed : List ℕ → ℕ → ℕ → ℕ → Signed → List ℕ
the_put_signed out p k c z = cond (signed_fits out p k c z) (number_at out (p + (k - 1)) c (spelled c z)) out
