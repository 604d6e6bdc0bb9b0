-- Document 01, "Octets and bits are counted from 1 .. Numbers are high octet first", and "Numbers": sign and magnitude.
use Rattle.std.specs.Prelude.{ℕ, suc, ◌+◌, ◌-◌, ◌*◌, ◌/◌, ◌%◌, ◌^◌, List, [], ◌∷◌, ◌++◌, Bool, cond, ◌||◌, ltb, eqb, ℤ}
use Rattle.std.specs.Prelude.{pos, negsuc, neg_ℤ, nat_abs, get_or}
use Rattle.std.specs.Int.Signed.{lt_z}
use Rattle.rules.specs.declared.{Signed.Signed}
use Rattle.bits.specs.Bits.{bit_of, bits_in, run, runs}

-- octet k, counted from 1, of what starts at place p (counted from 0) of the octets s; past the end of s it reads 0
abbrev pub octet : List ℕ → ℕ → ℕ → ℕ
octet s p k = get_or s (p + (k - 1)) 0

-- "bits are counted from 1, bit 1 leftmost": whether bit k of an octet is set
unfoldable pub bit : ℕ → ℕ → Bool
bit k x = eqb (x / 2 ^ (8 - k) % 2) 1

-- the number in octets k to l, "high octet first"
abbrev pub number : List ℕ → ℕ → ℕ → ℕ → ℕ
number s p k l = run (bits_in 8 s) ((p + (k - 1)) * 8) ((l + 1 - k) * 8)

-- the c octets of a number
abbrev pub octets : ℕ → ℕ → List ℕ
octets c x = runs (bit_of (c * 8) x) 0 8 c

-- a field of a section: how many octets it has, and the number in them
pub record Field : Type 0 where
  pub width : ℕ
  pub held : ℕ

abbrev pub field : ℕ → ℕ → Field
field c x = record { width = c; held = x }

-- fields one after another, and what follows them
abbrev pub laid : List Field → List ℕ → List ℕ
laid [] rest = rest
laid (f ∷ fields) rest = octets f.width f.held ++ laid fields rest

-- parts one after another
unfoldable pub joined : List (List ℕ) → List ℕ
joined [] = []
joined (part ∷ parts) = part ++ joined parts

-- "All section lengths are even": the least even length that holds a number of octets
abbrev pub even_from : ℕ → ℕ
even_from c = c + c % 2

-- "a sign bit and a magnitude": the sign bit's weight in a field of c octets
abbrev pub sign : ℕ → ℕ
sign c = 2 ^ (8 * c - 1)

-- the signed field of a value (a request may give it more than that: only the definitions here know)
abbrev pub plain : ℤ → Signed
plain z = record { value = z }

-- "Minus zero reads as 0"
unfoldable pub signed : ℕ → ℕ → Signed
signed c v = plain (cond (ltb v (sign c)) (pos v) (neg_ℤ (pos (v - sign c))))

-- a magnitude that leaves the sign bit of a field of c octets free
abbrev pub magnitude_fits : ℕ → Signed → Bool
magnitude_fits c z = ltb (nat_abs z.value) (sign c)

-- "and is written as plus zero"
abbrev pub spelled_value : ℕ → ℤ → ℕ
spelled_value c (pos n) = n
spelled_value c (negsuc n) = sign c + suc n

abbrev pub spelled : ℕ → Signed → ℕ
spelled c z = spelled_value c z.value

-- the signed field in octets k to l; a signed field of c octets, to be written
abbrev pub signed_at : List ℕ → ℕ → ℕ → ℕ → Signed
signed_at s p k l = signed (l + 1 - k) (number s p k l)

abbrev pub signed_field : ℕ → Signed → Field
signed_field c z = field c (spelled c z)

-- "decimal scale D 27-28", of a PDS at place p
abbrev pub decimal_at : List ℕ → ℕ → Signed
decimal_at s p = signed_at s p 27 28

-- outside a range, both ends allowed; a magnitude over a bound
abbrev pub not_within : ℕ → ℕ → ℕ → Bool
not_within least most n = ltb n least || ltb most n

abbrev pub beyond : ℕ → ℤ → Bool
beyond most z = lt_z (pos most) z || lt_z z (neg_ℤ (pos most))
