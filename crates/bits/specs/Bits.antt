-- Runs of bits. A sequence of bits is a function from a bit's place, counted from 0 at the left, to 0 or 1.
use Rattle.std.specs.Prelude.{ℕ, zero, suc, ◌+◌, ◌-◌, ◌*◌, ◌/◌, ◌%◌, ◌^◌, ◌<◌, List, [], ◌∷◌, ◌++◌, cond, ltb, get_or, length, take, drop}
use Rattle.bits.specs.Tables.{tab}

-- bit j of the number x of w bits, the highest bit being bit 0
unfoldable pub bit_of : ℕ → ℕ → ℕ → ℕ
bit_of w x j = x / 2 ^ (w - 1 - j) % 2

-- the bits of numbers of w bits each, w above 0, one number after another, and zeros after them; of octets w is 8.
-- Numbers of no bits have none to follow one another: at width 0 every place reads the lowest bit of the first number,
-- 0 where that is below 2^0 (law no-width)
unfoldable pub bits_in : ℕ → List ℕ → ℕ → ℕ
bits_in w xs i = bit_of w (get_or xs (i / w) 0) (i % w)

-- each number of xs has w bits
abbrev pub Wide : ℕ → List ℕ → Type 0
Wide w xs = (k : ℕ) → get_or xs k 0 < 2 ^ w

-- the number that the n bits from place at on make, high bit first
unfoldable pub run : (ℕ → ℕ) → ℕ → ℕ → ℕ
run f at zero = 0
run f at (suc n) = run f at n * 2 + f (at + n)

-- how many of the n bits from place at on are ones
unfoldable pub count : (ℕ → ℕ) → ℕ → ℕ → ℕ
count f at zero = 0
count f at (suc n) = count f at n + f (at + n)

-- m runs of n bits each, one after another from place at on
unfoldable pub runs : (ℕ → ℕ) → ℕ → ℕ → ℕ → List ℕ
runs f at n m = tab (λ k. run f (at + k * n) n) m

-- how many octets t bits take
abbrev pub octets_for : ℕ → ℕ
octets_for t = (t + 7) / 8

-- the first at bits of f, and then the bits of g
unfoldable pub join : ℕ → (ℕ → ℕ) → (ℕ → ℕ) → ℕ → ℕ
join at f g i = cond (ltb i at) (f i) (g (i - at))

-- the octets s with the n bits of v put at place at, and zeros from there to the end of the octet
unfoldable pub put_at : List ℕ → ℕ → ℕ → ℕ → List ℕ
put_at s at n v = runs (join at (bits_in 8 s) (bits_in n (v ∷ []))) 0 8 (octets_for (at + n)) ++ drop (octets_for (at + n)) s

-- the octets s with the numbers vs of n bits each put one after another from the start, and zeros to the end of the
-- octet
unfoldable pub packed_into : ℕ → List ℕ → List ℕ → List ℕ
packed_into n vs s = runs (bits_in n vs) 0 8 (octets_for (length vs * n)) ++ drop (octets_for (length vs * n)) s

-- the octets s with the c octets of the number x from octet k on
unfoldable pub number_at : List ℕ → ℕ → ℕ → ℕ → List ℕ
number_at s k c x = (take k s ++ runs (bit_of (c * 8) x) 0 8 c) ++ drop (k + c) s

-- the octets d with p put from octet at on
unfoldable pub placed : List ℕ → ℕ → List ℕ → List ℕ
placed d at p = take at d ++ (p ++ drop (at + length p) d)
