-- Document 01, "The listing program": the text that it writes for the octets of its standard input.
use Rattle.std.specs.Prelude.{ℕ, zero, suc, ◌+◌, ◌-◌, ◌/◌, ◌%◌, ◌^◌, cond, List, [], ◌∷◌, ◌++◌, ltb, eqb, ℤ, pos}
use Rattle.std.specs.Prelude.{negsuc, length, get_or}
use Rattle.bits.specs.Tables.{tab, least_below}
use Rattle.rules.specs.declared.{Refusal.Refusal, Shape.Shape}
use Rattle.rules.specs.declared.{Header.Header as Said}
use Rattle.rules.specs.Answers.{said_by}
use Rattle.rules.specs.Bounds.{listed_most, listed_room}
use Rattle.rules.specs.Table.{row, first_or, accepted}
use Rattle.rules.specs.Bitmap.{Lent, marks_long, value_of}
use Rattle.rules.specs.Chart.{the_rows_on, the_row_long, the_columns_on, the_point_on}
use Rattle.rules.specs.Grid.{shape_of}
use Rattle.rules.specs.Reading.{present_in, values_in, found_in, read_refusal}

-- text as the octets of its letters
abbrev pub newline : ℕ
newline = 10

abbrev pub space : ℕ
space = 32

abbrev pub hyphen : ℕ
hyphen = 45

-- "refused"
abbrev pub refused_word : List ℕ
refused_word = 0x72 ∷ 0x65 ∷ 0x66 ∷ 0x75 ∷ 0x73 ∷ 0x65 ∷ 0x64 ∷ []

-- a digit of base 16 or less: 0 to 9, then a to f
abbrev pub digit : ℕ → ℕ
digit d = cond (ltb d 10) (48 + d) (87 + d)

-- the c digits of a number in a base, from the highest on
unfoldable pub numeral : ℕ → ℕ → ℕ → List ℕ
numeral base c n = tab (λ j. digit (n / base ^ (c - 1 - j) % base)) c

-- how many decimal digits a number below 10^10 has, 1 at least
unfoldable pub decimal_digits : ℕ → ℕ
decimal_digits n = suc (least_below (λ k. ltb n (10 ^ suc k)) 9)

unfoldable pub decimal : ℕ → List ℕ
decimal n = numeral 10 (decimal_digits n) n

unfoldable pub decimal_signed : ℤ → List ℕ
decimal_signed (pos n) = decimal n
decimal_signed (negsuc n) = hyphen ∷ decimal (suc n)

-- "R as eight hex digits"
unfoldable pub hex_digits : ℕ → List ℕ
hex_digits r = numeral 16 8 r

-- the first n of the parts w 0, w 1, .., one after another
unfoldable pub joined_to : (ℕ → List ℕ) → ℕ → List ℕ
joined_to w zero = []
joined_to w (suc n) = joined_to w n ++ w n

-- "One space stands between fields", and every line ends: what follows word j of n
abbrev pub stop : ℕ → ℕ → ℕ
stop n j = cond (eqb (j + 1) n) newline space

-- a word and what follows it
abbrev pub ended : List ℕ → ℕ → List ℕ
ended word x = word ++ (x ∷ [])

-- a line of the n words w 0, w 1, ..
unfoldable pub line : (ℕ → List ℕ) → ℕ → List ℕ
line w n = joined_to (λ j. ended (w j) (stop n j)) n

-- a line of words that are listed
abbrev pub line_of : List (List ℕ) → List ℕ
line_of words = line (λ j. get_or words j []) (length words)

-- "It lends room for 4,096 points .. and no stored bitmap"
abbrev pub no_store : Lent
no_store = record { number = 0; octets = [] }

-- "X per column, `-` for absent": what stands at a grid point
unfoldable pub cell : (ℕ → ℕ) → List ℕ → ℕ → List ℕ
cell present values i = cond (eqb (present i) 1) (decimal (value_of values i)) (hyphen ∷ [])

-- "a line per chart row from north"
unfoldable pub row_line : (ℕ → ℕ) → List ℕ → Shape → ℕ → List ℕ
row_line present values g r =
    line (λ c. cell present values (the_point_on g (record { row = r; column = c }))) (the_row_long g r)

unfoldable pub row_lines : (ℕ → ℕ) → List ℕ → Shape → List ℕ
row_lines present values g = joined_to (row_line present values g) (the_rows_on g)

-- "Line 1: points, present, columns, rows, D, E, R as eight hex digits, N"
unfoldable pub the_first_line : Said → List ℕ
the_first_line h =
    line_of
    (decimal h.points
    ∷ decimal h.present
    ∷ decimal (the_columns_on (shape_of h.grid))
    ∷ decimal (the_rows_on (shape_of h.grid))
    ∷ decimal_signed h.d.value
    ∷ decimal_signed h.scale.e.value
    ∷ hex_digits h.scale.r
    ∷ decimal h.packing.bits
    ∷ [])

-- "A refusal prints `refused` and its number", whatever else it tells
unfoldable pub refused_line : ℕ → List ℕ
refused_line n = line_of (refused_word ∷ decimal n ∷ [])

-- "longer: reply 1", "more: reply 14"
unfoldable pub listing_refusal : List ℕ → Refusal
listing_refusal s =
    let room = tab (λ _. 0) in
    first_or (row 1 (ltb listed_most (length s)) ∷ [])
    (read_refusal s no_store (room listed_room) (room (marks_long listed_room)))

unfoldable pub listing_of : List ℕ → List ℕ
listing_of s =
    let r = listing_refusal s in
    let h = found_in s no_store in
    cond (accepted r)
    (the_first_line (said_by h) ++ row_lines (present_in s no_store) (values_in s no_store) (shape_of h.grid))
    (refused_line r.number)
