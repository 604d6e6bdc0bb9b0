-- What a list of marks says of n points, and how it goes to a bitmap and comes from one: all over `mark_of`, and n
-- stands beside the list. Marks, values and bits past the end are 0.
use Rattle.std.specs.Prelude.{ℕ, ◌+◌, ◌*◌, ◌<◌, ◌≤◌, ◌≡◌, Bool, cond, not, ◌&&◌, List, ◌++◌, leb, eqb, length, drop}
use Rattle.bits.specs.Bits.{bits_in, run, count, runs, placed}
use Rattle.bits.specs.Tables.{tab, any_below}
use Rattle.rules.specs.Bitmap.{mark_of, value_of}

-- each of n points is present
unfoldable pub the_all_present : List ℕ → ℕ → Bool
the_all_present marks n = not (any_below (λ i. not (eqb (mark_of marks i) 1)) n)

-- none of n marks is other than 0
unfoldable pub the_none_marked : List ℕ → ℕ → Bool
the_none_marked marks n = eqb (count (mark_of marks) 0 n) 0

-- 13: "an absent point .. with value not 0"
unfoldable pub strays : List ℕ → List ℕ → ℕ → Bool
strays values marks n = any_below (λ i. eqb (mark_of marks i) 0 && not (eqb (value_of values i) 0)) n

-- 10: of the n bits from octet k of a bitmap on, "one .. isn't the same number as the mark"
unfoldable pub marks_differ : List ℕ → ℕ → List ℕ → ℕ → Bool
marks_differ map k marks n = any_below (λ i. not (eqb (bits_in 8 map (k * 8 + i)) (mark_of marks i))) n

-- c octets from place k on become the marks of n points, eight to an octet, the first leftmost, and zeros after the
-- last, where they fit
unfoldable pub marks_put : List ℕ → ℕ → List ℕ → ℕ → ℕ → List ℕ
marks_put marks n out k c =
    cond (leb (k + c) (length out)) (placed out k (runs (bits_in 1 (tab (mark_of marks) n)) 0 8 c)) out

-- the marks of n points become what `present` says, where they fit, and those after them stay
unfoldable pub marked_by : (ℕ → ℕ) → ℕ → List ℕ → List ℕ
marked_by present n marks = cond (leb n (length marks)) (tab present n ++ drop n marks) marks

-- r is the octet of the c marks from point p on, eight or the last of m points, and zeros after them
abbrev pub OctetOf : List ℕ → ℕ → ℕ → ℕ → Type 0
OctetOf marks p c r = (m : ℕ) → p + c ≤ m → (c < 8 → m ≡ p + c) → r ≡ run (bits_in 1 (tab (mark_of marks) m)) p 8
