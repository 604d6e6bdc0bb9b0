-- The year of century from 1 to 100, computed: which year a spelling is, where the range ends, and that all who judge a
-- time judge it alike.
use mathlib.Core.Path.{◌≡◌, refl}
use mathlib.Core.List.{List, [], ◌∷◌, map}
use mathlib.Core.Bool.{Bool, true, false}
use Prim.Native.Nat.{ℕ, ◌+◌}
use lib.ListN.{set}
use Rattle.rules.specs.Table.{any_of}
use Rattle.rules.specs.Time.{the_year_of, moment_faults}
use Rattle.rules.specs.Reading.{header_of, read_of}
use Rattle.rules.specs.Display.{display_of}
use Rattle.rules.specs.Writing.{write_of}
use Rattle.rules.specs.Checking.{check_of}
use Rattle.rules.specs.Packing.{pack_of}
use Rattle.rules.proofs.Computes.{computes, specimen, nothing}
use Rattle.rules.proofs.Specimen.{form, parts, source}
use Rattle.rules.proofs.Replies.{with-pds}

-- the first year, the turns of three centuries, and the last
spelled : the_year_of 18 1 ∷ the_year_of 19 100 ∷ the_year_of 20 1 ∷ the_year_of 20 100 ∷ the_year_of 21 1 ∷ the_year_of 21 100 ∷ the_year_of 99 100 ∷ []
    ≡ 1701 ∷ 1900 ∷ 1901 ∷ 2000 ∷ 2001 ∷ 2100 ∷ 9900 ∷ []
unfolding computes
spelled = refl

-- "100 is to be taken and 0 refused": on a day that every year has
abbrev refused : ℕ → ℕ → Bool
refused century year = any_of (moment_faults century year 3 10 6 0)

edges : map (refused 20) (0 ∷ 1 ∷ 2 ∷ 99 ∷ 100 ∷ 101 ∷ 255 ∷ [])
    ≡ true ∷ false ∷ false ∷ false ∷ false ∷ true ∷ true ∷ []
unfolding computes
edges = refl

centuries : map (λ c. refused c 100) (0 ∷ 17 ∷ 18 ∷ 21 ∷ 99 ∷ 100 ∷ [])
    ≡ true ∷ true ∷ false ∷ false ∷ false ∷ true ∷ []
unfolding computes
centuries = refl

-- 29 February by the year: 1800, 1900, 2000, 2100, 2400, 9900
leaps : map (λ c. any_of (moment_faults c 100 2 29 0 0)) (18 ∷ 19 ∷ 20 ∷ 21 ∷ 24 ∷ 99 ∷ [])
    ≡ true ∷ true ∷ false ∷ true ∷ false ∷ true ∷ []
unfolding computes
leaps = refl

-- a day of February in the PDS at place p of these octets
abbrev dated : ℕ → ℕ → ℕ → ℕ → List ℕ → List ℕ
dated p century year day s = set (set (set (set s (p + 24) century) (p + 12) year) (p + 13) 2) (p + 14) day

told : (header_of (dated 8 20 100 29 specimen) nothing).time
    ≡ record { year = 2000; month = 2; day = 29; hour = 6; minute = 0 }
unfolding computes
told = refl

-- "for readers and writers alike": header, read, display, check, write and pack of the specimen on that day
abbrev replies : ℕ → ℕ → ℕ → List ℕ
replies century year day =
    let s = dated 8 century year day specimen in
    let pds = dated 0 century year day parts.pds in
    (header_of s nothing).refusal.number
    ∷ (read_of s nothing parts.values parts.marks).refusal.number
    ∷ (display_of s nothing).refusal.number
    ∷ (check_of s nothing source).number
    ∷ (write_of (with-pds pds) specimen).refusal.number
    ∷ (pack_of pds form nothing source specimen).refusal.number
    ∷ []

abbrev all : ℕ → List ℕ
all n = n ∷ n ∷ n ∷ n ∷ n ∷ n ∷ []

alike : replies 20 100 29 ∷ replies 19 100 29 ∷ replies 20 0 28 ∷ replies 20 101 28 ∷ []
    ≡ all 0 ∷ all 6 ∷ all 6 ∷ all 6 ∷ []
unfolding computes
alike = refl

-- what document 01 took for 1700 and 2000
former : replies 18 0 28 ∷ replies 21 0 29 ∷ [] ≡ all 6 ∷ all 6 ∷ []
unfolding computes
former = refl
