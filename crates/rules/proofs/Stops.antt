-- Where the walk over the section lengths stops, computed: each of 20 to 23 in each section that it can name, at both
-- edges; two faults in one section and in two. The specimen's sections start at octets 9, 37, 69 and 77, its end
-- section at 91, and all four are announced.
use mathlib.Core.Path.{◌≡◌, refl}
use mathlib.Core.List.{List, [], ◌∷◌, ◌++◌, map}
use Prim.Native.Nat.{ℕ, ◌+◌, ◌/◌, ◌%◌}
use lib.ListN.{set, length}
use Rattle.rules.specs.declared.{Refusal.Refusal}
use Rattle.rules.specs.Table.{refusal, the_refusal_at}
use Rattle.rules.specs.Reading.{header_of, refused_by}
use Rattle.rules.specs.Display.{display_of}
use Rattle.rules.specs.Checking.{check_of}
use Rattle.rules.proofs.Computes.{computes, specimen, nothing}
use Rattle.rules.proofs.Specimen.{source}

abbrev reply_to : List ℕ → Refusal
reply_to s = (header_of s nothing).refusal

-- the specimen with another length of the section that starts so many octets after its first
abbrev length_at : ℕ → ℕ → List ℕ
length_at i n = set (set specimen (i + 1) (n / 256)) (i + 2) (n % 256)

-- of the PDS: 82 reaches the end section, which leaves nothing for the GDS, and 80 two octets
pds : map (λ n. reply_to (length_at 8 n)) (26 ∷ 27 ∷ 29 ∷ 84 ∷ 1024 ∷ 1025 ∷ 1026 ∷ 1027 ∷ 82 ∷ 80 ∷ [])
    ≡ the_refusal_at 21 1 9 ∷ the_refusal_at 20 1 9 ∷ the_refusal_at 20 1 9 ∷ the_refusal_at 22 1 9 ∷ the_refusal_at 22 1 9
    ∷ the_refusal_at 20 1 9 ∷ the_refusal_at 21 1 9 ∷ the_refusal_at 20 1 9 ∷ the_refusal_at 22 2 91 ∷ the_refusal_at 22 2 89 ∷ []
unfolding computes
pds = refl

-- of the GDS, at 54 and 52 of the BMS behind it
gds : map (λ n. reply_to (length_at 36 n)) (30 ∷ 31 ∷ 33 ∷ 56 ∷ 57 ∷ 178 ∷ 54 ∷ 52 ∷ [])
    ≡ the_refusal_at 21 2 37 ∷ the_refusal_at 20 2 37 ∷ the_refusal_at 20 2 37 ∷ the_refusal_at 22 2 37 ∷ the_refusal_at 20 2 37
    ∷ the_refusal_at 22 2 37 ∷ the_refusal_at 22 3 91 ∷ the_refusal_at 22 3 89 ∷ []
unfolding computes
gds = refl

-- of the BMS, at 22 and 20 of the BDS behind it
bms : map (λ n. reply_to (length_at 68 n)) (4 ∷ 5 ∷ 7 ∷ 24 ∷ 25 ∷ 22 ∷ 20 ∷ [])
    ≡ the_refusal_at 21 3 69 ∷ the_refusal_at 20 3 69 ∷ the_refusal_at 20 3 69 ∷ the_refusal_at 22 3 69 ∷ the_refusal_at 20 3 69
    ∷ the_refusal_at 22 4 91 ∷ the_refusal_at 22 4 89 ∷ []
unfolding computes
bms = refl

-- of the BDS, at 12 of what it leaves over
bds : map (λ n. reply_to (length_at 76 n)) (10 ∷ 11 ∷ 13 ∷ 14 ∷ 15 ∷ 16 ∷ 12 ∷ [])
    ≡ the_refusal_at 21 4 77 ∷ the_refusal_at 20 4 77 ∷ the_refusal_at 20 4 77 ∷ refusal 0 ∷ the_refusal_at 20 4 77 ∷ the_refusal_at 22 4 77
    ∷ the_refusal_at 23 5 89 ∷ []
unfolding computes
bds = refl

-- a message with no octet, two and three before the end section: only three hold a length
abbrev only : List ℕ → List ℕ
only rest = 0x47 ∷ 0x52 ∷ 0x49 ∷ 0x42 ∷ 0 ∷ 0 ∷ (length rest + 12) ∷ 1 ∷ (rest ++ (0x37 ∷ 0x37 ∷ 0x37 ∷ 0x37 ∷ []))

short : map (λ s. reply_to (only s)) ([] ∷ (0 ∷ 0 ∷ []) ∷ (0 ∷ 0 ∷ 27 ∷ []) ∷ (0 ∷ 0 ∷ 28 ∷ []) ∷ [])
    ≡ the_refusal_at 22 1 9 ∷ the_refusal_at 22 1 9 ∷ the_refusal_at 20 1 9 ∷ the_refusal_at 22 1 9 ∷ []
unfolding computes
short = refl

-- in two sections the one in front; before 6, and after 4
paired : map reply_to
    (set (length_at 8 26) 78 15 ∷ set (length_at 76 15) 38 30 ∷ set (length_at 76 15) 21 13 ∷ set (length_at 76 15) 93 0 ∷ [])
    ≡ the_refusal_at 21 1 9 ∷ the_refusal_at 21 2 37 ∷ the_refusal_at 20 4 77 ∷ refusal 4 ∷ []
unfolding computes
paired = refl

-- "They alone return two fields that may not be zero", and all that is read tells them: header, display, check
told : header_of (length_at 68 7) nothing ≡ refused_by (the_refusal_at 20 3 69)
unfolding computes
told = refl

shown : (display_of (length_at 68 7) nothing).refusal ∷ check_of (length_at 68 7) nothing source ∷ []
    ≡ the_refusal_at 20 3 69 ∷ the_refusal_at 20 3 69 ∷ []
unfolding computes
shown = refl
