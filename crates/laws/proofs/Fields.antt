-- Fields laid one after another read back wherever they stand, and laid again from what is read they are the octets
-- read: one law each way for every field of every section, by induction on the list of fields. "p stands at k" is `drop
-- k s ≡ p ++ rest`.
use Prim.Native.Nat.{ℕ, ◌+◌, ◌*◌, ◌^◌, ◌≤◌, ◌<◌}
use mathlib.Core.Path.{◌≡◌, refl, sym, subst, ◌∙◌, ap, ap₂}
use mathlib.Core.List.{List, [], ◌∷◌, ◌++◌, append_assoc}
use native.Mathlib.Omega.{arith}
use native.Mathlib.Nat.{add-zero, add_assoc, zero-add}
use lib.ListN.{length, get_or, drop, length-append, get_or-append}
use lib.Seq.{get_or-drop, drop-drop, drop_at}
use Rattle.bits.specs.Bits.{bit_of, bits_in, run, Wide}
use Rattle.bits.proofs.Runs.{bit_of-bits, run_ext, run-word, run-unit}
use Rattle.bits.proofs.Trip.{bits-runs, length_runs, get_or-runs}
use Rattle.bits.proofs.Cut.{cut, bits-drop, number-here}
use Rattle.rules.specs.Numbers.{Field, octets, laid}

pub laid-append : (fs : List Field) (a b : List ℕ) → laid fs a ++ b ≡ laid fs (a ++ b)
laid-append [] a b = refl
laid-append (f ∷ fs) a b =
    append_assoc (octets f.width f.held) (laid fs a) b
    ∙ ap (λ (x : List ℕ). octets f.width f.held ++ x) (laid-append fs a b)

-- where the fields end that begin at place j
abbrev pub widths : List Field → ℕ → ℕ
widths [] j = j
widths (f ∷ fs) j = widths fs (j + f.width)

length-laid : (fs : List Field) (rest : List ℕ) (j : ℕ) → j + length (laid fs rest) ≡ widths fs j + length rest
length-laid [] rest j = refl
length-laid (f ∷ fs) rest j =
    let e : length (octets f.width f.held ++ laid fs rest) ≡ f.width + length (laid fs rest) = length-append (octets f.width f.held) (laid fs rest) ∙ ap (λ (x : ℕ). x + length (laid fs rest)) (length_runs (bit_of (f.width * 8) f.held) 0 8 f.width) in
    ap (λ (x : ℕ). j + x) e ∙ sym (add_assoc j f.width (length (laid fs rest))) ∙ length-laid fs rest (j + f.width)

pub laid-length : (fs : List Field) (rest : List ℕ) → length (laid fs rest) ≡ widths fs 0 + length rest
laid-length fs rest = sym (zero-add (length (laid fs rest))) ∙ length-laid fs rest 0

-- each number fits its octets
abbrev pub Fit : List Field → Type 0
Fit [] = Unit
Fit (f ∷ fs) = (f.held < 2 ^ (f.width * 8)) × Fit fs

-- each reads back, the first j octets after place g; one of a single octet as that octet too
abbrev pub Back : List ℕ → ℕ → ℕ → List Field → Type 0
Back s g j [] = Unit
Back s g j (f ∷ fs) =
    (run (bits_in 8 s) ((g + j) * 8) (f.width * 8) ≡ f.held) × (f.width ≡ 1 → get_or s (g + j) 0 ≡ f.held)
    × Back s g (j + f.width) fs

first_back : (s : List ℕ) (k c x : ℕ) (rest : List ℕ) → drop k s ≡ octets c x ++ rest → x < 2 ^ (c * 8)
    → run (bits_in 8 s) (k * 8) (c * 8) ≡ x
first_back s k c x rest e h =
    run_ext (bits_in 8 s) (bit_of (c * 8) x) (k * 8) 0 (c * 8)
    (λ i l. bits-drop k s i ∙ ap (λ (y : List ℕ). bits_in 8 y i) e ∙ bits-runs (bit_of-bits (c * 8) x) 0 8 c rest i l)
    ∙ run-word (c * 8) x h

-- an octet of what stands at place k
pub get_at : (s : List ℕ) (k : ℕ) (p rest : List ℕ) (i : ℕ) → drop k s ≡ p ++ rest → i < length p
    → get_or s (k + i) 0 ≡ get_or p i 0
get_at s k p rest i e h = sym (get_or-drop k s i 0) ∙ ap (λ (x : List ℕ). get_or x i 0) e ∙ get_or-append p rest 0 i h

one-back : (s : List ℕ) (k c x : ℕ) (rest : List ℕ) → drop k s ≡ octets c x ++ rest → x < 2 ^ (c * 8) → c ≡ 1
    → get_or s k 0 ≡ x
one-back s k c x rest e h o =
    let e' : drop k s ≡ octets 1 x ++ rest = e ∙ ap (λ (y : ℕ). octets y x ++ rest) o in
    let h' : x < 2 ^ 8 = subst (λ (y : ℕ). x < 2 ^ (y * 8)) o h in
    ap (λ (y : ℕ). get_or s y 0) (sym (add-zero k))
    ∙ get_at s k (octets 1 x) rest 0 e' (subst (λ (y : ℕ). 0 < y) (sym (length_runs (bit_of 8 x) 0 8 1)) (omega arith))
    ∙ get_or-runs (bit_of 8 x) 0 8 1 0 (omega arith) ∙ run-word 8 x h'

next-drop : (s : List ℕ) (g j c x : ℕ) (rest : List ℕ) → drop (g + j) s ≡ octets c x ++ rest
    → drop (g + (j + c)) s ≡ rest
next-drop s g j c x rest e =
    ap (λ (y : ℕ). drop y s) (sym (add_assoc g j c)) ∙ sym (drop-drop c (g + j) s) ∙ ap (drop c) e
    ∙ drop_at (octets c x) rest c (length_runs (bit_of (c * 8) x) 0 8 c)

pub all_back : (s : List ℕ) (g j : ℕ) (fs : List Field) (rest : List ℕ) → drop (g + j) s ≡ laid fs rest → Fit fs
    → Back s g j fs
all_back s g j [] rest e h = tt
all_back s g j (f ∷ fs) rest e h = (
  first_back s (g + j) f.width f.held (laid fs rest) e h.0,
  one-back s (g + j) f.width f.held (laid fs rest) e h.0,
  all_back s g (j + f.width) fs rest (next-drop s g j f.width f.held (laid fs rest) e) h.1,
)

-- what follows the fields
pub after-fields : (s : List ℕ) (g j : ℕ) (fs : List Field) (rest : List ℕ) → drop (g + j) s ≡ laid fs rest
    → drop (g + widths fs j) s ≡ rest
after-fields s g j [] rest e = e
after-fields s g j (f ∷ fs) rest e =
    after-fields s g (j + f.width) fs rest (next-drop s g j f.width f.held (laid fs rest) e)

-- fields and what follows them, standing at place k
pub stands : (s : List ℕ) (k : ℕ) (fs : List Field) (tail rest : List ℕ) → drop k s ≡ laid fs tail ++ rest
    → drop (k + 0) s ≡ laid fs (tail ++ rest)
stands s k fs tail rest e = ap (λ (x : ℕ). drop x s) (add-zero k) ∙ e ∙ laid-append fs tail rest

-- and back: each field is what is read in its place, the first j octets after place g
abbrev pub Held : List ℕ → ℕ → ℕ → List Field → Type 0
Held s g j [] = Unit
Held s g j (f ∷ fs) = (run (bits_in 8 s) ((g + j) * 8) (f.width * 8) ≡ f.held) × Held s g (j + f.width) fs

widths_ge : (fs : List Field) (j : ℕ) → j ≤ widths fs j
widths_ge [] j = omega arith
widths_ge (f ∷ fs) j = omega (arith, widths_ge fs (j + f.width))

pub laid-here : (s : List ℕ) (g j : ℕ) (fs : List Field) (rest : List ℕ) → Wide 8 s → g + widths fs j ≤ length s
    → Held s g j fs → rest ≡ drop (g + widths fs j) s → laid fs rest ≡ drop (g + j) s
laid-here s g j [] rest w l h e = e
laid-here s g j (f ∷ fs) rest w l h e =
    let m : g + j + f.width ≤ length s = omega (arith, widths_ge fs (j + f.width)) in
    ap (λ (x : ℕ). octets f.width x ++ laid fs rest) (sym h.0)
    ∙ ap₂ (λ (x y : List ℕ). x ++ y) (number-here s (g + j) f.width w m)
    (laid-here s g (j + f.width) fs rest w l h.1 e ∙ ap (λ (x : ℕ). drop x s) (sym (add_assoc g j f.width)))
    ∙ cut s (g + j) f.width

pub here : (s : List ℕ) (k : ℕ) (fs : List Field) (rest : List ℕ) → Wide 8 s → k + widths fs 0 ≤ length s
    → Held s k 0 fs → rest ≡ drop (k + widths fs 0) s → laid fs rest ≡ drop k s
here s k fs rest w l h e = laid-here s k 0 fs rest w l h e ∙ ap (λ (x : ℕ). drop x s) (add-zero k)

-- a field of one octet, and no field at all
pub one : (s : List ℕ) → Wide 8 s → (k : ℕ) → run (bits_in 8 s) (k * 8) 8 ≡ get_or s k 0
one s w k = run-unit 8 s k (w k)

pub absent-here : (s : List ℕ) (k len : ℕ) → len ≡ 0 → drop (k + len) s ≡ drop k s
absent-here s k len e = ap (λ (x : ℕ). drop (k + x) s) e ∙ ap (λ (x : ℕ). drop x s) (add-zero k)
