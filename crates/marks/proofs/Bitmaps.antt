-- Marks as bits, eight in an octet, and marks filled from the front: turn by turn, and what the loops leave.
use mathlib.Core.Path.{◌≡◌, refl, sym, ap, ap₂, ◌∙◌, subst}
use mathlib.Core.Bool.{true, false, cond}
use mathlib.Core.List.{List, [], ◌∷◌, ◌++◌}
use mathlib.Core.Logic.{⊎_elim}
use Prim.Native.Nat.{ℕ, zero, suc, ◌+◌, ◌-◌, ◌*◌, ◌/◌, ◌%◌, ◌^◌, ◌≤◌, ◌<◌}
use native.Mathlib.Nat.{zero-add, add-zero, mul-one, pow-suc, zero-div, div-one}
use native.Mathlib.Numerals.{add-one}
use native.Mathlib.Omega.{arith}
use borrow.Author.Tests.{le-leb, lt-leb}
use lib.Dec.{leb}
use lib.ListN.{length, get_or, set, take, drop, replicate, get_or-eq_default}
use Rattle.std.proofs.lemmas.List.{take_at, drop_at, drop-drop, replicate-append-replicate, append_assoc, append-nil}
use Rattle.bits.specs.Bits.{bit_of, bits_in, run, runs, placed}
use Rattle.bits.specs.Tables.{tab}
use Rattle.bits.proofs.Runs.{bits_in-bits, bits_at, run-below, lt_or_ge}
use Rattle.bits.proofs.Fill.{length-tab, get_or-tab, tab_ext, fill}
use Rattle.bits.proofs.Trip.{length_runs, runs_ext}
use Rattle.bits.proofs.Placed.{run-zero}
use Rattle.bits.proofs.Placing.{placed-none, length-placed, placed-next, set-placed}
use Rattle.rules.specs.Bitmap.{mark_of}
use Rattle.marks.specs.Marks.{marks_put, marked_by}
use Rattle.marks.proofs.Points.{mark-past}

-- the marks of m points as bits: each mark's last bit, and zeros after them
abbrev pub F : List ℕ → ℕ → ℕ → ℕ
F marks m = bits_in 1 (tab (mark_of marks) m)

bit-of : (xs : List ℕ) (i : ℕ) → bits_in 1 xs i ≡ get_or xs i 0 % 2
unfolding bits_in bit_of
bit-of xs i =
    let m : 1 - 1 - i % 1 ≡ 0 = omega arith in
    ap₂ (λ (a b : ℕ). get_or xs a 0 / 2 ^ b % 2) (div-one i) m ∙ ap (λ (a : ℕ). a % 2) (div-one (get_or xs i 0))

bit_in : (marks : List ℕ) (m i : ℕ) → i < m → F marks m i ≡ mark_of marks i % 2
bit_in marks m i l = bit-of (tab (mark_of marks) m) i ∙ ap (λ (a : ℕ). a % 2) (get_or-tab (mark_of marks) m i 0 l)

bit-after : (marks : List ℕ) (m i : ℕ) → m ≤ i → F marks m i ≡ 0
bit-after marks m i l =
    bit-of (tab (mark_of marks) m) i
    ∙ ap (λ (a : ℕ). a % 2)
    (get_or-eq_default (tab (mark_of marks) m) 0 (subst (λ (a : ℕ). a ≤ i) (sym (length-tab (mark_of marks) m)) l))

-- one mark more in an octet, or none
pub octet-none : (marks : List ℕ) (m p : ℕ) → 0 ≡ run (F marks m) p 0
unfolding run
octet-none marks m p = refl

pub octet-more : (marks : List ℕ) (m p j x : ℕ) → p + j < m → x ≡ run (F marks m) p j
    → x * 2 + get_or marks (p + j) 0 % 2 ≡ run (F marks m) p (j + 1)
unfolding run
octet-more marks m p j x l e = rw add-one (ap₂ (λ (y z : ℕ). y * 2 + z) e (sym (bit_in marks m (p + j) l)))

pub octet-end : (marks : List ℕ) (m p j x : ℕ) → m ≤ p + j → x ≡ run (F marks m) p j → x * 2 ≡ run (F marks m) p (j + 1)
unfolding run
octet-end marks m p j x l e =
    rw add-one (sym (add-zero (x * 2)) ∙ ap₂ (λ (y z : ℕ). y * 2 + z) e (sym (bit-after marks m (p + j) l)))

octet-ends : (marks : List ℕ) (m p j d x : ℕ) → (0 < d → m ≤ p + j) → x ≡ run (F marks m) p j
    → x * 2 ^ d ≡ run (F marks m) p (j + d)
octet-ends marks m p j zero x l e = mul-one x ∙ e ∙ ap (run (F marks m) p) (sym (add-zero j))
octet-ends marks m p j (suc d) x l e =
    let h : m ≤ p + j = l (omega arith) in
    let s : j + d + 1 ≡ j + suc d = omega arith in
    ap (λ (y : ℕ). x * y) (pow-suc 2 d) ∙ omega arith
    ∙ octet-end marks m p (j + d) (x * 2 ^ d) (omega arith) (octet-ends marks m p j d x (λ _. h) e)
    ∙ ap (run (F marks m) p) s

-- an octet of c marks, moved to its front
pub octet-full : (marks : List ℕ) (m p c x : ℕ) → c ≤ 8 → (c < 8 → m ≡ p + c) → x ≡ run (F marks m) p c
    → (x * 2 ^ (8 - c) ≡ run (F marks m) p 8) × (x * 2 ^ (8 - c) < 256)
octet-full marks m p c x l h e =
    let s : c + (8 - c) ≡ 8 = omega arith in
    let le : 0 < 8 - c → m ≤ p + c = λ k. let g : m ≡ p + c = h (omega arith) in omega arith in
    let r : x * 2 ^ (8 - c) ≡ run (F marks m) p 8 = octet-ends marks m p c (8 - c) x le e ∙ ap (run (F marks m) p) s in
    (r, subst (λ (y : ℕ). y < 256) (sym r) (run-below (bits_in-bits 1 (tab (mark_of marks) m)) p 8 8 (omega arith)))

pub octet-lt : (marks : List ℕ) (m p j x : ℕ) → j < 8 → x ≡ run (F marks m) p j → x < 128
octet-lt marks m p j x l e =
    subst (λ (y : ℕ). y < 128) (sym e) (run-below (bits_in-bits 1 (tab (mark_of marks) m)) p j 7 (omega arith))

pub octet-after : (marks : List ℕ) (m p : ℕ) → m ≤ p → 0 ≡ run (F marks m) p 8
octet-after marks m p l = sym (run-zero (F marks m) p 8 (λ j k. bit-after marks m (p + j) (omega arith)))

-- one octet more
pub placed-set : (d : List ℕ) (at : ℕ) (p : List ℕ) (x : ℕ) → at + length p < length d
    → set (placed d at p) (at + length p) x ≡ placed d at (p ++ (x ∷ []))
placed-set d at p x h =
    let l = length-placed d at p (omega arith) in
    set-placed (placed d at p) (at + length p) x (omega arith) ∙ placed-next d at p (x ∷ []) (omega arith)

pub octets-none : (d : List ℕ) (at : ℕ) (f : ℕ → ℕ) → d ≡ placed d at (runs f 0 8 0)
unfolding runs tab
octets-none d at f = sym (placed-none d at)

pub octets-more : (d out : List ℕ) (f : ℕ → ℕ) (at g x : ℕ) → at + g < length d → x ≡ run f (g * 8) 8
    → out ≡ placed d at (runs f 0 8 g)
    → set out (at + g) x ≡ placed d at (runs f 0 8 (g + 1))
unfolding runs tab
octets-more d out f at g x h e o =
    let l : length (runs f 0 8 g) ≡ g = length_runs f 0 8 g in
    ap₂ (λ (y : List ℕ) (n : ℕ). set y (at + n) x) o (sym l)
    ∙ placed-set d at (runs f 0 8 g) x (omega arith)
    ∙ ap (placed d at)
    (ap (λ (y : ℕ). runs f 0 8 g ++ (y ∷ [])) (e ∙ ap (λ (a : ℕ). run f a 8) (sym (zero-add (g * 8))))
    ∙ ap (tab (λ i. run f (0 + i * 8) 8)) (sym (add-one g)))

-- marks past the end are zeros too
same_bit : (marks : List ℕ) (n m i : ℕ) → m ≡ n - (n - length marks) → F marks m i ≡ F marks n i
same_bit marks n m i e = ⊎_elim
    (λ (l : i < m). bit_in marks m i l ∙ sym (bit_in marks n i (omega arith)))
    (λ (g : m ≤ i). bit-after marks m i g ∙ sym (⊎_elim
    (λ (l : i < n). bit_in marks n i l ∙ ap (λ (a : ℕ). a % 2) (mark-past marks i (omega arith)))
    (λ (h : n ≤ i). bit-after marks n i h) (lt_or_ge i n)))
    (lt_or_ge i m)

pub put-fits : (marks out : List ℕ) (n k c : ℕ) → k + c ≤ length out
    → marks_put marks n out k c ≡ placed out k (runs (F marks n) 0 8 c)
unfolding marks_put
put-fits marks out n k c h = rw (le-leb (k + c) (length out) h)

pub put-done : (marks out o : List ℕ) (n m k c : ℕ) → m ≡ n - (n - length marks) → k + c ≤ length out
    → o ≡ placed out k (runs (F marks m) 0 8 c)
    → (true ≡ leb (k + c) (length out)) × (o ≡ marks_put marks n out k c)
put-done marks out o n m k c e h p = (
  sym (le-leb (k + c) (length out) h),
  p ∙ ap (placed out k) (runs_ext (F marks m) (F marks n) 0 0 8 c (λ i l. same_bit marks n m (0 + i) e))
      ∙ sym (put-fits marks out n k c h),
)

pub put-short : (marks out : List ℕ) (n k c : ℕ) → length out < k + c
    → (false ≡ leb (k + c) (length out)) × (out ≡ marks_put marks n out k c)
unfolding marks_put
put-short marks out n k c h = let t : leb (k + c) (length out) ≡ false = lt-leb (k + c) (length out) h in (sym t, rw t)

-- marks filled: what a loop leaves that begins with i₀ of them put into d
abbrev pub Marked : (ℕ → ℕ) → List ℕ → ℕ → List ℕ → ℕ → ℕ → Type 0
Marked f out₀ i₀ out i n = (d : List ℕ) → n ≤ length d → out₀ ≡ tab f i₀ ++ drop i₀ d → out ≡ tab f i ++ drop i d

pub mark_turn : (f : ℕ → ℕ) (out₀ out : List ℕ) (i₀ i n x : ℕ) → i < n → x ≡ f i → Marked f out₀ i₀ out i n
    → Marked f out₀ i₀ (set out i x) (i + 1) n
mark_turn f out₀ out i₀ i n x l e m d k z =
    ap₂ (λ (o : List ℕ) (y : ℕ). set o i y) (m d k z) e ∙ fill f i d (omega arith)

-- the same mark for each point from m on, d of them
tab_same : (f : ℕ → ℕ) (x m d : ℕ) → ((i : ℕ) → m ≤ i → i < m + d → f i ≡ x) → tab f (m + d) ≡ tab f m ++ replicate d x
unfolding tab
tab_same f x m zero h = ap (tab f) (add-zero m) ∙ sym (append-nil (tab f m))
tab_same f x m (suc d) h =
    let e : m + suc d ≡ suc (m + d) = omega arith in
    let s : d + 1 ≡ suc d = omega arith in
    ap (tab f) e
    ∙ ap₂ (λ (t : List ℕ) (y : ℕ). t ++ (y ∷ [])) (tab_same f x m d (λ i a b. h i a (omega arith))) (h (m + d) (omega arith) (omega arith))
    ∙ append_assoc (tab f m) (replicate d x) (x ∷ [])
    ∙ ap (λ (t : List ℕ). tab f m ++ t) (replicate-append-replicate d 1 x ∙ ap (λ (n : ℕ). replicate n x) s)

pub filled_from : (f : ℕ → ℕ) (marks o y : List ℕ) (x m n k : ℕ) → m ≤ n → n ≤ length marks → o ≡ tab f m ++ drop m marks
    → k ≡ n - m → y ≡ replicate k x → ((i : ℕ) → m ≤ i → i < n → f i ≡ x)
    → take m o ++ (y ++ drop (n - m) (drop m o)) ≡ tab f n ++ drop n marks
filled_from f marks o y x m n k l h e s p g =
    let d : m + (n - m) ≡ n = omega arith in
    ap₂ (λ (a b : List ℕ). a ++ (y ++ drop (n - m) b))
    (ap (take m) e ∙ take_at (tab f m) (drop m marks) m (length-tab f m))
    (ap (drop m) e ∙ drop_at (tab f m) (drop m marks) m (length-tab f m))
    ∙ ap₂ (λ (a b : List ℕ). tab f m ++ (a ++ b)) (p ∙ ap (λ (j : ℕ). replicate j x) s) (drop-drop (n - m) m marks ∙ ap (λ (j : ℕ). drop j marks) d)
    ∙ sym (append_assoc (tab f m) (replicate (n - m) x) (drop n marks))
    ∙ ap (λ (t : List ℕ). t ++ drop n marks) (sym (tab_same f x m (n - m) (λ i a b. g i a (omega arith))) ∙ ap (tab f) d)

pub filled : (f : ℕ → ℕ) (marks y : List ℕ) (x n k : ℕ) → k ≡ n → y ≡ replicate k x → ((i : ℕ) → i < n → f i ≡ x)
    → y ++ drop n marks ≡ tab f n ++ drop n marks
unfolding tab
filled f marks y x n k s p g =
    ap (λ (t : List ℕ). t ++ drop n marks)
    (p ∙ ap (λ (j : ℕ). replicate j x) s ∙ sym (tab_same f x 0 n (λ i a b. g i (omega arith))) ∙ ap (tab f) (zero-add n))

-- from a bitmap
abbrev pub G : List ℕ → ℕ → ℕ → ℕ
G map k i = bits_in 8 map (k * 8 + i)

pub octet-bit : (map : List ℕ) (k g j : ℕ) → j < 8 → get_or map (k + g) 0 / 2 ^ (7 - j) % 2 ≡ G map k (g * 8 + j)
unfolding bit_of
octet-bit map k g j l = let e : (k + g) * 8 + j ≡ k * 8 + (g * 8 + j) = omega arith in sym (bits_at 8 map (k + g) j l) ∙ ap (bits_in 8 map) e

pub bit_past : (map : List ℕ) (k i : ℕ) → (length map - k) * 8 ≤ i → 0 ≡ G map k i
unfolding bits_in bit_of
bit_past map k i l =
    sym (ap (λ (x : ℕ). x / 2 ^ (7 - (k * 8 + i) % 8) % 2) (mark-past map ((k * 8 + i) / 8) (omega arith))
    ∙ ap (λ (x : ℕ). x % 2) (zero-div (2 ^ (7 - (k * 8 + i) % 8))))

pub marked_ext : (f g : ℕ → ℕ) (n : ℕ) (marks : List ℕ) → ((i : ℕ) → i < n → f i ≡ g i)
    → marked_by f n marks ≡ marked_by g n marks
unfolding marked_by
marked_ext f g n marks e = ap (λ (x : List ℕ). cond (leb n (length marks)) (x ++ drop n marks) marks) (tab_ext f g n e)

pub marked-fits : (f : ℕ → ℕ) (n : ℕ) (marks : List ℕ) → n ≤ length marks → marked_by f n marks ≡ tab f n ++ drop n marks
unfolding marked_by
marked-fits f n marks h = rw (le-leb n (length marks) h)

pub fill_done : (f : ℕ → ℕ) (marks o : List ℕ) (n : ℕ) → n ≤ length marks → o ≡ tab f n ++ drop n marks
    → (true ≡ leb n (length marks)) × (o ≡ marked_by f n marks)
fill_done f marks o n h e = (sym (le-leb n (length marks) h), e ∙ sym (marked-fits f n marks h))

pub fill-short : (f : ℕ → ℕ) (marks : List ℕ) (n : ℕ) → length marks < n
    → (false ≡ leb n (length marks)) × (marks ≡ marked_by f n marks)
unfolding marked_by
fill-short f marks n h = let t : leb n (length marks) ≡ false = lt-leb n (length marks) h in (sym t, rw t)
