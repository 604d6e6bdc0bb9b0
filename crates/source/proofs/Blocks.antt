-- The numbers at the present points of a block, gathered: as many as are present, in order at the front of the list
-- held; and a test of each of them is a test of each present point. By induction on the points, each of them present or
-- absent.
use mathlib.Core.Path.{◌≡◌, refl, sym, ap, ap₂, ◌∙◌, subst}
use mathlib.Core.Bool.{Bool, true, false, cond, ◌||◌, ◌&&◌}
use mathlib.Core.List.{List, [], ◌∷◌}
use Prim.Native.Nat.{ℕ, zero, suc, ◌+◌, ◌*◌, ◌≤◌, ◌<◌}
use native.Mathlib.Nat.{add-zero}
use native.Mathlib.Numerals.{add-one}
use native.Mathlib.Omega.{arith}
use native.Mathlib.Decide.{ℕ_discrete}
use borrow.Author.Tests.{eq-eqb, ne_eqb}
use lib.Dec.{eqb}
use lib.IntN.{ℤ, pos}
use lib.ListN.{length, get_or, take, drop, length-drop, get_or-append}
use lib.Seq.{length-take-le, get_or-take, get_or-drop, get_or_at}
use Rattle.bits.specs.Bits.{count}
use Rattle.bits.specs.Tables.{any_below}
use Rattle.bits.proofs.Runs.{Bits}
use Rattle.bits.proofs.Ones.{count-one, count_none, count_ext, count-le, count-split}
use Rattle.bits.proofs.Below.{any_ext}
use Rattle.rules.specs.Bitmap.{mark_of}
use Rattle.laws.specs.Marks.{here}
use Rattle.gathering.specs.Gather.{here_from, gather_into, gather_list, gathered_of, gather_fits}
use Rattle.gathering.proofs.Chunks.{Chunk}
use Rattle.gathering.proofs.Here.{here-one, here-from-bits, fits_so}
use Rattle.gathering.proofs.Gathered.{gathered_in, gathered-out, length-gathered-of, gather-front, held_into}

or_nothing : (b : Bool) → b || false ≡ b
or_nothing true = refl
or_nothing false = refl

-- some points more
pub any_more : (f : ℕ → Bool) (i c : ℕ) → any_below f i || any_below (λ j. f (i + j)) c ≡ any_below f (i + c)
unfolding any_below
any_more f i zero = or_nothing (any_below f i) ∙ ap (any_below f) (sym (add-zero i))
any_more f i (suc c) =
    sym (or_assoc (any_below f i) (any_below (λ j. f (i + j)) c) (f (i + c)))
    ∙ ap (λ (b : Bool). b || f (i + c)) (any_more f i c) ∙ ap (any_below f) (far-suc i c)
  where
    or_assoc : (a b d : Bool) → (a || b) || d ≡ a || (b || d)
    or_assoc true b d = refl
    or_assoc false b d = refl

    far-suc : (a b : ℕ) → suc (a + b) ≡ a + suc b
    far-suc a b = omega arith

-- a test g k x of the value x that is gathered as number k
module _ {A : Type 0} (f : ℕ → ℕ) (b : Bits f) (v : ℕ → A) (z : A) (g : ℕ → A → Bool) where
  abbrev all : ℕ → List A
  all n = gathered_of f v n

  tested : ℕ → Bool
  tested n = any_below (λ k. g k (get_or (all n) k z)) (count f 0 n)

  one_more : (n : ℕ) → f n ≡ 1
      → any_below (λ k. g k (get_or (all (n + 1)) k z)) (suc (count f 0 n)) ≡ tested n || g (count f 0 n) (v n)
  unfolding any_below tested
  one_more n h =
      let e = gathered_in f v n h in
      ap₂ (λ (x y : Bool). x || y)
      (any_ext _ _ (count f 0 n) (λ k l. ap (g k) (ap (λ (xs : List A). get_or xs k z) e
      ∙ get_or-append (all n) (v n ∷ []) z k (subst (λ (x : ℕ). k < x) (sym (length-gathered-of f b v n)) l))))
      (ap (g (count f 0 n))
      (ap (λ (xs : List A). get_or xs (count f 0 n) z) e
      ∙ get_or_at (all n) (v n) [] z (count f 0 n) (length-gathered-of f b v n)))

  tested_in : (n : ℕ) → f n ≡ 1 → tested (n + 1) ≡ tested n || (eqb (f n) 1 && g (count f 0 n) (v n))
  unfolding tested
  tested_in n h =
      ap (any_below (λ k. g k (get_or (all (n + 1)) k z))) (count-one f n h ∙ add-one (count f 0 n))
      ∙ one_more n h ∙ ap (λ (t : Bool). tested n || (t && g (count f 0 n) (v n))) (sym (eq-eqb (f n) 1 h))

  tested-out : (n : ℕ) → (f n ≡ 1 → ⊥) → tested (n + 1) ≡ tested n || (eqb (f n) 1 && g (count f 0 n) (v n))
  unfolding tested
  tested-out n h =
      ap₂ (λ (xs : List A) (m : ℕ). any_below (λ k. g k (get_or xs k z)) m) (gathered-out f v n h) (count_none b n h)
      ∙ sym (ap (λ (t : Bool). tested n || (t && g (count f 0 n) (v n))) (ne_eqb (f n) 1 h) ∙ or_nothing (tested n))

  any_gathered : (n : ℕ) → tested n ≡ any_below (λ i. eqb (f i) 1 && g (count f 0 i) (v i)) n
  unfolding any_below tested count
  any_gathered zero = refl
  any_gathered (suc n) =
      ap tested (sym (add-one n)) ∙ elim (ℕ_discrete (f n) 1) [ yes h ↦ tested_in n h | no h ↦ tested-out n h ]
      ∙ ap (λ (t : Bool). t || (eqb (f n) 1 && g (count f 0 n) (v n))) (any_gathered n)

-- a block of points from point i on: m of them are present, and their numbers stand at the front of the list held
pub record Gathered (block : List ℤ) (marks : List ℕ) (i m : ℕ) (held : List ℤ) : Type 0 where
  pub many : m ≡ count (here_from marks i) 0 (length block)
  pub front : take m held ≡ gathered_of (here_from marks i) (λ j. get_or block j (pos 0)) (length block)

module _ (block : List ℤ) (marks : List ℕ) (i : ℕ) where
  abbrev c : ℕ
  c = length block

  abbrev at : ℕ → ℤ
  at j = get_or block j (pos 0)

  abbrev fit : List ℤ → Bool
  fit first = gather_fits c (length first) i (length marks)

  pub gathered-block : (m : ℕ) (first held : List ℤ) → i + c ≤ length marks → c ≤ length first
      → m ≡ cond (fit first) (count (here_from marks i) 0 c) 0
      → held ≡ cond (fit first) (gather_list (here_from marks i) block c first) first
      → Gathered block marks i m held
  gathered-block m first held k r em eh =
      let t : fit first ≡ true = fits_so c (length first) i (length marks) r k in
      let n : m ≡ count (here_from marks i) 0 c = em ∙ ap (λ (b : Bool). cond b (count (here_from marks i) 0 c) 0) t in
      let h : held ≡ gather_into (here_from marks i) at c first = eh ∙ held_into (here_from marks i) block (pos 0) (fit first) first ∙ ap (λ (b : Bool). cond b (gather_into (here_from marks i) at c first) first) t in record {
        many = n;
        front = ap₂ (λ (x : ℕ) (xs : List ℤ). take x xs) n h
            ∙ gather-front (here_from marks i) (here-from-bits marks i) at first c r;
      }

  module _ (m : ℕ) (held : List ℤ) (h : Gathered block marks i m held) where
    pub no_more : m ≤ c
    no_more = subst (λ (x : ℕ). x ≤ c) (sym h.many) (count-le (here-from-bits marks i) 0 c)

    -- a test of each number held
    pub any_block : (g : ℕ → ℤ → Bool)
        → any_below (λ k. g k (get_or held k (pos 0))) m
        ≡ any_below (λ j. eqb (mark_of marks (i + j)) 1 && g (count (here_from marks i) 0 j) (at j)) c
    unfolding tested
    any_block g =
        any_ext _ _ m
        (λ k l. ap (g k) (sym (get_or-take m held k (pos 0) l) ∙ ap (λ (xs : List ℤ). get_or xs k (pos 0)) h.front))
        ∙ ap (any_below (λ k. g k (get_or (gathered_of (here_from marks i) at c) k (pos 0)))) h.many
        ∙ any_gathered (here_from marks i) (here-from-bits marks i) at (pos 0) g c
        ∙ any_ext _ _ c
        (λ j l. ap (λ (t : Bool). t && g (count (here_from marks i) 0 j) (at j)) (here-one marks (i + j)))

-- a chunk of all numbers, gathered
pub gathered-chunk : (xs block : List ℤ) (b before next : ℕ) → Chunk xs block b before next
    → (marks : List ℕ) → length xs ≤ length marks → (m : ℕ) (first held : List ℤ) → length first ≡ 256
    → m ≡ cond (gather_fits (length block) (length first) (b * 256) (length marks)) (count (here_from marks (b * 256)) 0 (length block)) 0
    → held ≡ cond (gather_fits (length block) (length first) (b * 256) (length marks))
    (gather_list (here_from marks (b * 256)) block (length block) first) first
    → Gathered block marks (b * 256) m held × (m ≤ 256)
gathered-chunk xs block b before next t marks e m first held r em eh =
    let g = gathered-block block marks (b * 256) m first held (omega (arith, t.inside)) (omega (arith, t.most)) em eh in
    (g, omega (arith, no_more block marks (b * 256) m held g, t.most))

-- a block as a part of all numbers
module _ (numbers : List ℤ) (i c : ℕ) (l : i + c ≤ length numbers) where
  abbrev pub part : List ℤ
  part = take c (drop i numbers)

  pub part-long : length part ≡ c
  part-long = length-take-le c (drop i numbers) (omega (arith, length-drop i numbers))

  pub part_at : (j : ℕ) → j < c → get_or part j (pos 0) ≡ get_or numbers (i + j) (pos 0)
  part_at j k = get_or-take c (drop i numbers) j (pos 0) k ∙ get_or-drop i numbers j (pos 0)

  pub any_part : (f : ℕ → ℤ → Bool)
      → any_below (λ j. f j (get_or part j (pos 0))) (length part) ≡ any_below (λ j. f j (get_or numbers (i + j) (pos 0))) c
  any_part f = ap (any_below (λ j. f j (get_or part j (pos 0)))) part-long ∙ any_ext _ _ c (λ j k. ap (f j) (part_at j k))

-- presence counted from a point on
pub count-from : (marks : List ℕ) (i j : ℕ)
    → count (here marks) 0 i + count (here_from marks i) 0 j ≡ count (here marks) 0 (i + j)
count-from marks i j =
    ap (λ (x : ℕ). count (here marks) 0 i + x)
    (count_ext (here_from marks i) (here marks) 0 (0 + i) j (λ k l. ap (here marks) (same i k)))
    ∙ sym (count-split (here marks) 0 i j)
  where
    same : (a k : ℕ) → a + (0 + k) ≡ 0 + a + k
    same a k = omega arith
