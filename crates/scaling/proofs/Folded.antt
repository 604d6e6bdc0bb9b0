-- The least or the greatest of the numbers gathered is that of the present points passed: what holds of them goes on
-- over a block, by induction on its points, each of them present or absent.
use mathlib.Core.Path.{◌≡◌, refl, sym, ap, ap₂, ◌∙◌, subst}
use mathlib.Core.List.{List, [], ◌∷◌}
use Prim.Native.Nat.{ℕ, zero, suc, min, ◌+◌, ◌-◌, ◌*◌, ◌<◌, ◌≤◌}
use native.Mathlib.Nat.{add-zero}
use native.Mathlib.Numerals.{add-one}
use native.Mathlib.Omega.{arith}
use native.Mathlib.Decide.{ℕ_discrete}
use borrow.Author.Tests.{eq-eqb, eqb-true}
use lib.IntN.{ℤ, pos}
use lib.ListN.{length, get_or, take, drop, get_or-append}
use lib.Seq.{length-take-le, get_or-take, get_or_at}
use Rattle.std.proofs.lemmas.List.{drop-take, take-take}
use Rattle.bits.specs.Bits.{count}
use Rattle.bits.proofs.Runs.{Bits}
use Rattle.bits.proofs.Ones.{count-one, count_none}
use Rattle.rules.specs.Bitmap.{mark_of}
use Rattle.laws.specs.Marks.{here}
use Rattle.gathering.specs.Gather.{here_from, gathered_of}
use Rattle.gathering.proofs.Chunks.{Chunk}
use Rattle.gathering.proofs.Here.{here-one, here-marked, here-from-bits}
use Rattle.gathering.proofs.Gathered.{gathered_in, gathered-out, length-gathered-of, gathered-present}
use Rattle.source.proofs.Blocks.{Gathered, part, part-long, part_at}
use Rattle.scaling.specs.Spread.{folded}

-- a turn of the loop over the numbers held
pub fold_none : (f : ℤ → ℤ → ℤ) (z : ℤ) (v : ℕ → ℤ) → z ≡ folded f z v 0
unfolding folded
fold_none f z v = refl

pub fold_next : (f : ℤ → ℤ → ℤ) (z : ℤ) (v : ℕ → ℤ) (k : ℕ) (x w y : ℤ) → x ≡ v k → w ≡ folded f z v k → y ≡ f x w
    → y ≡ folded f z v (k + 1)
unfolding folded
fold_next f z v k x w y e h q = rw add-one (q ∙ ap₂ f e h)

fold_ext : (f : ℤ → ℤ → ℤ) (z : ℤ) (u v : ℕ → ℤ) (n : ℕ) → ((k : ℕ) → k < n → u k ≡ v k)
    → folded f z u n ≡ folded f z v n
unfolding folded
fold_ext f z u v zero h = refl
fold_ext f z u v (suc n) h = ap₂ f (h n (omega arith)) (fold_ext f z u v n (λ k l. h k (omega arith)))

-- P holds of the points passed and of what is found; Q of each number held
module _ (f : ℕ → ℕ) (b : Bits f) (v : ℕ → ℤ) (g : ℤ → ℤ → ℤ) (z : ℤ) (Q : ℤ → Type 0) (P : ℕ → ℤ → Type 0)
    (in-it : (j : ℕ) (w : ℤ) → f j ≡ 1 → Q (v j) → P j w → P (j + 1) (g (v j) w)) (left_out : (j : ℕ) (w : ℤ) → (f j ≡ 1 → ⊥) → P j w → P (j + 1) w) (begin : P 0 z) where
  abbrev at : ℕ → ℕ → ℤ
  at n k = get_or (gathered_of f v n) k (pos 0)

  before : (n : ℕ) → f n ≡ 1 → (k : ℕ) → k < count f 0 n → at (n + 1) k ≡ at n k
  before n h k l =
      ap (λ (xs : List ℤ). get_or xs k (pos 0)) (gathered_in f v n h)
      ∙ get_or-append (gathered_of f v n) (v n ∷ []) (pos 0) k
      (subst (λ (x : ℕ). k < x) (sym (length-gathered-of f b v n)) l)

  last : (n : ℕ) → f n ≡ 1 → at (n + 1) (count f 0 n) ≡ v n
  last n h =
      ap (λ (xs : List ℤ). get_or xs (count f 0 n) (pos 0)) (gathered_in f v n h)
      ∙ get_or_at (gathered_of f v n) (v n) [] (pos 0) (count f 0 n) (length-gathered-of f b v n)

  abbrev found : ℕ → ℤ
  found n = folded g z (at n) (count f 0 n)

  found_in : (n : ℕ) → f n ≡ 1 → found (n + 1) ≡ g (v n) (found n)
  unfolding folded
  found_in n h =
      ap (folded g z (at (n + 1))) (count-one f n h ∙ add-one (count f 0 n))
      ∙ ap₂ g (last n h) (fold_ext g z (at (n + 1)) (at n) (count f 0 n) (before n h))

  found-out : (n : ℕ) → (f n ≡ 1 → ⊥) → found (n + 1) ≡ found n
  found-out n h =
      ap₂ (λ (xs : List ℤ) (m : ℕ). folded g z (λ k. get_or xs k (pos 0)) m) (gathered-out f v n h) (count_none b n h)

  fold_step : (n : ℕ) → (((k : ℕ) → k < count f 0 n → Q (at n k)) → P n (found n))
      → ((k : ℕ) → k < count f 0 (n + 1) → Q (at (n + 1) k)) → P (n + 1) (found (n + 1))
  fold_step n so_far q = elim (ℕ_discrete (f n) 1) [
    | yes h ↦
        let c = count-one f n h in
        subst (P (n + 1)) (sym (found_in n h))
        (in-it n (found n) h (subst Q (last n h) (q (count f 0 n) (omega (arith, c))))
        (so_far (λ k l. subst Q (before n h k l) (q k (omega (arith, c))))))
    | no h ↦
        let c = count_none b n h in
        subst (P (n + 1)) (sym (found-out n h))
        (left_out n (found n) h
        (so_far (λ k l. subst (λ (xs : List ℤ). Q (get_or xs k (pos 0))) (gathered-out f v n h)
        (q k (omega (arith, c))))))
  ]

  fold_gathered : (n : ℕ) → ((k : ℕ) → k < count f 0 n → Q (at n k)) → P n (found n)
  unfolding folded count
  fold_gathered zero q = begin
  fold_gathered (suc n) q =
      subst (λ (x : ℕ). P x (found x)) (add-one n)
      (fold_step n (fold_gathered n)
      (λ k l. subst (λ (x : ℕ). Q (at x k)) (sym (add-one n))
      (q k (subst (λ (x : ℕ). k < count f 0 x) (add-one n) l))))

-- a block of the points of a field
module _ (numbers : List ℤ) (marks : List ℕ) (i c : ℕ) (l : i + c ≤ length numbers) (m : ℕ) (held : List ℤ) (h : Gathered (part numbers i c l) marks i m held)
    (g : ℤ → ℤ → ℤ) (Q : ℤ → Type 0) (P : ℕ → ℤ → Type 0)
    (in-it : (k : ℕ) (w : ℤ) → mark_of marks k ≡ 1 → Q (get_or numbers k (pos 0)) → P k w
    → P (k + 1) (g (get_or numbers k (pos 0)) w))
    (left_out : (k : ℕ) (w : ℤ) → (mark_of marks k ≡ 1 → ⊥) → P k w → P (k + 1) w) where
  abbrev number : ℕ → ℤ
  number j = get_or numbers (i + j) (pos 0)

  all : List ℤ
  all = gathered_of (here_from marks i) number c

  many : m ≡ count (here_from marks i) 0 c
  many = h.many ∙ ap (count (here_from marks i) 0) (part-long numbers i c l)

  front : take m held ≡ all
  unfolding all
  front =
      h.front ∙ ap (gathered_of (here_from marks i) (λ j. get_or (part numbers i c l) j (pos 0))) (part-long numbers i c l)
      ∙ gathered-present (here_from marks i) (λ j. get_or (part numbers i c l) j (pos 0)) number c
      (λ j k _. part_at numbers i c l j k)

  held_at : (k : ℕ) → k < m → get_or held k (pos 0) ≡ get_or all k (pos 0)
  held_at k q = sym (get_or-take m held k (pos 0) q) ∙ ap (λ (xs : List ℤ). get_or xs k (pos 0)) front

  one_on : (j : ℕ) → i + (j + 1) ≡ i + j + 1
  one_on j = omega arith

  pub fold_block : (z w : ℤ) → w ≡ folded g z (λ k. get_or held k (pos 0)) m → ((k : ℕ) → k < m → Q (get_or held k (pos 0)))
      → P i z → P (i + c) w
  unfolding all
  fold_block z w e q p =
      subst (P (i + c)) (sym (e ∙ fold_ext g z _ _ m held_at ∙ ap (folded g z (λ k. get_or all k (pos 0))) many))
      (fold_gathered (here_from marks i) (here-from-bits marks i) number g z Q (λ j. P (i + j))
      (λ j x t r s. subst (λ (y : ℕ). P y (g (number j) x)) (sym (one_on j))
      (in-it (i + j) x (here-marked marks (i + j) t) r s))
      (λ j x t s. subst (λ (y : ℕ). P y x) (sym (one_on j)) (left_out (i + j) x (λ o. t (there j o)) s))
      (subst (λ (y : ℕ). P y z) (sym (add-zero i)) p)
      c (λ k r. let s = subst (λ (y : ℕ). k < y) (sym many) r in subst Q (held_at k s) (q k s)))
    where
      there : (j : ℕ) → mark_of marks (i + j) ≡ 1 → here marks (i + j) ≡ 1
      there j o = eqb-true _ _ (here-one marks (i + j) ∙ eq-eqb _ _ o)

-- a chunk of the first n points of a field
pub fold_chunk : (numbers : List ℤ) (marks : List ℕ) (n : ℕ) (block : List ℤ) (b before next : ℕ)
    → Chunk (take n numbers) block b before next → n ≤ length numbers
    → (m : ℕ) (held : List ℤ) → Gathered block marks (b * 256) m held → m ≤ length held
    → (g : ℤ → ℤ → ℤ) (Q : ℤ → Type 0) (P : ℕ → ℤ → Type 0)
    → ((k : ℕ) (w : ℤ) → mark_of marks k ≡ 1 → Q (get_or numbers k (pos 0)) → P k w → P (k + 1) (g (get_or numbers k (pos 0)) w))
    → ((k : ℕ) (w : ℤ) → (mark_of marks k ≡ 1 → ⊥) → P k w → P (k + 1) w)
    → (z w : ℤ) → w ≡ folded g z (λ k. get_or (take m held) k (pos 0)) (length (take m held))
    → ((k : ℕ) → k < length (take m held) → Q (get_or (take m held) k (pos 0)))
    → P (min (before * 256) (length (take n numbers))) z → P (min (next * 256) (length (take n numbers))) w
fold_chunk numbers marks n block b before next t l m held h r g Q P i o z w e q p =
    let k : length (take n numbers) ≡ n = length-take-le n numbers l in
    let s : b * 256 + length block ≤ n = omega (arith, t.inside) in
    let d : b * 256 + (n - b * 256) ≡ n = omega arith in
    let u : take n numbers ≡ take (b * 256 + (n - b * 256)) numbers = ap (λ (x : ℕ). take x numbers) (sym d) in
    let here : block ≡ take (length block) (drop (b * 256) numbers) =
    t.here ∙ ap (λ (x : List ℤ). take (length block) (drop (b * 256) x)) u
    ∙ ap (take (length block)) (drop-take (b * 256) (n - b * 256) numbers)
    ∙ take-take (length block) (n - b * 256) (drop (b * 256) numbers) (omega arith) in
    let c : length (take m held) ≡ m = length-take-le m held r in
    subst (λ (x : ℕ). P x w) (sym t.after)
    (fold_block numbers marks (b * 256) (length block) (omega arith) m held
    (subst (λ (x : List ℤ). Gathered x marks (b * 256) m held) here h) g Q P i o z w
    (e ∙ ap (folded g z (λ j. get_or (take m held) j (pos 0))) c
    ∙ fold_ext g z _ _ m (λ j a. get_or-take m held j (pos 0) a))
    (λ j a. subst Q (get_or-take m held j (pos 0) a) (q j (omega arith)))
    (subst (λ (x : ℕ). P x z) t.before p))
