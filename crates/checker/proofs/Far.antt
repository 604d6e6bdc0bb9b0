-- The points out: a turn of the loop over numbers and X, the X as bits of the message, a block of points, and a turn of
-- the loop over blocks.
use mathlib.Core.Path.{◌≡◌, sym, ap, ap₂, ◌∙◌, subst}
use mathlib.Core.Bool.{Bool, ◌||◌, ◌&&◌, cond}
use mathlib.Core.List.{List}
use Prim.Native.Nat.{ℕ, min, ◌+◌, ◌*◌, ◌^◌, ◌<◌, ◌≤◌}
use native.Mathlib.Nat.{add-mul, zero-add, zero-mul, mul-le-mul}
use native.Mathlib.Omega.{arith}
use borrow.Author.Tests.{eq-eqb}
use lib.Dec.{eqb}
use lib.IntN.{ℤ, pos}
use lib.Signed.{mag}
use lib.ListN.{length, get_or, drop, get_or-append}
use mir.Syntax.{w32}
use mir.Val.{to_z, of_z}
use mir.Facts.{to_z-of_z}
use Rattle.bits.specs.Bits.{bits_in, run, runs, count}
use Rattle.bits.specs.Tables.{any_below}
use Rattle.bits.proofs.Trip.{length_runs, get_or-runs}
use Rattle.bits.proofs.Ones.{count_ones, count-le}
use Rattle.bits.proofs.Below.{any_next, any_ext}
use Rattle.runs.specs.Take.{unpacked}
use Rattle.runs.proofs.Lists.{unpacked-fits}
use Rattle.bitreader.specs.Taken.{reached}
use Rattle.bitreader.proofs.Places.{reached-sum}
use Rattle.rules.specs.Bounds.{points_most, the_bits_most}
use Rattle.rules.specs.Bitmap.{mark_of}
use Rattle.rules.specs.Checking.{far_from}
use Rattle.laws.specs.Marks.{here}
use Rattle.gathering.specs.Gather.{here_from}
use Rattle.gathering.proofs.Chunks.{Chunk}
use Rattle.gathering.proofs.Here.{here-bits, here-is}
use Rattle.source.proofs.Blocks.{Gathered, any_block, part, part-long, any_part, any_more, count-from}
use Rattle.checker.specs.Points.{out, the_block_far}

pub few-next : (numbers : List ℤ) (held : List ℕ) (r : ℤ) (e j : ℕ) → mag (get_or numbers j (pos 0)) < 2 ^ 31
    → (x z : Bool)
    → x ≡ any_below (λ k. far_from (get_or numbers k (pos 0)) r (get_or held k 0) e) j
    → z ≡ far_from (to_z w32 (of_z w32 (get_or numbers j (pos 0)))) r (get_or held j 0) e
    → x || z ≡ any_below (λ k. far_from (get_or numbers k (pos 0)) r (get_or held k 0) e) (j + 1)
few-next numbers held r e j f x z h q =
    any_next _ j x z h (q ∙ ap (λ (v : ℤ). far_from v r (get_or held j 0) e) (to_z-of_z {w = w32} {z = get_or numbers j (pos 0)} (record { sfits = f })))

-- the X held are those of the data
held-is : (s held d : List ℕ) (at n c : ℕ) → n ≤ the_bits_most → c ≤ length d → held ≡ unpacked s at n c d → (j : ℕ) → j < c
    → get_or held j 0 ≡ run (bits_in 8 s) (at + j * n) n
held-is s held d at n c l h e j k =
    let R = runs (bits_in 8 s) at n c in
    ap (λ (x : List ℕ). get_or x j 0) (e ∙ unpacked-fits s d at n c l h)
    ∙ get_or-append R (drop c d) 0 j (subst (λ (x : ℕ). j < x) (sym (length_runs (bits_in 8 s) at n c)) k)
    ∙ get_or-runs (bits_in 8 s) at n c j k

pub far-held : (s : List ℕ) (numbers : List ℤ) (held d : List ℕ) (at n c : ℕ) (r rv : ℤ) (e : ℕ) → rv ≡ r → n ≤ the_bits_most
    → c ≤ length d → held ≡ unpacked s at n c d
    → (q : Bool) → q ≡ any_below (λ j. far_from (get_or numbers j (pos 0)) rv (get_or held j 0) e) c
    → q ≡ any_below (λ j. far_from (get_or numbers j (pos 0)) r (run (bits_in 8 s) (at + j * n) n) e) c
far-held s numbers held d at n c r rv e er l h u q p =
    p
    ∙ any_ext _ _ c
    (λ j k. ap₂ (λ (v : ℤ) (x : ℕ). far_from (get_or numbers j (pos 0)) v x e) er (held-is s held d at n c l h u j k))

-- a block of points, each of them present
pub count-all : (marks : List ℕ) (i c : ℕ) → ((j : ℕ) → j < c → mark_of marks (i + j) ≡ 1)
    → c ≡ count (here_from marks i) 0 c
count-all marks i c h =
    count_ones (here_from marks i) 0 c
    (λ j l. ap (here_from marks i) (zero-add j)
    ∙ sym (here-is marks (i + j) 1 (sym (ap (λ (t : Bool). cond t 1 0) (eq-eqb _ _ (h j l))))))

-- the points of a block that are out, where each is present, and where some are
module _ (s : List ℕ) (numbers : List ℤ) (marks : List ℕ) (i at n : ℕ) (r rv : ℤ) (er : rv ≡ r) (e : ℕ) where
  abbrev outs : Bool
  outs = any_below (the_block_far s numbers marks i at n r e) (length numbers)

  pub all-out : ((j : ℕ) → j < length numbers → mark_of marks (i + j) ≡ 1)
      → (q : Bool)
      → q ≡ any_below (λ j. far_from (get_or numbers j (pos 0)) rv (run (bits_in 8 s) (at + j * n) n) e) (length numbers)
      → q ≡ outs
  unfolding the_block_far
  all-out h q p = p ∙ any_ext _ _ (length numbers) (λ j l.
      ap₂ (λ (v : ℤ) (x : ℕ). far_from (get_or numbers j (pos 0)) v (run (bits_in 8 s) (at + x * n) n) e) er
      (count-all marks i j (λ k g. h k (omega arith)))
      ∙ sym (ap
      (λ (t : Bool). t
      && far_from (get_or numbers j (pos 0)) r (run (bits_in 8 s) (at + count (here_from marks i) 0 j * n) n) e)
      (eq-eqb _ _ (h j l))))

  pub some_out : (m : ℕ) (chosen : List ℤ) → Gathered numbers marks i m chosen
      → (q : Bool) → q ≡ any_below (λ j. far_from (get_or chosen j (pos 0)) rv (run (bits_in 8 s) (at + j * n) n) e) m
      → q ≡ outs
  unfolding the_block_far
  some_out m chosen h q p =
      p ∙ ap (λ (v : ℤ). any_below (λ j. far_from (get_or chosen j (pos 0)) v (run (bits_in 8 s) (at + j * n) n) e) m) er
      ∙ any_block numbers marks i m chosen h (λ j x. far_from x r (run (bits_in 8 s) (at + j * n) n) e)

-- the place of the next X: of no points, and a block further on
pub place-first : (marks : List ℕ) (from n : ℕ) → from ≡ from + count (here marks) 0 0 * n
unfolding count
place-first marks from n = omega (arith, zero-mul n)

-- its bits are no more than those of a whole field
most-bits : (m n : ℕ) → m ≤ points_most → n ≤ the_bits_most → m * n ≤ points_most * the_bits_most
most-bits m n h w = mul-le-mul {n₂ = points_most} {m₂ = the_bits_most} h w

pub place-next : (numbers : List ℤ) (marks : List ℕ) (from n i c : ℕ) (l : i + c ≤ length numbers) (p q : ℕ)
    → p ≡ from + count (here marks) 0 i * n
    → q ≡ reached p (count (here_from marks i) 0 (length (part numbers i c l)) * n)
    → from < 2 ^ 31 → length numbers ≤ points_most → n ≤ the_bits_most → q ≡ from + count (here marks) 0 (i + c) * n
place-next numbers marks from n i c l p q h k a b w =
    let passed = count (here marks) 0 i in
    let m = count (here_from marks i) 0 c in
    let t : (passed + m) * n ≡ count (here marks) 0 (i + c) * n = ap (λ (x : ℕ). x * n) (count-from marks i c) in
    let few = most-bits (count (here marks) 0 (i + c)) n (omega (arith, count-le (here-bits marks) 0 (i + c))) w in
    k ∙ ap (λ (x : ℕ). reached p (count (here_from marks i) 0 x * n)) (part-long numbers i c l)
    ∙ reached-sum p (m * n) (omega (arith, add-mul passed m n))
    ∙ omega (arith, add-mul passed m n)

pub place-chunk : (numbers : List ℤ) (marks : List ℕ) (from n : ℕ) (block : List ℤ) (b before next : ℕ)
    → Chunk numbers block b before next → (p q : ℕ)
    → p ≡ from + count (here marks) 0 (min (before * 256) (length numbers)) * n
    → q ≡ reached p (count (here_from marks (b * 256)) 0 (length block) * n)
    → from < 2 ^ 31 → length numbers ≤ points_most → n ≤ the_bits_most
    → q ≡ from + count (here marks) 0 (min (next * 256) (length numbers)) * n
place-chunk numbers marks from n block b before next t p q h k f a w =
    place-next numbers marks from n (b * 256) (length block) t.inside p q
    (h ∙ ap (λ (x : ℕ). from + count (here marks) 0 x * n) t.before)
    (subst (λ (z : List ℤ). q ≡ reached p (count (here_from marks (b * 256)) 0 (length z) * n)) t.here k) f a w
    ∙ ap (λ (x : ℕ). from + count (here marks) 0 x * n) (sym t.after)

module _ (s : List ℕ) (numbers : List ℤ) (marks : List ℕ) (from n : ℕ) (r : ℤ) (e i c : ℕ) (l : i + c ≤ length numbers)
    (p : ℕ) (h : p ≡ from + count (here marks) 0 i * n) where
  pub far-more : (x y : Bool) → x ≡ any_below (out s numbers marks from n r e) i
      → y ≡ any_below (the_block_far s (part numbers i c l) marks i p n r e) (length (part numbers i c l))
      → x || y ≡ any_below (out s numbers marks from n r e) (i + c)
  unfolding out the_block_far
  far-more x y ex ey =
      ap₂ (λ (a b : Bool). a || b) ex
      (ey ∙ any_part numbers i c l
      (λ j v. eqb (mark_of marks (i + j)) 1
      && far_from v r (run (bits_in 8 s) (p + count (here_from marks i) 0 j * n) n) e)
      ∙ any_ext _ _ c
      (λ j _. ap
      (λ (o : ℕ). eqb (mark_of marks (i + j)) 1 && far_from (get_or numbers (i + j) (pos 0)) r (run (bits_in 8 s) o n) e)
      (place j)))
      ∙ any_more (out s numbers marks from n r e) i c
    where
      place : (j : ℕ) → p + count (here_from marks i) 0 j * n ≡ from + count (here marks) 0 (i + j) * n
      place j = omega (
        arith,
        add-mul (count (here marks) 0 i) (count (here_from marks i) 0 j) n,
        ap (λ (x : ℕ). x * n) (count-from marks i j),
      )

pub far-chunk : (s : List ℕ) (numbers : List ℤ) (marks : List ℕ) (from n : ℕ) (r : ℤ) (e : ℕ) (block : List ℤ) (b before next : ℕ)
    → Chunk numbers block b before next
    → (p : ℕ) → p ≡ from + count (here marks) 0 (min (before * 256) (length numbers)) * n
    → (x y : Bool) → x ≡ any_below (out s numbers marks from n r e) (min (before * 256) (length numbers))
    → y ≡ any_below (the_block_far s block marks (b * 256) p n r e) (length block)
    → x || y ≡ any_below (out s numbers marks from n r e) (min (next * 256) (length numbers))
far-chunk s numbers marks from n r e block b before next t p h x y ex ey =
    far-more s numbers marks from n r e (b * 256) (length block) t.inside p
    (h ∙ ap (λ (z : ℕ). from + count (here marks) 0 z * n) t.before) x y
    (ex ∙ ap (any_below (out s numbers marks from n r e)) t.before)
    (subst (λ (z : List ℤ). y ≡ any_below (the_block_far s z marks (b * 256) p n r e) (length z)) t.here ey)
    ∙ ap (any_below (out s numbers marks from n r e)) (sym t.after)
