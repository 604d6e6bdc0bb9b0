-- The tests of refusal 18, as code makes them: those of the lengths first, then of all marks, and of the numbers at
-- present points.
use mathlib.Core.Path.{◌≡◌, refl, sym, ap, ap₂, ◌∙◌, subst}
use mathlib.Core.Bool.{Bool, true, false, not, ◌||◌, ◌&&◌}
use mathlib.Core.List.{List}
use Prim.Native.Nat.{ℕ, min, ◌+◌, ◌*◌, ◌^◌, ◌<◌, ◌≤◌}
use borrow.Author.Tests.{eqb-true, eq-eqb, ne_eqb, not-false, not-true}
use lib.Dec.{ltb, eqb}
use lib.IntN.{ℤ, pos}
use lib.Signed.{mag}
use lib.ListN.{length, take, get_or}
use lib.Seq.{length-take-le, get_or-take}
use mir.Syntax.{w32}
use mir.Val.{to_z, of_z}
use mir.Facts.{to_z-of_z}
use Rattle.bits.specs.Tables.{any_below}
use Rattle.bits.proofs.Below.{any_next, any_ext, none_below, no-below}
use Rattle.bits.proofs.Tests.{or_false}
use Rattle.rules.specs.Bitmap.{mark_of, marks_long, mark_odd}
use Rattle.rules.specs.Bounds.{points_most, source_most}
use Rattle.rules.specs.Numbers.{not_within, beyond}
use Rattle.rules.specs.Table.{any_of, or_all}
use Rattle.rules.specs.Checking.{source_faults, any_present}
use Rattle.gathering.proofs.Chunks.{Chunk}
use Rattle.laws.proofs.Rows.{inside}
use Rattle.marks.specs.Marks.{the_all_present}
use Rattle.source.specs.Present.{far}
use Rattle.source.proofs.Blocks.{Gathered, any_block, part, any_part, any_more}

-- each of n points is present
pub present-all : (marks : List ℕ) (n : ℕ) → the_all_present marks n ≡ true → (i : ℕ) → i < n → mark_of marks i ≡ 1
unfolding the_all_present
present-all marks n h i l = eqb-true _ _ (not-false _ (none_below _ n (not-true _ h) i l))

number_read : (numbers : List ℤ) (i : ℕ) → mag (get_or numbers i (pos 0)) < 2 ^ 31
    → to_z w32 (of_z w32 (get_or numbers i (pos 0))) ≡ get_or numbers i (pos 0)
number_read numbers i f = to_z-of_z {w = w32} {z = get_or numbers i (pos 0)} (record { sfits = f })

-- a turn of the loop over numbers, and of that over blocks of points
pub large-next : (numbers : List ℤ) (i : ℕ) → mag (get_or numbers i (pos 0)) < 2 ^ 31 → (l b : Bool)
    → l ≡ any_below (λ k. beyond source_most (get_or numbers k (pos 0))) i
    → b ≡ beyond source_most (to_z w32 (of_z w32 (get_or numbers i (pos 0))))
    → l || b ≡ any_below (λ k. beyond source_most (get_or numbers k (pos 0))) (i + 1)
large-next numbers i f l b h e = any_next _ i l b h (e ∙ ap (beyond source_most) (number_read numbers i f))

module _ (numbers : List ℤ) (marks : List ℕ) where
  pub far-more : (i c : ℕ) (l : i + c ≤ length numbers) (m : ℕ) (held : List ℤ)
      → Gathered (part numbers i c l) marks i m held
      → (x y : Bool) → x ≡ any_below (far numbers marks) i
      → y ≡ any_below (λ k. beyond source_most (get_or held k (pos 0))) m → x || y ≡ any_below (far numbers marks) (i + c)
  far-more i c l m held h x y ex ey =
      ap₂ (λ (a b : Bool). a || b) ex
      (ey ∙ any_block _ marks i m held h (λ _. beyond source_most)
      ∙ any_part numbers i c l (λ j v. eqb (mark_of marks (i + j)) 1 && beyond source_most v))
      ∙ any_more (far numbers marks) i c

  front : (held : List ℤ) (m : ℕ) → m ≤ length held
      → any_below (λ k. beyond source_most (get_or (take m held) k (pos 0))) (length (take m held))
      ≡ any_below (λ k. beyond source_most (get_or held k (pos 0))) m
  front held m l =
      ap (any_below (λ k. beyond source_most (get_or (take m held) k (pos 0)))) (length-take-le m held l)
      ∙ any_ext _ _ m (λ k h. ap (beyond source_most) (get_or-take m held k (pos 0) h))

  pub far-chunk : (block : List ℤ) (b count next : ℕ) → Chunk numbers block b count next → (m : ℕ) (held : List ℤ)
      → Gathered block marks (b * 256) m held
      → (x y : Bool) → x ≡ any_below (far numbers marks) (min (count * 256) (length numbers))
      → m ≤ length held → y ≡ any_below (λ k. beyond source_most (get_or (take m held) k (pos 0))) (length (take m held))
      → x || y ≡ any_below (far numbers marks) (min (next * 256) (length numbers))
  far-chunk block b count next h m held g x y ex l ey =
      far-more (b * 256) (length block) h.inside m held (subst (λ (z : List ℤ). Gathered z marks (b * 256) m held) h.here g) x y
      (ex ∙ ap (any_below (far numbers marks)) h.before) (ey ∙ front held m l)
      ∙ ap (any_below (far numbers marks)) (sym h.after)

  abbrev pub sizes : Bool
  sizes = not (eqb (marks_long (length numbers)) (length marks)) || not_within 1 points_most (length numbers)

  -- as code tests them: how many numbers, and then how many marks
  pub few : not_within 1 points_most (length numbers) ≡ false → length numbers ≤ points_most
  few h = (inside 1 points_most (length numbers) h).1

  module _ (l : ℕ) (e : l ≡ marks_long (length numbers)) where
    pub sized : length marks ≡ l → not_within 1 points_most (length numbers) ≡ false → sizes ≡ false
    sized m h = rw (eq-eqb (marks_long (length numbers)) (length marks) (sym (m ∙ e)), h)

    pub unlike-long : (length marks ≡ l → ⊥) → (d : ℤ)
        → true ≡ any_of (source_faults (record { numbers = numbers; marks = marks; d = d }))
    unfolding any_of or_all source_faults
    unlike-long m d = rw (ne_eqb (marks_long (length numbers)) (length marks) (λ q. m (sym (e ∙ q))))

  pub same : sizes ≡ false → marks_long (length numbers) ≡ length marks
  same h = eqb-true _ _ (not-false _ (or_false _ _ h).0)

  or-true : (x : Bool) → x || true ≡ true
  or-true true = refl
  or-true false = refl

  pub many : not_within 1 points_most (length numbers) ≡ true → (d : ℤ)
      → true ≡ any_of (source_faults (record { numbers = numbers; marks = marks; d = d }))
  unfolding any_of or_all source_faults
  many h d = rw (h, or-true (not (eqb (marks_long (length numbers)) (length marks))))

  module _ (h : sizes ≡ false) where
    judged : (o f : Bool) → o ≡ mark_odd marks (length numbers) → f ≡ any_below (far numbers marks) (length numbers)
        → (d : ℤ) → o || f ≡ any_of (source_faults (record { numbers = numbers; marks = marks; d = d }))
    unfolding any_of or_all source_faults any_present
    judged o f p q d = rw (h, ← p, ← q)

    pub late : (n : ℕ) → n ≡ length numbers → (o f : Bool) → o ≡ mark_odd marks n
        → f ≡ any_below (far numbers marks) (length numbers)
        → (d : ℤ) → o || f ≡ any_of (source_faults (record { numbers = numbers; marks = marks; d = d }))
    late n e o f p q d = judged o f (p ∙ ap (mark_odd marks) e) q d

    -- where every point is present
    pub late-all : (n : ℕ) → n ≡ length numbers → the_all_present marks n ≡ true → (f : Bool)
        → f ≡ any_below (λ i. beyond source_most (get_or numbers i (pos 0))) (length numbers)
        → (d : ℤ) → f ≡ any_of (source_faults (record { numbers = numbers; marks = marks; d = d }))
    late-all n e a f q d =
        let one = present-all marks (length numbers) (ap (the_all_present marks) (sym e) ∙ a) in
        judged false f (sym (no-below _ (length numbers) (λ i l. ap (ltb 1) (one i l))))
        (q ∙ any_ext _ _ (length numbers)
        (λ i l. sym (ap (λ (x : ℕ). eqb x 1 && beyond source_most (get_or numbers i (pos 0))) (one i l)))) d
