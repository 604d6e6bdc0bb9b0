-- A present point's X: the n bits at its data number, by the law data_at; and 17 with it.
use mathlib.Core.Path.{◌≡◌, refl, sym, ap, ◌∙◌, subst}
use mathlib.Core.Bool.{Bool, true, false, ◌&&◌, cond}
use mathlib.Core.List.{List}
use Prim.Native.Nat.{ℕ, ◌+◌, ◌*◌, ◌<◌, ◌≤◌}
use native.Mathlib.Omega.{arith}
use borrow.Author.Tests.{eqb-true, eqb-false}
use lib.Dec.{eqb}
use lib.IntN.{nat_abs}
use lib.ListN.{length}
use Rattle.bits.specs.Bits.{bits_in, run, count}
use Rattle.bits.specs.Tables.{any_below}
use Rattle.bits.proofs.Fill.{get_or-tab}
use Rattle.bits.proofs.Below.{any_ext}
use Rattle.bits.proofs.Marks.{count_same}
use Rattle.laws.proofs.Data.{the_data_place, data_at}
use Rattle.laws.proofs.Gathered.{number_lt, value_there}
use Rattle.rules.specs.Bitmap.{Lent, mark_of, value_of}
use Rattle.rules.specs.Points.{scattered}
use Rattle.rules.specs.Values.{whole_of}
use Rattle.rules.specs.Reading.{points_in, present_in, present_count, packing_in, the_scale_in, data_in, values_in}
use Rattle.rules.specs.Checking.{Source, number_of, present_of, any_present, far_from, point_out}
use Rattle.laws.specs.Marks.{here}
use Rattle.checker.specs.Points.{out}

-- 1 or 0 by the source's mark: the mark itself, once 18 has passed
here-mark : (marks : List ℕ) (i : ℕ) → mark_of marks i ≤ 1 → here marks i ≡ mark_of marks i
unfolding here
here-mark marks i l = go (eqb (mark_of marks i) 1) refl
  where
    go : (t : Bool) → eqb (mark_of marks i) 1 ≡ t → cond t 1 0 ≡ mark_of marks i
    go true e = sym (eqb-true _ _ e)
    go false e = let z : mark_of marks i ≡ 1 → ⊥ = eqb-false _ _ e in omega (arith, z)

-- of a message whose marks are the source's
module _ (s : List ℕ) (lent : Lent) (f : Source) (points : length f.numbers ≡ points_in s) (same : (i : ℕ) → i < points_in s → present_in s lent i ≡ present_of f i)
    (marked : (i : ℕ) → i < points_in s → present_of f i ≤ 1) where
  abbrev bits : ℕ
  bits = (packing_in s).bits

  abbrev place : ℕ → ℕ
  place i = the_data_place s lent + count (here f.marks) 0 i * bits

  value-is : (i : ℕ) → i < points_in s → present_of f i ≡ 1
      → value_of (values_in s lent) i ≡ run (bits_in 8 s) (place i) bits
  unfolding values_in scattered present_count
  value-is i l t =
      let there : present_in s lent i ≡ 1 = same i l ∙ t in
      get_or-tab _ (points_in s) i 0 l
      ∙ value_there (present_in s lent) (data_in s lent) i there
      ∙ data_at s lent (count (present_in s lent) 0 i) (number_lt (present_in s lent) i (points_in s) there l)
      ∙ ap (λ (c : ℕ). run (bits_in 8 s) (the_data_place s lent + c * bits) bits)
      (count_same (present_in s lent) (here f.marks) (points_in s)
      (λ k g. same k g ∙ sym (here-mark f.marks k (marked k g))) i (omega arith))

  pub point-out : any_below
      (out s f.numbers f.marks (the_data_place s lent) bits (whole_of (the_scale_in s).r) (nat_abs (the_scale_in s).e.value))
      (length f.numbers) ≡ point_out s lent f
  unfolding point_out any_present out
  point-out =
      any_ext _ _ (length f.numbers) (λ i l. each i (subst (λ (n : ℕ). i < n) points l) (eqb (present_of f i) 1) refl)
    where
      each : (i : ℕ) → i < points_in s → (t : Bool) → eqb (present_of f i) 1 ≡ t
          → t && far_from (number_of f i) (whole_of (the_scale_in s).r) (run (bits_in 8 s) (place i) bits)
          (nat_abs (the_scale_in s).e.value)
          ≡ t && far_from (number_of f i) (whole_of (the_scale_in s).r) (value_of (values_in s lent) i)
          (nat_abs (the_scale_in s).e.value)
      each i l false e = refl
      each i l true e = ap (λ (x : ℕ). far_from (number_of f i) (whole_of (the_scale_in s).r) x (nat_abs (the_scale_in s).e.value))
          (sym (value-is i l (eqb-true _ _ e)))
