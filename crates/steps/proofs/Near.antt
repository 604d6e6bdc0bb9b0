-- X of a number of 32 bits, and X stored one after another.
use mathlib.Core.Path.{◌≡◌, refl, sym, ap, ap₂, ◌∙◌}
use mathlib.Core.Bool.{Bool, cond}
use mathlib.Core.List.{List, ◌++◌}
use Prim.Native.Nat.{ℕ, zero, suc, ◌+◌, ◌*◌, ◌^◌, ◌≤◌, ◌<◌}
use native.Mathlib.Nat.{div-eq_of_lt, lt_of_lt_of_le, pow-suc}
use native.Mathlib.Omega.{arith}
use borrow.Author.Tests.{le-leb, lt-leb}
use lib.Pow.{pow_mono}
use lib.IntN.{ℤ, pos, nat_abs, ◌-ℤ◌}
use lib.ListN.{length, get_or, set, take, drop, length-drop}
use lib.Seq.{take_at, get_or-take, get_or-drop, length-take-le}
use Rattle.bits.specs.Tables.{tab}
use Rattle.bits.proofs.Fill.{length-tab, tab_ext, fill}
use Rattle.rules.specs.Packing.{stepped}
use Rattle.steps.specs.Steps.{step_of, steps_to, steps_into}

pub far-on : (e a : ℕ) → 32 < e → a < 2 ^ 32 → 0 ≡ stepped e a
unfolding stepped
far-on zero a h l = absurd (omega arith)
far-on (suc e) a h l =
    let m : 2 ^ 32 ≤ 2 ^ e = pow_mono {i = 32} {j = e} (omega arith) in
    let d : 2 ^ suc e ≡ 2 ^ e * 2 = pow-suc 2 e in
    sym (div-eq_of_lt (omega (arith, lt_of_lt_of_le l m)))

module _ (numbers : List ℤ) (r : ℤ) (e : ℕ) (first : List ℕ) where
  pub none : first ≡ steps_to numbers r e 0 first
  unfolding tab
  none = refl

  -- a turn stores one more
  pub stored_more : (i : ℕ) (xs : List ℕ) → i < length first → xs ≡ steps_to numbers r e i first
      → (a x : ℕ) → a ≡ nat_abs (get_or numbers i (pos 0) -ℤ r) → x ≡ stepped e a
      → set xs i x ≡ steps_to numbers r e (i + 1) first
  unfolding step_of
  stored_more i xs h k a x ea ex =
      ap₂ (λ (l : List ℕ) (y : ℕ). set l i y) k (ex ∙ ap (stepped e) ea) ∙ fill (step_of numbers r e) i first h

  pub with-room : length numbers ≤ length first → (xs : List ℕ) → xs ≡ steps_to numbers r e (length numbers) first
      → xs ≡ steps_into numbers r e first
  unfolding steps_into
  with-room h xs k =
      k
      ∙ sym (ap (λ (t : Bool). cond t (steps_to numbers r e (length numbers) first) first)
      (le-leb (length numbers) (length first) h))

  pub without-room : length first < length numbers → first ≡ steps_into numbers r e first
  unfolding steps_into
  without-room h =
      sym (ap (λ (t : Bool). cond t (steps_to numbers r e (length numbers) first) first)
      (lt-leb (length numbers) (length first) h))

-- X of the m numbers from number i on
module _ (numbers : List ℤ) (r : ℤ) (e i m k : ℕ) (first xs : List ℕ) (ek : k ≡ m) (there : i + m ≤ length numbers)
    (room : m ≤ length first) (is : xs ≡ steps_into (take k (drop i numbers)) r e first) where
  part : List ℤ
  part = take k (drop i numbers)

  part-long : length part ≡ m
  unfolding part
  part-long = length-take-le k (drop i numbers) (omega (arith, length-drop i numbers)) ∙ ek

  part_step : (j : ℕ) → j < m → step_of part r e j ≡ step_of numbers r e (i + j)
  unfolding step_of part
  part_step j h =
      ap (λ (x : ℤ). stepped e (nat_abs (x -ℤ r)))
      (get_or-take k (drop i numbers) j (pos 0) (omega arith) ∙ get_or-drop i numbers j (pos 0))

  part-is : xs ≡ tab (λ j. step_of numbers r e (i + j)) m ++ drop m first
  unfolding steps_into part
  part-is =
      is
      ∙ ap (λ (t : Bool). cond t (steps_to part r e (length part) first) first)
      (le-leb (length part) (length first) (omega (arith, part-long)))
      ∙ ap (λ (x : ℕ). steps_to part r e x first) part-long
      ∙ ap (λ (x : List ℕ). x ++ drop m first) (tab_ext (step_of part r e) (λ j. step_of numbers r e (i + j)) m part_step)

  pub steps_part : take m xs ≡ tab (λ j. step_of numbers r e (i + j)) m
  steps_part =
      ap (take m) part-is
      ∙ take_at (tab (λ j. step_of numbers r e (i + j)) m) (drop m first) m
      (length-tab (λ j. step_of numbers r e (i + j)) m)
