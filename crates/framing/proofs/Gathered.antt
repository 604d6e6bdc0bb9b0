-- The values at present points where every point is present.
use mathlib.Core.Path.{◌≡◌, refl, sym, ap, ◌∙◌}
use Prim.Native.Nat.{ℕ, zero, suc, ◌+◌, ◌<◌}
use mathlib.Core.List.{List, [], ◌∷◌, ◌++◌}
use native.Mathlib.Omega.{arith}
use borrow.Author.Tests.{eq-eqb}
use Rattle.bits.specs.Bits.{count}
use Rattle.bits.specs.Tables.{tab}
use Rattle.bits.proofs.Runs.{Bits}
use Rattle.bits.proofs.Ones.{count-le}
use Rattle.rules.specs.Points.{gathered}

module _ (f : ℕ → ℕ) (b : Bits f) (v : ℕ → ℕ) where
  -- with every point present, the values are all of them
  pub gathered-all : (m : ℕ) → count f 0 m ≡ m → gathered f v m ≡ tab v m
  unfolding gathered count tab
  gathered-all zero e = refl
  gathered-all (suc m) e =
      let l = count-le b 0 m in
      let p : f (0 + m) < 2 = b (0 + m) in
      let h : f (0 + m) ≡ 1 = omega arith in
      let z : 0 + m ≡ m = omega arith in
      rw (eq-eqb (f m) 1 (ap f (sym z) ∙ h)) (ap (λ (x : List ℕ). x ++ (v m ∷ [])) (gathered-all m (omega arith)))
