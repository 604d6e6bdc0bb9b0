-- What many numbers answer, from the one test that `unpack` makes.
use mathlib.Core.Path.{◌≡◌, refl, sym, ◌∙◌}
use mathlib.Core.Bool.{Bool, true, false}
use Rattle.std.specs.Prelude.{Some, None}
use Prim.Native.Nat.{ℕ, ◌*◌}
use Rattle.runs.specs.Take.{unpack_fits}
use Rattle.bitreader.specs.Taken.{reached, taken_all}

module _ (at n m room : ℕ) (t : Bool) (e : t ≡ unpack_fits n m room) where
  pub all-taken : t ≡ true → (p : ℕ) → p ≡ reached at (m * n) → Some p ≡ taken_all at n m room
  unfolding taken_all
  all-taken h p r = rw (sym e ∙ h, r) refl

  pub none-taken : t ≡ false → None ≡ taken_all at n m room
  unfolding taken_all
  none-taken h = rw (sym e ∙ h) refl
