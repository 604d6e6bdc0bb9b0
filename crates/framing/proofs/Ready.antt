-- All that laying down a message leans on, from what the rows but 14 leave.
use Rattle.std.specs.Prelude.{None, Option, Some, Ok}
use mathlib.Core.Path.{◌≡◌, refl, sym, ap, ◌∙◌, subst}
use mathlib.Core.Bool.{false}
use mathlib.Core.List.{List}
use Prim.Native.Nat.{ℕ, ◌≤◌}
use lib.ListN.{length}
use Rattle.rules.specs.Bounds.{points_most, the_bits_most}
use Rattle.rules.specs.declared.{Grid.Grid}
use Rattle.rules.specs.declared.{Form.Form, Scale.Scale}
use Rattle.rules.specs.Table.{any_of}
use Rattle.rules.specs.Answers.{judged}
use Rattle.rules.specs.Grid.{the_grid_from, grid_or_zeros, grid_faults, points_of}
use Rattle.rules.specs.Bitmap.{Lent}
use Rattle.writable.specs.Rows.{own_rows}
use Rattle.writable.specs.Listed.{Listed}
use Rattle.writable.proofs.Accepted.{scale_ok, accepted-of, listed_of}
use Rattle.framing.specs.Framing.{the_given_bad, unsound}
use Rattle.framing.proofs.Framed.{sound-is}

-- the grid that is given is the one judged
pub given_good : (f : Option Grid) (pds : List ℕ) → any_of (grid_faults (grid_or_zeros (the_grid_from f pds 0))) ≡ false
    → the_given_bad f ≡ false
unfolding the_grid_from
given_good None pds e = refl
given_good (Some g) pds e = e

-- all that laying down a message leans on
pub record Ready (pds : List ℕ) (form : Form) (scale : Scale) (values marks : List ℕ) (n : ℕ) : Type 0 where
  pub sound : unsound pds form scale n ≡ false
  pub bits : form.packing.bits ≤ the_bits_most
  pub long : length values ≡ n
  pub listed : Listed values marks form.packing.bits

pub ready_of : (pds : List ℕ) (form : Form) (scale : Scale) (lent : Lent) (values marks : List ℕ) (found : Option Grid)
    → found ≡ the_grid_from form.grid pds 0
    → (g : Grid) → g ≡ grid_or_zeros found → (n : ℕ) → n ≡ points_of g → (u : Unit {0})
    → Ok u ≡ judged (own_rows pds form scale lent values marks found n)
    → Ready pds form scale values marks n
ready_of pds form scale lent values marks found ef g eg n en u e =
    let a = accepted-of pds form scale lent values marks found n u e in
    let m : n ≤ points_most = subst (λ (x : ℕ). x ≤ points_most) (sym (en ∙ ap points_of eg)) a.points-most in
    record {
      sound = sound-is pds form scale marks n a.pds-most m
          (given_good form.grid pds (subst (λ (x : Option Grid). any_of (grid_faults (grid_or_zeros x)) ≡ false) ef a.grid))
          a.scaled;
      bits = (scale_ok scale form.packing a.scaled).bits;
      long = a.values-long;
      listed = listed_of values marks form.packing.bits n a.values-long a.marks-long m a.point;
    }
