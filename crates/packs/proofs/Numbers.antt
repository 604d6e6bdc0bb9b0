-- What `put_number` answers and leaves, from the tests that the code makes: few octets, room, and the number's size.
use mathlib.Core.Path.{◌≡◌, sym, ap, ap₂, ◌∙◌}
use mathlib.Core.Bool.{Bool, true, false, cond, ◌&&◌}
use mathlib.Core.List.{List}
use Prim.Native.Nat.{ℕ, ◌+◌, ◌-◌, ◌*◌, ◌^◌}
use lib.Dec.{leb, ltb}
use lib.ListN.{length}
use Rattle.bits.specs.Bits.{number_at}
use Rattle.packs.specs.Place.{number_fits, number_put}

module _ (out : List ℕ) (p k c x j : ℕ) (a b : Bool) (o : j ≡ k - 1) (r : a ≡ leb (p + (j + c)) (length out))
    (s : b ≡ ltb x (2 ^ (c * 8))) where
  judged : leb c 4 && a && b ≡ number_fits out p k c x
  unfolding number_fits
  judged = ap₂ (λ (y z : Bool). leb c 4 && y && z) (r ∙ ap (λ (y : ℕ). leb (p + (y + c)) (length out)) o) s

  module _ (h : leb c 4 && a && b ≡ true) where
    pub fit-answer : true ≡ number_fits out p k c x
    fit-answer = sym h ∙ judged

    pub fit-left : number_at out (p + j) c x ≡ number_put out p k c x
    unfolding number_put
    fit-left =
        ap (λ (y : ℕ). number_at out (p + y) c x) o
        ∙ ap (λ (y : Bool). cond y (number_at out (p + (k - 1)) c x) out) fit-answer

  module _ (h : leb c 4 && a && b ≡ false) where
    pub unfit-answer : false ≡ number_fits out p k c x
    unfit-answer = sym h ∙ judged

    pub unfit-left : out ≡ number_put out p k c x
    unfolding number_put
    unfit-left = ap (λ (y : Bool). cond y (number_at out (p + (k - 1)) c x) out) unfit-answer
