-- What `put_bits` answers and leaves, from the tests that the code makes.
use mathlib.Core.Path.{◌≡◌, sym, ap, ◌∙◌}
use mathlib.Core.Bool.{Bool, true, false, cond, ◌&&◌}
use mathlib.Core.List.{List}
use Prim.Native.Nat.{ℕ, ◌+◌, ◌^◌, ◌≤◌, ◌<◌}
use borrow.Author.Tests.{leb-true, ltb-true}
use lib.Dec.{leb, ltb}
use lib.ListN.{length}
use Rattle.bits.specs.Bits.{octets_for, put_at}
use Rattle.bits.proofs.Tests.{and_left, and_right}
use Rattle.packs.specs.Place.{bits_fit, the_put_bits}

module _ (out : List ℕ) (at n v : ℕ) (b : Bool) (s : b ≡ ltb v (2 ^ n)) where
  abbrev Judged : Bool
  Judged = leb n 32 && b && leb (octets_for (at + n)) (length out)

  judged : Judged ≡ bits_fit (length out) at n v
  unfolding bits_fit
  judged = ap (λ (y : Bool). leb n 32 && y && leb (octets_for (at + n)) (length out)) s

  module _ (h : Judged ≡ true) where
    pub bits-width : n ≤ 32
    bits-width =
        leb-true n 32 (and_left (leb n 32) b (and_left (leb n 32 && b) (leb (octets_for (at + n)) (length out)) h))

    pub bits_small : v < 2 ^ n
    bits_small =
        ltb-true v (2 ^ n)
        (sym s ∙ and_right (leb n 32) b (and_left (leb n 32 && b) (leb (octets_for (at + n)) (length out)) h))

    pub bits-answer : true ≡ bits_fit (length out) at n v
    bits-answer = sym h ∙ judged

    pub bits_left : put_at out at n v ≡ the_put_bits out at n v
    unfolding the_put_bits
    bits_left = ap (λ (y : Bool). cond y (put_at out at n v) out) bits-answer

  module _ (h : Judged ≡ false) where
    pub no-bits-answer : false ≡ bits_fit (length out) at n v
    no-bits-answer = sym h ∙ judged

    pub no-bits-left : out ≡ the_put_bits out at n v
    unfolding the_put_bits
    no-bits-left = ap (λ (y : Bool). cond y (put_at out at n v) out) no-bits-answer
