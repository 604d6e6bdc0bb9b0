-- What `pack` answers and leaves, from the tests that the code makes.
use mathlib.Core.Path.{◌≡◌, refl, sym, ap, ap₂}
use mathlib.Core.Bool.{Bool, true, false, cond, ◌&&◌}
use mathlib.Core.List.{List}
use Prim.Native.Nat.{ℕ, ◌+◌, ◌*◌, ◌^◌, ◌≤◌, ◌<◌}
use native.Mathlib.Nat.{mul-le-mul_left}
use native.Mathlib.Omega.{arith}
use borrow.Author.Tests.{leb-true, ltb-true, lt-ltb, le-leb}
use lib.Dec.{leb, ltb}
use lib.ListN.{length}
use Rattle.bits.specs.Bits.{octets_for, packed_into, Wide}
use Rattle.bits.proofs.Tests.{and_left, and_right}
use Rattle.widths.specs.Below.{all_below}
use Rattle.widths.proofs.Lists.{below-wide, wide_below}
use Rattle.packs.specs.Pack.{pack_fits, packed}

pub pack_takes : (n : ℕ) (vs : List ℕ) (room : ℕ) → n ≤ 24 → length vs < 2 ^ 32 → Wide n vs
    → octets_for (length vs * n) ≤ room → pack_fits n vs room ≡ true
unfolding pack_fits
pack_takes n vs room h l w r =
    rw (le-leb n 24 h, lt-ltb (length vs) (2 ^ 32) l, wide_below n vs w, le-leb (octets_for (length vs * n)) room r) refl

-- what the two tests of `packable` decide
module _ (n : ℕ) (vs : List ℕ) (room : ℕ) where
  module _ (h : leb n 24 && ltb (length vs) (2 ^ 32) ≡ true) where
    pub pack-few : length vs * n ≤ 2 ^ 32 * 24
    pack-few =
        let a = leb-true n 24 (and_left (leb n 24) (ltb (length vs) (2 ^ 32)) h) in
        let b = ltb-true (length vs) (2 ^ 32) (and_right (leb n 24) (ltb (length vs) (2 ^ 32)) h) in
        omega (arith, mul-le-mul_left (length vs) a)

    pub pack-judged : (b : Bool) → b ≡ all_below n vs → b && leb (octets_for (length vs * n)) room ≡ pack_fits n vs room
    unfolding pack_fits
    pack-judged b e = ap₂ (λ (x y : Bool). x && (y && leb (octets_for (length vs * n)) room)) (sym h) e

  pub pack-refused : leb n 24 && ltb (length vs) (2 ^ 32) ≡ false → false ≡ pack_fits n vs room
  unfolding pack_fits
  pack-refused h = ap (λ (x : Bool). x && (all_below n vs && leb (octets_for (length vs * n)) room)) (sym h)

  -- what is known where they fit
  module _ (h : pack_fits n vs room ≡ true) where
    both : leb n 24 && ltb (length vs) (2 ^ 32) ≡ true
    unfolding pack_fits
    both = and_left (leb n 24 && ltb (length vs) (2 ^ 32)) (all_below n vs && leb (octets_for (length vs * n)) room) h

    rest : all_below n vs && leb (octets_for (length vs * n)) room ≡ true
    unfolding pack_fits
    rest = and_right (leb n 24 && ltb (length vs) (2 ^ 32)) (all_below n vs && leb (octets_for (length vs * n)) room) h

    pub pack-width : n ≤ 24
    pack-width = leb-true n 24 (and_left (leb n 24) (ltb (length vs) (2 ^ 32)) both)

    pub pack-fits : length vs * n + 7 < 2 ^ 64
    pack-fits = omega (arith, pack-few both)

    pub pack-room : octets_for (length vs * n) ≤ room
    pack-room =
        leb-true (octets_for (length vs * n)) room
        (and_right (all_below n vs) (leb (octets_for (length vs * n)) room) rest)

    pub pack-wide : Wide n vs
    pack-wide = below-wide n vs (and_left (all_below n vs) (leb (octets_for (length vs * n)) room) rest)

module _ (n : ℕ) (vs out : List ℕ) where
  pub pack-left : (t : Bool) → t ≡ pack_fits n vs (length out) → cond t (packed_into n vs out) out ≡ packed n vs out
  unfolding packed
  pack-left t e = ap (λ (x : Bool). cond x (packed_into n vs out) out) e
