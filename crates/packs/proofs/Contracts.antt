-- The contracts together: what was put at a bit place is fetched, what was packed is unpacked, and what was unpacked is
-- packed to the octets it came from.
use mathlib.Core.Path.{◌≡◌, refl, sym, ap, ◌∙◌, subst}
use mathlib.Core.Bool.{Bool, true, cond}
use mathlib.Core.List.{List, ◌++◌}
use Prim.Native.Nat.{ℕ, ◌*◌, ◌^◌, ◌≤◌, ◌<◌}
use borrow.Author.Tests.{le-leb, leb-true}
use lib.Dec.{leb, ltb}
use lib.ListN.{length, take, drop}
use lib.Seq.{take_at}
use Rattle.bits.specs.Bits.{bits_in, run, runs, octets_for, put_at, packed_into, Wide}
use Rattle.bits.proofs.Runs.{bits_in-bits}
use Rattle.bits.proofs.Trip.{Padded, read_back, write-back, length_runs, wide_runs}
use Rattle.bits.proofs.Kept.{put_back}
use Rattle.bits.proofs.Tests.{and_left}
use Rattle.runs.specs.Take.{fetched, unpack_fits, unpacked}
use Rattle.runs.proofs.Bits.{fetched-some}
use Rattle.packs.specs.Place.{bits_fit, the_put_bits}
use Rattle.packs.specs.Pack.{pack_fits, packed}
use Rattle.packs.proofs.Bits.{bits-width, bits_small}
use Rattle.packs.proofs.Lists.{pack-width, pack-wide, pack_takes}

-- `put_bits`, then `fetch`
pub bits_back : (out : List ℕ) (at n v : ℕ) → bits_fit (length out) at n v ≡ true → fetched (the_put_bits out at n v) at n ≡ v
unfolding the_put_bits bits_fit
bits_back out at n v h =
    let w = bits-width out at n v (ltb v (2 ^ n)) refl h in
    let b = bits_small out at n v (ltb v (2 ^ n)) refl h in
    sym (fetched-some (the_put_bits out at n v) at n v w
    (sym (ap (λ (y : Bool). run (bits_in 8 (cond y (put_at out at n v) out)) at n) h ∙ put_back out at n v b)))

-- `pack`, then `unpack`
pub pack-unpack : (n : ℕ) (vs out d : List ℕ) → pack_fits n vs (length out) ≡ true → length vs ≤ length d
    → unpacked (packed n vs out) 0 n (length vs) d ≡ vs ++ drop (length vs) d
unfolding packed unpacked unpack_fits
pack-unpack n vs out d h l =
    rw (le-leb n 24 (pack-width n vs (length out) h), le-leb (length vs) (length d) l, h)
    (ap (λ (x : List ℕ). x ++ drop (length vs) d) (read_back n vs out (pack-wide n vs (length out) h)))

-- `unpack`, then `pack`, where the padding is zero
module _ (n m : ℕ) (s d e : List ℕ) (few : m < 2 ^ 32) (h : unpack_fits n m (length d) ≡ true) (w : Wide 8 s)
    (l : octets_for (m * n) ≤ length s) (z : Padded s (m * n)) (r : octets_for (m * n) ≤ length e) where
  values : take m (unpacked s 0 n m d) ≡ runs (bits_in 8 s) 0 n m
  unfolding unpacked
  values =
      ap (λ (y : Bool). take m (cond y (runs (bits_in 8 s) 0 n m ++ drop m d) d)) h
      ∙ take_at (runs (bits_in 8 s) 0 n m) (drop m d) m (length_runs (bits_in 8 s) 0 n m)

  pub unpack-packs : pack_fits n (take m (unpacked s 0 n m d)) (length e) ≡ true
  unfolding unpack_fits
  unpack-packs =
      let k : length (runs (bits_in 8 s) 0 n m) ≡ m = length_runs (bits_in 8 s) 0 n m in
      ap (λ (x : List ℕ). pack_fits n x (length e)) values
      ∙ pack_takes n (runs (bits_in 8 s) 0 n m) (length e) (leb-true n 24 (and_left (leb n 24) (leb m (length d)) h))
      (subst (λ (x : ℕ). x < 2 ^ 32) (sym k) few)
      (wide_runs (bits_in-bits 8 s) 0 n m) (subst (λ (x : ℕ). octets_for (x * n) ≤ length e) (sym k) r)

  pub unpack-pack : packed n (take m (unpacked s 0 n m d)) e ≡ take (octets_for (m * n)) s ++ drop (octets_for (m * n)) e
  unfolding packed
  unpack-pack =
      ap (λ (y : Bool). cond y (packed_into n (take m (unpacked s 0 n m d)) e) e) unpack-packs
      ∙ ap (λ (x : List ℕ). packed_into n x e) values
      ∙ write-back n m s e w l z
