-- The values of a message as the bit reader takes them: the place after k of them is a sum as long as it lies in the
-- message, and there the k-th value stands.
use Prim.Native.Nat.{ℕ, zero, suc, ◌+◌, ◌-◌, ◌*◌, ◌%◌, ◌≤◌}
use mathlib.Core.Path.{◌≡◌, sym, ap, ◌∙◌}
use mathlib.Core.Bool.{Bool, cond}
use mathlib.Core.List.{List, ◌++◌}
use native.Mathlib.Nat.{zero-mul}
use native.Mathlib.Numerals.{add-one}
use native.Mathlib.Omega.{arith}
use borrow.Author.Tests.{le-leb}
use lib.ListN.{length, drop}
use Rattle.bits.specs.Bits.{bits_in, run, runs}
use Rattle.bits.proofs.Runs.{next, next_le}
use Rattle.rules.specs.Bounds.{the_bits_most, bds_head}
use Rattle.rules.specs.Numbers.{octet}
use Rattle.rules.specs.Places.{after, places_of}
use Rattle.rules.specs.Bitmap.{Lent}
use Rattle.rules.specs.Values.{the_length_bad}
use Rattle.rules.specs.Reading.{present_count, packing_in, data_in}
use Rattle.std.specs.Prelude.{Some}
use Rattle.runs.specs.Take.{fetched, unpacked}
use Rattle.runs.proofs.Lists.{unpacked-fits}
use Rattle.bitreader.specs.Taken.{place_most, reached, taken_at, the_data_place}
use Rattle.bitreader.proofs.Places.{reached-sum, all-reached, data_begins}
use Rattle.laws.specs.Taken.{Taken}
use Rattle.laws.proofs.Rows.{is_eq}
use Rattle.laws.proofs.Judged.{judged}
use Rattle.laws.proofs.Sections.{reads-inside}
use Rattle.laws.proofs.Data.{data_narrow, size-most, data_at, data_runs}
use Rattle.theorems.specs.Turns.{place_after, TakenInTurn}

place_is : (s : List ℕ) (at n m k : ℕ) → k ≤ m → at + m * n ≤ place_most → place_after s at n k ≡ at + k * n
unfolding place_after taken_at
place_is s at n m zero h b = omega (arith, zero-mul n)
place_is s at n m (suc k) h b =
    let l = next_le k m n (omega arith) in
    ap (λ (p : ℕ). reached p n) (place_is s at n m k (omega arith) b)
    ∙ reached-sum (at + k * n) n (omega arith)
    ∙ omega (arith, next k n, ap (λ (x : ℕ). x * n) (add-one k))

-- a number of at most 32 bits, taken
value-is : (s : List ℕ) (at n : ℕ) → n ≤ 32 → (taken_at s at n).value ≡ run (bits_in 8 s) at n
unfolding taken_at fetched
value-is s at n h = ap (λ (t : Bool). cond t (run (bits_in 8 s) at n) 0) (le-leb n 32 h)

module _ (s : List ℕ) (lent : Lent) (t : Taken s lent) where
  abbrev bits : ℕ
  bits = (packing_in s).bits

  abbrev m : ℕ
  m = present_count s lent

  abbrev start : ℕ
  start = (places_of s).bds.start

  abbrev first : ℕ
  first = (start + bds_head) * 8

  narrow : bits ≤ the_bits_most
  narrow = data_narrow s lent t

  -- the data end in their section, and it in the message
  ends : first + m * bits ≤ after (places_of s).bds * 8
  unfolding the_length_bad
  ends =
      let b = (places_of s).bds in
      omega (
        arith,
        (reads-inside s lent t).bds,
        is_eq (8 * (b.len - bds_head)) (m * bits + octet s start 4 % 16) (judged s lent t).length,
      )

  early : after (places_of s).bds * 8 ≤ place_most
  early = omega (arith, (reads-inside s lent t).end, size-most s lent t)

  begins : the_data_place start ≡ first
  begins = data_begins start (omega (arith, ends, early))

  place : (k : ℕ) → k ≤ m → place_after s (the_data_place start) bits k ≡ first + k * bits
  place k l =
      ap (λ (p : ℕ). place_after s p bits k) begins ∙ place_is s first bits m k l (omega (arith, ends, early))

  all-taken : (out : List ℕ) → m ≤ length out → unpacked s (the_data_place start) bits m out ≡ data_in s lent ++ drop m out
  all-taken out l =
      unpacked-fits s out (the_data_place start) bits m narrow l
      ∙ ap (λ (p : ℕ). runs (bits_in 8 s) p bits m ++ drop m out) begins
      ∙ ap (λ (xs : List ℕ). xs ++ drop m out) (sym (data_runs s lent))

pub taken_in_turn : TakenInTurn
taken_in_turn s lent t = record {
  each = λ k l. data_at s lent k l
      ∙ sym (value-is s _ (bits s lent t) (omega (arith, narrow s lent t))
      ∙ ap (λ (p : ℕ). run (bits_in 8 s) p (bits s lent t)) (place s lent t k (omega arith)));
  all = all-taken s lent t;
  reached = λ room l. all-reached _ _ _ room (narrow s lent t) l
      ∙ ap (λ (p : ℕ). Some p)
      (ap (λ (p : ℕ). reached p (m s lent t * bits s lent t)) (begins s lent t)
      ∙ reached-sum _ _ (omega (arith, ends s lent t, early s lent t))
      ∙ sym (place s lent t (m s lent t) (omega arith)));
  inside = omega (arith, ends s lent t, place s lent t (m s lent t) (omega arith));
}
