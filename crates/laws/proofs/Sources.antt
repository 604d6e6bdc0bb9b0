-- What 18's tests say of a source, there and back: it is well formed; and a test at the present points, as what holds
-- at each of them or at one.
use Prim.Native.Nat.{ℕ}
use mathlib.Core.Bool.{Bool, true, false, ◌&&◌}
use mathlib.Core.Path.{◌≡◌}
use borrow.Author.Tests.{eqb-true, eq-eqb, ltb-false, le-ltb}
use lib.Dec.{ltb, eqb}
use lib.ListN.{length}
use Rattle.bits.proofs.Below.{none_below, no-below, one_below}
use Rattle.rules.specs.Bounds.{points_most, source_most}
use Rattle.rules.specs.Numbers.{beyond}
use Rattle.rules.specs.Table.{any_of}
use Rattle.rules.specs.Checking.{Source, number_of, present_of, any_present, source_faults}
use Rattle.laws.specs.Sources.{AtPresent, SomePresent, WellFormed}
use Rattle.bits.proofs.Tests.{both}
use Rattle.laws.proofs.Rows.{none_of, any_none, and_false, gated, is_eq, not_eq, inside, outside-no}
use Rattle.laws.proofs.Whole.{within, beyond-no}

module _ (f : Source) (test : ℕ → Bool) where
  abbrev here : ℕ → Bool
  here i = eqb (present_of f i) 1 && test i

  pub at_none : any_present f test ≡ false → AtPresent f (λ i. test i ≡ false)
  unfolding any_present
  at_none e i l p =
      and_false (eqb (present_of f i) 1) (test i) (eq-eqb (present_of f i) 1 p)
      (none_below here (length f.numbers) e i l)

  pub none-at : AtPresent f (λ i. test i ≡ false) → any_present f test ≡ false
  unfolding any_present
  none-at h =
      no-below here (length f.numbers)
      (λ i l. gated (eqb (present_of f i) 1) (test i) (λ p. h i l (eqb-true (present_of f i) 1 p)))

  pub some_at : any_present f test ≡ true → SomePresent f (λ i. test i ≡ true)
  unfolding any_present
  some_at e =
      let o = one_below here (length f.numbers) e in
      let b = both (eqb (present_of f o.at) 1) (test o.at) o.passes in
      record { at = o.at; below = o.below; here = eqb-true (present_of f o.at) 1 b.0; holds = b.1 }

pub well_formed : (f : Source) → any_of (source_faults f) ≡ false → WellFormed f
unfolding source_faults
well_formed f e =
    let n = length f.numbers in
    let h = none_of (source_faults f) e in
    let r = inside 1 points_most n h.1.0 in
    record {
      lists = is_eq n (length f.marks) h.0;
      some = r.0;
      most = r.1;
      marks = λ i l. ltb-false 1 (present_of f i) (none_below (λ i. ltb 1 (present_of f i)) n h.1.1.0 i l);
      bound = λ i l p. within source_most (number_of f i)
          (at_none f (λ i. beyond source_most (number_of f i)) h.1.1.1.0 i l p);
    }

pub formed_well : (f : Source) → WellFormed f → any_of (source_faults f) ≡ false
unfolding source_faults
formed_well f w =
    let n = length f.numbers in
    any_none (source_faults f) (
      not_eq n (length f.marks) w.lists,
      (
        outside-no 1 points_most n w.some w.most,
        (
          no-below (λ i. ltb 1 (present_of f i)) n (λ i l. le-ltb 1 (present_of f i) (w.marks i l)),
          (
            none-at f (λ i. beyond source_most (number_of f i))
                (λ i l p. beyond-no source_most (number_of f i) (w.bound i l p)),
            tt,
          ),
        ),
      ),
    )
