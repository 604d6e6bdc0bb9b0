-- What is said of a point, by the tests of code: 25, its value, or absence.
use Rattle.std.specs.Prelude.{Err, None, Ok, Option, Result, Some}
use mathlib.Core.Path.{◌≡◌, sym, ap, ap₂, ◌∙◌}
use mathlib.Core.Bool.{Bool, true, false, cond}
use mathlib.Core.List.{List}
use Prim.Native.Nat.{ℕ, ◌+◌, ◌<◌}
use borrow.Author.Tests.{eq-eqb, ne_eqb}
use lib.Dec.{eqb}
use Rattle.rules.specs.declared.{Refusal.Refusal}
use Rattle.rules.specs.Table.{refusal, any_of}
use Rattle.rules.specs.Cursor.{group_of, ones_in, ones_up_to, entry_of, index_faults, cursor_number}
use Rattle.runs.specs.Take.{fetched}
use Rattle.bitreader.specs.Taken.{the_value_place}
use Rattle.cursor.specs.Looked.{looked_at}
use Rattle.cursor.proofs.Groups.{in_ext, to_ext}

module _ (s index : List ℕ) (b bits n m i : ℕ) where
  -- by the ones in the group, those before the point, and its own bit
  abbrev said : ℕ → ℕ → ℕ → Result (Option ℕ) Refusal
  said all before here =
      cond (any_of (index_faults index n m (group_of i) all)) (Err (refusal 25))
      (cond (eqb here 1) (Ok (Some (fetched s (the_value_place b bits (entry_of index (group_of i) + before)) bits))) (Ok None))

  module _ (f : ℕ → ℕ) (all : ℕ) (ea : all ≡ ones_in f n (group_of i)) (t : Bool)
      (et : t ≡ any_of (index_faults index n m (group_of i) all)) where
    judged : (v : Bool) → t ≡ v → any_of (index_faults index n m (group_of i) (ones_in f n (group_of i))) ≡ v
    judged v h = ap (λ (x : ℕ). any_of (index_faults index n m (group_of i) x)) (sym ea) ∙ sym et ∙ h

    pub looked-bad : t ≡ true → (r : Refusal) → r ≡ refusal 25 → Err r ≡ looked_at s f b bits n m index i
    unfolding looked_at
    looked-bad h r e = rw (judged true h) (ap Err e)

    module _ (h : t ≡ false) (here : ℕ) (eh : here ≡ f i) where
      pub looked-absent : (here ≡ 1 → ⊥) → (Ok None) ≡ looked_at s f b bits n m index i
      unfolding looked_at
      looked-absent z =
          let k : eqb (f i) 1 ≡ false = ap (λ (x : ℕ). eqb x 1) (sym eh) ∙ ne_eqb here 1 z in
          rw (judged false h, k)

      pub looked-value : here ≡ 1 → (e before at x : ℕ) → e ≡ entry_of index (group_of i) → before ≡ ones_up_to f i
          → at ≡ the_value_place b bits (e + before) → x ≡ fetched s at bits
          → (Ok (Some x)) ≡ looked_at s f b bits n m index i
      unfolding looked_at cursor_number
      looked-value z e before at x pe pb pa px =
          let k : eqb (f i) 1 ≡ true = ap (λ (y : ℕ). eqb y 1) (sym eh) ∙ eq-eqb here 1 z in
          rw (judged false h, k)
          (ap (λ (x : ℕ). Ok (Some x))
          (px ∙ ap (λ (y : ℕ). fetched s y bits)
          (pa ∙ ap₂ (λ (y w : ℕ). the_value_place b bits (y + w)) pe pb)))

  -- presence that agrees below n
  pub looked_ext : (f g : ℕ → ℕ) → i < n → ((j : ℕ) → j < n → f j ≡ g j)
      → looked_at s f b bits n m index i ≡ looked_at s g b bits n m index i
  unfolding looked_at cursor_number
  looked_ext f g l h =
      ap₂ (λ (x y : ℕ). said x y (f i)) (in_ext f g n i l h) (to_ext f g n i l h)
      ∙ ap (said (ones_in g n (group_of i)) (ones_up_to g i)) (h i l)
