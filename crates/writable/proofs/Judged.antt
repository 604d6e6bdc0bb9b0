-- The rows of the writer's table as code judges them: tests over the points one by one, and tests that an earlier
-- return settles.
use Rattle.std.specs.Prelude.{Option}
use mathlib.Core.Path.{◌≡◌, refl, sym, ap, ap₂, ◌∙◌}
use mathlib.Core.Bool.{Bool, true, false, not, cond, ◌&&◌, ◌||◌}
use mathlib.Core.List.{List, [], ◌∷◌}
use Prim.Native.Nat.{ℕ, ◌+◌, ◌*◌}
use lib.Dec.{ltb, eqb}
use lib.ListN.{length}
use borrow.Author.Tests.{eqb-true}
use Rattle.bits.specs.Bits.{bits_in, octets_for}
use Rattle.bits.specs.Tables.{any_below}
use Rattle.bits.proofs.Below.{any_ext}
use Rattle.marks.specs.Marks.{marks_differ}
use native.Mathlib.Nat.{zero-add}
use Rattle.rules.specs.declared.{Refusal.Refusal, Grid.Grid, Form.Form, Scale.Scale, Packing.Packing}
use Rattle.rules.specs.declared.{Bitmap.TheVariants.Stored}
use Rattle.rules.specs.Table.{Row, row, refusal, any_of, or_all, first, first_or}
use Rattle.rules.specs.Bounds.{exponent_most, the_bits_most}
use Rattle.rules.specs.Numbers.{beyond}
use Rattle.rules.specs.Places.{the_has_grid, the_has_bitmap}
use Rattle.rules.specs.Bitmap.{Lent, lent_faults, the_bitmap_given, mark_of}
use Rattle.rules.specs.Values.{flags_bad, packing_faults}
use Rattle.rules.specs.Writing.{lists_fit, stored_faults, the_grid_given}
use Rattle.bits.proofs.Tests.{both}
use Rattle.reply.proofs.Stages.{stop, go_on}
use Rattle.writable.specs.Rows.{front_rows, exponent_faults, middle_rows, early_rows, the_points_bad, list_faults, own_rows}

-- 10: the lent bitmap is not the one, whatever its bits are; it is, and its bits decide where the lists are n long
lent_wrong : (a x y z : Bool) → (x || y) || z ≡ true → true ≡ ((a || x) || y) || z
lent_wrong true true y z e = refl
lent_wrong true false true z e = refl
lent_wrong true false false z e = refl
lent_wrong false x y z e = sym e

lent_right : (a x y z : Bool) → (x || y) || z ≡ false → a ≡ ((a || x) || y) || z
lent_right true true y z e = refl
lent_right true false true z e = refl
lent_right true false false z e = refl
lent_right false x y z e = sym e

module _ (lent : Lent) (wanted : ℕ) (values marks : List ℕ) (n : ℕ) where
  abbrev other : Bool
  other = (eqb wanted 0 || not (eqb lent.number wanted)) || ltb (length lent.octets) (octets_for n)

  abbrev fit : Bool
  fit = eqb (length values) n && eqb (length marks) n

  abbrev unlikes : Bool
  unlikes = any_below (λ i. not (eqb (bits_in 8 lent.octets i) (mark_of marks i))) n

  abbrev faults : Bool
  faults = any_of (stored_faults (Stored wanted) lent values marks n)

  -- the bits from the first octet on
  differ-front : marks_differ lent.octets 0 marks n ≡ unlikes
  unfolding marks_differ
  differ-front =
      any_ext (λ i. not (eqb (bits_in 8 lent.octets (0 * 8 + i)) (mark_of marks i)))
      (λ i. not (eqb (bits_in 8 lent.octets i) (mark_of marks i))) n
      (λ i l. ap (λ (x : ℕ). not (eqb (bits_in 8 lent.octets x) (mark_of marks i))) (zero-add i))

  pub store_wrong : other ≡ true → true ≡ faults
  unfolding any_of or_all stored_faults lent_faults
  store_wrong e =
      lent_wrong (lists_fit values marks n && unlikes) (eqb wanted 0) (not (eqb lent.number wanted))
      (ltb (length lent.octets) (octets_for n)) e

  pub store_short : other ≡ false → fit ≡ false → false ≡ faults
  unfolding any_of or_all stored_faults lent_faults lists_fit
  store_short e f =
      sym (ap (λ (x : Bool). x && unlikes) f)
      ∙ lent_right (fit && unlikes) (eqb wanted 0) (not (eqb lent.number wanted))
      (ltb (length lent.octets) (octets_for n)) e

  pub store_read : other ≡ false → fit ≡ true → (r : Bool) → r ≡ marks_differ lent.octets 0 marks n → r ≡ faults
  unfolding any_of or_all stored_faults lent_faults lists_fit
  store_read e f r d =
      d ∙ differ-front ∙ sym (ap (λ (x : Bool). x && unlikes) f)
      ∙ lent_right (fit && unlikes) (eqb wanted 0) (not (eqb lent.number wanted))
      (ltb (length lent.octets) (octets_for n)) e

-- what the code tests of a list of values is how long it is
pub store_fit : (values : List ℕ) (long n : ℕ) (b t : Bool) → length values ≡ long → eqb long n && b ≡ t
    → eqb (length values) n && b ≡ t
store_fit values long n b t e h = ap (λ (x : ℕ). eqb x n && b) e ∙ h

-- 11: one test, and then the others
or_first : (a x y : Bool) → a || (x || y) ≡ (a || x) || y
or_first true x y = refl
or_first false x y = refl

pub scale-read : (scale : Scale) (packing : Packing) (a b : Bool) → a ≡ beyond exponent_most scale.e.value
    → b ≡ any_of (packing_faults packing)
    → a || b ≡ any_of (exponent_faults scale packing)
unfolding any_of or_all exponent_faults packing_faults
scale-read scale packing a b ea eb =
    ap₂ (λ (x y : Bool). x || y) ea eb
    ∙ or_first (beyond exponent_most scale.e.value) (flags_bad packing.flags) (ltb the_bits_most packing.bits)

-- 13
module _ (pds : List ℕ) (form : Form) (values marks : List ℕ) (n : ℕ) where
  abbrev fit' : Bool
  fit' = eqb (length values) n && eqb (length marks) n

  pub lists-short : fit' ≡ false → true ≡ any_of (list_faults pds form values marks n)
  unfolding any_of or_all list_faults lists_fit
  lists-short e = rw e

  pub lists-long : fit' ≡ true → (length values ≡ n) × (length marks ≡ n)
  lists-long f = (
    eqb-true (length values) n (both (eqb (length values) n) (eqb (length marks) n) f).0,
    eqb-true (length marks) n
        (both (eqb (length values) n) (eqb (length marks) n) f).1,
  )

  module _ (f : fit' ≡ true) (ground gaps : Bool) (eg : ground ≡ the_grid_given form.grid)
      (eb : gaps ≡ the_bitmap_given form.bitmap) where
    pub lists-read : (p : Bool) → p ≡ the_points_bad gaps form.packing.bits values marks n
        → (hg g : Bool) → hg ≡ the_has_grid pds 0 → g ≡ cond hg (not ground) ground
        → (hb b : Bool) → hb ≡ the_has_bitmap pds 0 → b ≡ cond hb (not gaps) gaps
        → (p || g) || b ≡ any_of (list_faults pds form values marks n)
    unfolding any_of or_all list_faults lists_fit the_points_bad
    lists-read p ep hg g eh e hb b ei i = rw (f, ep, e, i, eh, ei, eg, eb)

-- the stages
module _ (pds : List ℕ) (form : Form) (scale : Scale) (lent : Lent) (values marks : List ℕ) (found : Option Grid)
    (n : ℕ) where
  abbrev early : List Row
  early = early_rows pds form scale lent values marks found n

  abbrev middle : List Row
  middle = middle_rows form scale lent values marks n

  module _ (r : Refusal) (e : r ≡ first (front_rows pds found)) where
    pub early-front : (r.number ≡ 0 → ⊥) → r ≡ first early
    unfolding first early_rows front_rows
    early-front z = stop (front_rows pds found) middle (refusal 0) r tt e z

    pub early-middle : r.number ≡ 0 → (q : Refusal) → q ≡ first middle → q ≡ first early
    unfolding first early_rows front_rows
    early-middle z q f = go_on (front_rows pds found) middle (refusal 0) r tt e z q f

  abbrev last : List Row
  last = row 13 (any_of (list_faults pds form values marks n)) ∷ []

  abbrev own : Refusal
  own = first (own_rows pds form scale lent values marks found n)

  module _ (r : Refusal) (e : r ≡ first early) where
    pub own-early : (r.number ≡ 0 → ⊥) → r ≡ own
    unfolding first own_rows early_rows front_rows middle_rows
    own-early z = stop early last (refusal 0) r tt e z

    pub own-last : r.number ≡ 0 → (t : Bool) → t ≡ any_of (list_faults pds form values marks n) → (x : Refusal)
        → x ≡ cond t (refusal 13) (refusal 0) → x ≡ own
    unfolding first first_or own_rows early_rows front_rows middle_rows
    own-last z t et x ex =
        go_on early last (refusal 0) r tt e z x
        (ex ∙ ap (λ (u : Bool). cond u (refusal 13) (refusal 0)) et)
