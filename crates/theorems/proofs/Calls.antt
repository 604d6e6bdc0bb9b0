-- Demand 2 over two calls: what a caller makes of what reading handed out is the parts of the message, field by field
-- from `Told`; so read and then write, and write and then read, say what the round trips say of these parts.
use Rattle.std.specs.Prelude.{None, Some}
use Prim.Native.Nat.{ℕ, ◌≤◌}
use mathlib.Core.Path.{◌≡◌, refl, sym, ◌∙◌, ap, subst}
use mathlib.Core.Bool.{Bool, true, false, cond}
use mathlib.Core.List.{List}
use native.Mathlib.Omega.{arith}
use borrow.Author.Tests.{ne_eqb}
use lib.Dec.{T, eqb}
use lib.ListN.{length, take}
use Rattle.rules.specs.declared.{Grid.Grid}
use Rattle.rules.specs.Answers.{Header}
use Rattle.rules.specs.Table.{accepted}
use Rattle.rules.specs.Numbers.{number}
use Rattle.rules.specs.Places.{octets_of, after, pds_start, the_has_grid, places_of, the_section_at}
use Rattle.rules.specs.Grid.{the_grid_at, the_grid_from, grid_or_zeros}
use Rattle.rules.specs.Bitmap.{Lent}
use Rattle.rules.specs.Reading.{points_in, grid_in, grid_of, parsed_of, found_by, found_in, read_of, the_values_after, the_marks_after}
use Rattle.rules.specs.Writing.{Parts, points_for, write_refusal, write_of, output_after}
use Rattle.rules.specs.RoundTrip.{parts_in}
use Rattle.laws.specs.Taken.{Taken}
use Rattle.laws.proofs.Sections.{reads-inside}
use Rattle.theorems.specs.Reads.{Tells}
use Rattle.theorems.specs.Returns.{handed, parts_from, parts_read, ReadMakes, WriteThenRead, ReadThenWrite}
use Rattle.theorems.proofs.Reoffered.{points-for}
use Rattle.theorems.proofs.Told.{header, read-tells}
use Rattle.theorems.proofs.Returned.{read-after-write}
use Rattle.theorems.proofs.WriteBack.{write-after-read}

-- a grid section has octets exactly where there is one, so that the grid it gives is made again
grid-made : (s : List ℕ) (b : Bool) (n : ℕ) (g : Grid) → (T b → 32 ≤ cond b n 0)
    → cond (eqb (cond b n 0) 0) None (Some (grid_or_zeros (the_grid_from (cond b (Some g) None) s pds_start)))
    ≡ cond b (Some g) None
unfolding the_grid_from
grid-made s true n g h = let l : 32 ≤ n = h tt in ap (λ (b : Bool). cond b None (Some g)) (ne_eqb n 0 (λ e. omega (arith, l, e)))
grid-made s false n g h = refl

module _ (s : List ℕ) (lent : Lent) (values marks : List ℕ) (t : Taken s lent) (rv : points_in s ≤ length values)
    (rm : points_in s ≤ length marks) where
  told : Tells s lent values marks (parts_in s lent)
  told = read-tells s lent values marks t rv rm

  grid-is : cond (eqb (read_of s lent values marks).places.gds.len 0) None
      (Some (read_of s lent values marks).grid) ≡ grid_in s
  unfolding found_in found_by parsed_of grid_in grid_of places_of the_section_at
  grid-is =
      ap (λ (h : Header). cond (eqb h.places.gds.len 0) None (Some h.grid))
      (header s lent values marks t rv rm)
      ∙ grid-made s (the_has_grid s pds_start) (number s (after (places_of s).pds) 1 3) (the_grid_at s (places_of s).gds)
      (reads-inside s lent t).gds

  pds-is : octets_of s (read_of s lent values marks).places.pds ≡ octets_of s (places_of s).pds
  unfolding parts_in
  pds-is = told.pds

  made : parts_read s lent values marks ≡ parts_in s lent
  unfolding parts_from parts_in
  made = λ i. record {
    pds = pds-is i;
    form = record { grid = grid-is i; bitmap = told.bitmap i; packing = told.packing i };
    scale = told.scale i;
    lent = lent;
    values = (ap (λ (k : ℕ). take k (the_values_after s lent values marks)) told.points ∙ told.each) i;
    marks = (ap (λ (k : ℕ). take k (the_marks_after s lent values marks)) told.points ∙ told.which) i;
  }

pub read_makes : ReadMakes
read_makes s lent values marks t rv rm = made s lent values marks t rv rm

pub write-then-read : WriteThenRead
write-then-read w out values marks gf nf rf acc rv rm =
    let s = handed (write_of w out) (output_after w out) in
    let h = read-after-write w out gf nf rf acc in
    let n = subst (λ (x : Parts). points_for x ≡ points_in s) h.parts (points-for s w.lent h.taken) in
    let m = made s w.lent values marks h.taken (subst (λ (k : ℕ). k ≤ length values) n rv) (subst (λ (k : ℕ). k ≤ length marks) n rm) in
    ((h.tells values marks rv rm).refusal, m ∙ h.parts)

pub read-then-write : ReadThenWrite
read-then-write s out lent values marks below t c rv rm room =
    let k = subst (λ (w : Parts). T (accepted (write_refusal w out)) × (handed (write_of w out) (output_after w out) ≡ s)) (sym (made s lent values marks t rv rm))
    (write-after-read s out lent below t c room) in
    ((told s lent values marks t rv rm).refusal, k.0, k.1)
