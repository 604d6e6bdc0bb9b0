-- No stand-in meets the demand that document 01 names for it: each answers the specimen, or a message, parts or a
-- source near it, otherwise than the demand says; by computing.
use Prim.Native.Nat.{ℕ}
use mathlib.Core.Bool.{false}
use mathlib.Core.Path.{◌≡◌, refl, ap}
use mathlib.Core.List.{List, [], ◌∷◌}
use native.Mathlib.Nat.{le_refl}
use borrow.Author.Tests.{eqb-false}
use lib.Dec.{eqb, lit<}
use lib.ListN.{set, get_or}
use Rattle.rules.specs.declared.{Refusal.Refusal, Places.Places, Form.Form}
use Rattle.rules.specs.Table.{refusal}
use Rattle.rules.specs.Grid.{cells_by}
use Rattle.rules.proofs.Computes.{computes, specimen, nothing}
use Rattle.rules.proofs.Specimen.{form, parts, source}
use Rattle.theorems.specs.Returns.{FoundFits}
use Rattle.theorems.proofs.Checked.{check_exactly}
use Rattle.theorems.proofs.Packs.{pack_exactly}
use Rattle.standins.specs.Codec.{ReadsAll, ValuesAtPoints, CountsPresent, ReadsBack, ChecksExactly, PassesCheck}
use Rattle.standins.specs.Codec.{PacksExactly, RepliesByTable}
use Rattle.standins.specs.Standins.{refuses_all, fixed_field, first_repeated, count_invented, misplaces_sections}
use Rattle.standins.specs.Standins.{the_writes_nothing, always_yes, always_no, packs_nothing, rounds_down, Rejected}

-- lists with room for the specimen's points
abbrev room : List ℕ
room = 9 ∷ 9 ∷ 9 ∷ 9 ∷ []

-- a reply that is not 0
refused : (n : ℕ) → eqb n 0 ≡ false → refusal n ≡ refusal 0 → ⊥
refused n l e = eqb-false n 0 l (ap (λ (r : Refusal). r.number) e)

-- the specimen would be refused
refuses-all : ReadsAll refuses_all → ⊥
unfolding computes
refuses-all h = refused 1 refl (h specimen nothing tt room room (le_refl 4) (le_refl 4)).refusal

-- the specimen with another first value: 1, where the fixed field has 0
fixed-field : ReadsAll fixed_field → ⊥
unfolding computes
fixed-field h =
    eqb-false 0 1 refl
    (ap (λ (v : List ℕ). get_or v 0 0) (h (set specimen 87 0x2b) nothing tt room room (le_refl 4) (le_refl 4)).each)

-- the specimen's last point: 7, where the first value is 0
first-repeated : ValuesAtPoints first_repeated → ⊥
unfolding computes
first-repeated h = eqb-false 0 7 refl ((h specimen nothing room room tt 3 (lit< tt)).here refl).2

-- the specimen has 4 points, 3 of them present
count-invented : CountsPresent count_invented → ⊥
unfolding computes
count-invented h = eqb-false 4 3 refl (h specimen nothing room room tt)

-- the specimen's GDS starts at 36, where its PDS, from 8 on, ends
misplaces-sections : ReadsAll misplaces_sections → ⊥
unfolding computes
misplaces-sections h =
    eqb-false 8 36 refl
    (ap (λ (p : Places). p.gds.start) (h specimen nothing tt room room (le_refl 4) (le_refl 4)).places)

grid-fits : FoundFits form.grid
unfolding cells_by
grid-fits =
    (lit< tt, (lit< tt, (tt, (tt, (lit< tt, (tt, (tt, (lit< tt, (lit< tt, (lit< tt, (tt, tt)))))))))))

-- the specimen's parts: what stood in the output is no message
writes_nothing : ReadsBack the_writes_nothing → ⊥
unfolding computes
writes_nothing h = (h parts (0 ∷ specimen) grid-fits tt (lit< tt) tt).taken

-- no message at all, and the specimen with its source
always-yes : ChecksExactly always_yes → ⊥
unfolding computes
always-yes h = ((h [] nothing source).0 refl).taken

always-no : ChecksExactly always_no → ⊥
unfolding computes
always-no h = refused 17 refl ((h specimen nothing source).1 ((check_exactly specimen nothing source).0 refl))

-- no message is written, so none fails the check; but the specimen's source can be packed
packs-nothing-passes : PassesCheck packs_nothing
packs-nothing-passes pds form lent f out gf nf a = absurd a

packs-nothing : RepliesByTable packs_nothing → ⊥
unfolding computes
packs-nothing h = refused 19 refl (h.packer parts.pds form nothing source specimen)

packs-nothing_exactly : PacksExactly packs_nothing → ⊥
unfolding computes
packs-nothing_exactly h =
    (h parts.pds form nothing source specimen).1 ((pack_exactly parts.pds form nothing source specimen).0 tt)

-- the specimen's source in two bits: E = 2, and r = 7 would be packed as 1, which is 3 away of the 2 allowed
abbrev two-bits : Form
two-bits = record { grid = form.grid; bitmap = form.bitmap; packing = record { flags = 0; bits = 2 } }

rounds-down : PassesCheck rounds_down → ⊥
unfolding computes
rounds-down h =
    refused 17 refl
    ((check_exactly _ nothing source).1 (h parts.pds two-bits nothing source specimen grid-fits tt tt))

pub rejected : Rejected
rejected = record {
  refuses-all = refuses-all;
  fixed-field = fixed-field;
  first-repeated = first-repeated;
  count-invented = count-invented;
  misplaces-sections = misplaces-sections;
  writes_nothing = writes_nothing;
  always-yes = always-yes;
  always-no = always-no;
  packs-nothing-passes = packs-nothing-passes;
  packs-nothing = packs-nothing;
  packs-nothing_exactly = packs-nothing_exactly;
  rounds-down = rounds-down;
}
