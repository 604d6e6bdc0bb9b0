-- Document 00, demand 3: when the check says yes, and that what the packer writes passes it; document 01, "Packing and
-- checking": R, X and E.
use Rattle.std.specs.Prelude.{ℕ, ◌*◌, ◌^◌, ◌<◌, ◌≤◌, ◌≡◌, ◌↔◌, false, List, T, ℤ, pos, nat_abs, ◌+ℤ◌, ◌-ℤ◌, length}
use Rattle.rules.specs.declared.{Form.Form}
use Rattle.rules.specs.Bounds.{source_most, step_most, flat_spread}
use Rattle.rules.specs.Numbers.{decimal_at}
use Rattle.rules.specs.Table.{refusal, accepted, any_of}
use Rattle.rules.specs.Bitmap.{Lent, value_of}
use Rattle.rules.specs.Values.{packing_faults, b_of, size_of, unit, whole_of}
use Rattle.rules.specs.Reading.{values_in, the_scale_in}
use Rattle.rules.specs.Writing.{pds_faults, write_refusal}
use Rattle.rules.specs.Checking.{Source, number_of, present_of, check_of}
use Rattle.rules.specs.Packing.{spelling_of, reference, above, exponent, packed_parts, pack_refusal, pack_of, packed_after}
use Rattle.laws.specs.Taken.{Taken}
use Rattle.laws.specs.Sources.{AtPresent, SomePresent, WellFormed, Agrees, InRange, Fits}
use Rattle.theorems.specs.Returns.{FoundFits, NumberFits, handed}

-- "every present source number is within half a binary step of its unpacked value": 2 × |V − R − X × 2^E| ≤ 2^E
abbrev pub Near : List ℕ → Lent → Source → ℕ → Type 0
Near s lent f i =
    let e = nat_abs (the_scale_in s).e.value in
    2 * nat_abs (number_of f i -ℤ whole_of (the_scale_in s).r -ℤ pos (value_of (values_in s lent) i * 2 ^ e)) ≤ 2 ^ e

pub record Passes (s : List ℕ) (lent : Lent) (f : Source) : Type 0 where
  pub taken : Taken s lent
  pub source : WellFormed f
  pub agrees : Agrees s lent f
  pub scale : InRange (the_scale_in s)
  pub near : AtPresent f (Near s lent f)

-- "It says yes exactly when .."
abbrev pub CheckExactly : Type 0
CheckExactly = (s : List ℕ) (lent : Lent) (f : Source) → (check_of s lent f ≡ refusal 0) ↔ Passes s lent f

-- "Whenever our packer isn't refused, the message it writes passes that check against its own source and stored bitmap"
abbrev pub PackedPasses : Type 0
PackedPasses =
    (pds : List ℕ) (form : Form) (lent : Lent) (f : Source) (out : List ℕ) → FoundFits form.grid
    → NumberFits form.bitmap
    → T (accepted (pack_refusal pds form lent f out))
    → check_of (handed (pack_of pds form lent f out) (packed_after pds form lent f out)) lent f ≡ refusal 0

-- "Demand 3 alone would allow a packer that always refuses": it accepts exactly when the source is well formed, D
-- agrees, a step fits, and the writer accepts what it would write
pub record Packable (pds : List ℕ) (form : Form) (lent : Lent) (f : Source) (out : List ℕ) : Type 0 where
  pub source : WellFormed f
  pub decimal : (decimal_at pds 0).value ≡ f.d
  pub spread : form.packing.bits ≡ 0 → AtPresent f (λ i. above f i < flat_spread)
  pub written : T (accepted (write_refusal (packed_parts pds form lent f) out))

abbrev pub PackExactly : Type 0
PackExactly =
    (pds : List ℕ) (form : Form) (lent : Lent) (f : Source) (out : List ℕ)
    → T (accepted (pack_refusal pds form lent f out)) ↔ Packable pds form lent f out

-- "R is the least present V": each present V is R and r = V − R more, and one of them is R; "No present point: R = 0"
pub record Referred (f : Source) : Type 0 where
  pub over : AtPresent f (λ i. number_of f i ≡ reference f +ℤ pos (above f i))
  pub one : SomePresent f (λ i. Unit {0}) → SomePresent f (λ i. number_of f i ≡ reference f)
  pub none : ((i : ℕ) → i < length f.numbers → present_of f i ≡ 0) → reference f ≡ pos 0

abbrev pub LeastReference : Type 0
LeastReference = (f : Source) → WellFormed f → Referred f

-- "with leading hex digit not zero, and zero as 32 zero bits": the spelling stands for the number
pub record Spells (z : ℤ) (r : ℕ) : Type 0 where
  pub whole : size_of r ≡ nat_abs z * unit
  pub is : whole_of r ≡ z
  pub fits : r < 2 ^ 32
  pub lead : 0 < nat_abs z → 2 ^ 20 ≤ b_of r
  pub zero : nat_abs z ≡ 0 → r ≡ 0

abbrev pub SpelledExactly : Type 0
SpelledExactly = (z : ℤ) → nat_abs z ≤ source_most → Spells z (spelling_of z)

-- "E is the least of 0 to 24 for which all X are below 2^N"; "No present point: .. E = 0"
abbrev pub LeastStep : Type 0
LeastStep =
    (f : Source) (bits e : ℕ) → e ≤ step_most → (exponent f bits ≡ e)
    ↔ (Fits f bits e × ((k : ℕ) → k < e → Fits f bits k → ⊥))

-- no E from 0 to 24 fits exactly when N = 0 and "the spread is 8,388,608 or more"
abbrev pub NoStepFits : Type 0
NoStepFits =
    (f : Source) (bits : ℕ) → WellFormed f → (step_most < exponent f bits)
    ↔ ((bits ≡ 0) × SomePresent f (λ i. flat_spread ≤ above f i))

-- "For N = 0, 19 is given exactly when the spread is 8,388,608 or more", where the packer's rows above 19 pass; for
-- another N never
pub record NothingFits (pds : List ℕ) (form : Form) (f : Source) : Type 0 where
  pub pds-passes : any_of (pds_faults pds) ≡ false
  pub source : WellFormed f
  pub decimal : (decimal_at pds 0).value ≡ f.d
  pub packing : any_of (packing_faults form.packing) ≡ false
  pub flat : form.packing.bits ≡ 0
  pub spread : SomePresent f (λ i. flat_spread ≤ above f i)

abbrev pub NoStepReply : Type 0
NoStepReply =
    (pds : List ℕ) (form : Form) (lent : Lent) (f : Source) (out : List ℕ)
    → (pack_refusal pds form lent f out ≡ refusal 19) ↔ NothingFits pds form f
