-- Any codec, by its answers, and what document 00 demands of them. Each demand is a theorem of `theorems/specs` with
-- the codec's answers in the place of ours, and says what they are to be by what the format means.
use Rattle.std.specs.Prelude.{ℕ, ◌^◌, ◌<◌, ◌≤◌, ◌≡◌, ◌↔◌, false, List, T, length, drop}
use Rattle.bits.specs.Bits.{count}
use Rattle.rules.specs.declared.{Refusal.Refusal, Form.Form}
use Rattle.rules.specs.Answers.{Header, Written}
use Rattle.rules.specs.Table.{refusal, accepted, first}
use Rattle.rules.specs.Bitmap.{Lent, marks_long}
use Rattle.rules.specs.Reading.{points_in, present_in, refused_by, read_table}
use Rattle.rules.specs.Writing.{Parts, points_for, write_table}
use Rattle.rules.specs.RoundTrip.{parts_in, canonical}
use Rattle.rules.specs.Checking.{Source, check_table}
use Rattle.rules.specs.Packing.{pack_table}
use Rattle.laws.specs.Taken.{Taken}
use Rattle.theorems.specs.Reads.{LeftAt, Told}
use Rattle.theorems.specs.Returns.{Below, FoundFits, NumberFits, handed, parts_from}
use Rattle.theorems.specs.Checks.{Passes, Packable}

-- what is answered, and what becomes of the lent lists: reading a message with a bitmap lent into two lists, writing
-- parts into an output, checking a message against a source, and packing a source into an output
pub record Codec : Type 0 where
  pub read : List ℕ → Lent → List ℕ → List ℕ → Header
  pub values : List ℕ → Lent → List ℕ → List ℕ → List ℕ
  pub marks : List ℕ → Lent → List ℕ → List ℕ → List ℕ
  pub write : Parts → List ℕ → Written
  pub output : Parts → List ℕ → List ℕ
  pub check : List ℕ → Lent → Source → Refusal
  pub pack : List ℕ → Form → Lent → Source → List ℕ → Written
  pub packed : List ℕ → Form → Lent → Source → List ℕ → List ℕ

-- Demand 1: "refused with a number fixed by the rules": each reply is the one that its table gives
pub record RepliesByTable (c : Codec) : Type 0 where
  pub reader : (s : List ℕ) (lent : Lent) (values marks : List ℕ)
      → (c.read s lent values marks).refusal ≡ first (read_table s lent values marks)
  pub writer : (w : Parts) (out : List ℕ) → (c.write w out).refusal ≡ first (write_table w out)
  pub checker : (s : List ℕ) (lent : Lent) (f : Source) → c.check s lent f ≡ first (check_table s lent f)
  pub packer : (pds : List ℕ) (form : Form) (lent : Lent) (f : Source) (out : List ℕ)
      → (c.pack pds form lent f out).refusal ≡ first (pack_table pds form lent f out)

-- "and a refusal changes nothing in any buffer the caller lent", "with all counts and fields zero"
abbrev pub WrittenNothing : Written → List ℕ → List ℕ → Type 0
WrittenNothing answer after out = accepted answer.refusal ≡ false → (answer.len ≡ 0) × (after ≡ out)

pub record KeepsWhenRefused (c : Codec) : Type 0 where
  pub reader : (s : List ℕ) (lent : Lent) (values marks : List ℕ) → let h = c.read s lent values marks in
      accepted h.refusal ≡ false → (h ≡ refused_by h.refusal) × (c.values s lent values marks ≡ values)
      × (c.marks s lent values marks ≡ marks)
  pub writer : (w : Parts) (out : List ℕ) → WrittenNothing (c.write w out) (c.output w out) out
  pub packer : (pds : List ℕ) (form : Form) (lent : Lent) (f : Source) (out : List ℕ)
      → WrittenNothing (c.pack pds form lent f out) (c.packed pds form lent f out) out

-- Demand 2: "Reading gives exactly what GRIB Edition 1 defines": every message that 1 to 12 do not refuse is read, with
-- room for its points, to its own parts
abbrev pub Reads : Codec → List ℕ → Lent → Parts → Type 0
Reads c s lent w =
    (values marks : List ℕ) → points_for w ≤ length values → points_for w ≤ length marks
    → Told s (c.read s lent values marks) (c.values s lent values marks) (c.marks s lent values marks) w

abbrev pub ReadsAll : Codec → Type 0
ReadsAll c = (s : List ℕ) (lent : Lent) → Taken s lent → Reads c s lent (parts_in s lent)

-- what reading into lent lists does not refuse
abbrev pub ReadBy : Codec → List ℕ → Lent → List ℕ → List ℕ → Type 0
ReadBy c s lent values marks = T (accepted (c.read s lent values marks).refusal)

-- at every point: the value that stands among the data by the point's data number, "0 and 0 at absent points";
-- "elements after n stay"
abbrev pub ValuesAtPoints : Codec → Type 0
ValuesAtPoints c =
    (s : List ℕ) (lent : Lent) (values marks : List ℕ) → ReadBy c s lent values marks
    → (i : ℕ) → i < points_in s → LeftAt s lent (c.values s lent values marks) (c.marks s lent values marks) i

abbrev pub LaterStay : Codec → Type 0
LaterStay c =
    (s : List ℕ) (lent : Lent) (values marks : List ℕ) → ReadBy c s lent values marks
    → (drop (points_in s) (c.values s lent values marks) ≡ drop (points_in s) values)
    × (drop (marks_long (points_in s)) (c.marks s lent values marks) ≡ drop (marks_long (points_in s)) marks)

-- "One that invents the present count: it equals the bitmap's ones"
abbrev pub CountsPresent : Codec → Type 0
CountsPresent c =
    (s : List ℕ) (lent : Lent) (values marks : List ℕ) → ReadBy c s lent values marks
    → (c.read s lent values marks).present ≡ count (present_in s lent) 0 (points_in s)

-- "Writing gives a message that reads back to the same parts with the same stored bitmap lent"
pub record Returns (c : Codec) (w : Parts) (s : List ℕ) : Type 0 where
  pub taken : Taken s w.lent
  pub parts : parts_in s w.lent ≡ w
  pub reads : Reads c s w.lent w

abbrev pub ReadsBack : Codec → Type 0
ReadsBack c =
    (w : Parts) (out : List ℕ) → FoundFits w.form.grid → NumberFits w.form.bitmap → w.scale.r < 2 ^ 32
    → T (accepted (c.write w out).refusal)
    → Returns c w (handed (c.write w out) (c.output w out))

-- "Reading and then writing gives the same octets when padding and reserved octets are zero and no signed field .. is
-- minus zero": what the codec itself hands out of a message, written by it
abbrev pub WritesBack : Codec → Type 0
WritesBack c =
    (s out : List ℕ) (lent : Lent) (values marks : List ℕ) → Below 256 s → Taken s lent → T (canonical s lent)
    → points_in s ≤ length values → marks_long (points_in s) ≤ length marks → length s ≤ length out
    → let h = c.read s lent values marks in
    let w = parts_from s lent h (c.values s lent values marks) (c.marks s lent values marks) in
    (h.refusal ≡ refusal 0) × T (accepted (c.write w out).refusal)
    × (handed (c.write w out) (c.output w out) ≡ s)

-- Demand 3: "It says yes exactly when .."
abbrev pub ChecksExactly : Codec → Type 0
ChecksExactly c = (s : List ℕ) (lent : Lent) (f : Source) → (c.check s lent f ≡ refusal 0) ↔ Passes s lent f

-- "Whenever our packer isn't refused, the message it writes passes that check against its own source and stored bitmap"
abbrev pub PassesCheck : Codec → Type 0
PassesCheck c =
    (pds : List ℕ) (form : Form) (lent : Lent) (f : Source) (out : List ℕ) → FoundFits form.grid
    → NumberFits form.bitmap
    → T (accepted (c.pack pds form lent f out).refusal)
    → Passes (handed (c.pack pds form lent f out) (c.packed pds form lent f out)) lent f

-- "the table's exact conditions in demand 1" of the packer, said of the source and of what it would write
abbrev pub PacksExactly : Codec → Type 0
PacksExactly c =
    (pds : List ℕ) (form : Form) (lent : Lent) (f : Source) (out : List ℕ)
    → T (accepted (c.pack pds form lent f out).refusal) ↔ Packable pds form lent f out

pub record Meets (c : Codec) : Type 0 where
  pub replies : RepliesByTable c
  pub keeps : KeepsWhenRefused c
  pub reads : ReadsAll c
  pub points : ValuesAtPoints c
  pub later : LaterStay c
  pub counts : CountsPresent c
  pub back : ReadsBack c
  pub again : WritesBack c
  pub checks : ChecksExactly c
  pub passes : PassesCheck c
  pub packs : PacksExactly c
