-- What is answered: a reply beside what it gives, since "Every other reply returns its number with all counts and
-- fields zero". Code answers the same as a Result: Ok with what was found, or Err with the reply that refuses, beside
-- which nothing stands.
use Rattle.std.specs.Prelude.{ℕ, cond, List, [], ◌∷◌, Result, Ok, Err, Float}
use Rattle.rules.specs.declared.{Refusal.Refusal, Places.Places, Moment.Moment, Signed.Signed, Grid.Grid, Bitmap.Bitmap}
use Rattle.rules.specs.declared.{Packing.Packing, Scale.Scale, Header.Header as Said, Display.Display as Shown}
use Rattle.rules.specs.Table.{Row, given, accepted}

-- the reply to a message, and what it says
pub record Header : Type 0 where
  pub refusal : Refusal
  pub places : Places
  pub time : Moment
  pub d : Signed
  pub grid : Grid
  pub points : ℕ
  pub bitmap : Bitmap
  pub present : ℕ
  pub packing : Packing
  pub scale : Scale

-- to what is to be written, and how many octets the message has
pub record Written : Type 0 where
  pub refusal : Refusal
  pub len : ℕ

-- to the filling of an index, and how many entries it took
pub record Indexed : Type 0 where
  pub refusal : Refusal
  pub entries : ℕ

-- to a message that is to be shown, and R and 2^E as doubles
pub record Display : Type 0 where
  pub refusal : Refusal
  pub reference : Float
  pub step : Float

-- what was found, or the reply that refuses
abbrev pub replied : {A : Type 0} → Refusal → A → Result A Refusal
replied r found = cond (accepted r) (Ok found) (Err r)

-- what a message says, without its reply
abbrev pub said_by : Header → Said
said_by h = record {
  places = h.places;
  time = h.time;
  d = h.d;
  grid = h.grid;
  points = h.points;
  bitmap = h.bitmap;
  present = h.present;
  packing = h.packing;
  scale = h.scale;
}

abbrev pub header_reply : Header → Result Said Refusal
header_reply h = replied h.refusal (said_by h)

abbrev pub length_reply : Written → Result ℕ Refusal
length_reply w = replied w.refusal w.len

abbrev pub entries_reply : Indexed → Result ℕ Refusal
entries_reply i = replied i.refusal i.entries

abbrev pub display_reply : Display → Result Shown Refusal
display_reply d = replied d.refusal (record { reference = d.reference; step = d.step })

abbrev pub check_reply : Refusal → Result (Unit {0}) Refusal
check_reply r = replied r tt

-- the reply of a table: Err with the refusal of the first row that applies, and Ok where none does
unfoldable pub judged : List Row → Result (Unit {0}) Refusal
judged [] = Ok tt
judged (given r test ∷ rows) = let rest = judged rows in cond test (Err r) rest
