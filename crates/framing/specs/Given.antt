-- The writer's arguments as the parts that document 01's definitions take.
use Rattle.std.specs.Prelude.{ℕ, List}
use Rattle.rules.specs.declared.{Form.Form, Scale.Scale}
use Rattle.rules.specs.Writing.{Parts}

abbrev pub parts : List ℕ → Form → Scale → ℕ → List ℕ → List ℕ → List ℕ → Parts
parts pds form scale number store values marks = record {
  pds = pds;
  form = form;
  scale = scale;
  lent = record { number = number; octets = store };
  values = values;
  marks = marks;
}
