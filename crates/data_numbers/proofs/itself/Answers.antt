-- A point numbers itself, inside and outside: the test's two cases.
use mathlib.Core.Path.{refl}
use Rattle.bits.proofs.Ones.{count_ones}
use Rattle.data_numbers.specs.Told.{always}
use Rattle.data_numbers.proofs.Laws as L
use Rattle.data_numbers.proofs.itself.Goals as goal

pub returns-then-i-n : goal.returns-then-i-n
returns-then-i-n c = L.here _ _ _ _ c.if-i-n.true refl (count_ones always 0 _ (λ j l. refl))

pub returns : goal.returns
returns c = L.out _ _ _ c.if-i-n.false
