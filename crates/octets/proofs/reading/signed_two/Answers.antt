-- What `signed` makes of the field, handed on in 32 bits.
use Rattle.octets.proofs.Signs.{back}
use mathlib.Core.Path.{ap, ◌∙◌}
use Rattle.rules.specs.Numbers.{plain, signed}
use Rattle.octets.proofs.reading.signed_two.Goals as goal

pub returns : goal.returns
unfolding signed
returns c =
    c.plain.ensures
    ∙ ap plain (back 32768 _ _ _ c.two.ensures c.signed.ensures c.signed.type_inv)
