-- What `signed` makes of the field, handed on in 32 bits.
use Rattle.octets.proofs.Numbers.{three-lt}
use Rattle.octets.proofs.Signs.{back}
use mathlib.Core.Path.{ap, ◌∙◌}
use Rattle.rules.specs.Numbers.{plain, signed}
use Rattle.octets.proofs.reading.signed_three.Goals as goal

pub signed-requires-clause-v_bound : goal.signed-requires-clause-v_bound
signed-requires-clause-v_bound c = three-lt _ _ _ c.three.ensures

pub returns : goal.returns
unfolding signed
returns c =
    c.plain.ensures
    ∙ ap plain
    (back 8388608 _ _ _ c.three.ensures c.signed.ensures c.signed.type_inv)
