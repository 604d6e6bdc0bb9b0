-- The values before value k, from where they begin.
use Prim.Native.Nat.{◌*◌}
use mathlib.Core.Path.{◌∙◌, ap}
use Rattle.bitreader.specs.Taken.{reached, the_value_place}
use Rattle.bitreader.proofs.value_place.Goals as goal

pub returns : goal.returns
unfolding the_value_place
returns c =
    let a = c.args in
    c.reached.ensures ∙ ap (λ at. reached at (a.k * a.n)) c.data_place.ensures
