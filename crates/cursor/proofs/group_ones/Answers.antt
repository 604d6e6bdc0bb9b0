-- Of a whole group the size is 256.
use mathlib.Core.Path.{◌∙◌, sym, ap}
use Prim.Native.Nat.{◌*◌}
use Rattle.bits.specs.Bits.{bits_in, count}
use Rattle.cursor.proofs.group_ones.Goals as goal

pub returns-then-size-eq256 : goal.returns-then-size-eq256
returns-then-size-eq256 c =
    let a = c.args in
    c.ones_256.ensures ∙ sym (ap (count (bits_in 8 a.s.now) (a.p * 8)) c.if-size-eq256.true)
