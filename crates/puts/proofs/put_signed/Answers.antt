-- A magnitude below half is spelled by a number that fits its octets.
use mathlib.Core.Path.{sym, ◌∙◌}
use borrow.Author.Tests.{ltb-true, ltb-false}
use native.Mathlib.Omega.{arith}
use mir.Facts.{to_z-of_z}
use Rattle.puts.proofs.Puts.{signed-answer, signed-left, unsigned_answer, unsigned_left}
use Rattle.puts.proofs.put_signed.Goals as goal

pub returns-then-small : goal.returns-then-small
returns-then-small c =
    let a = c.args in
    let j = simp (to_z-of_z c.ranges.z) at c.small.ensures in
    let s = simp (to_z-of_z c.ranges.z) at c.spell.ensures in
    let y = ltb-true _ _ (sym j ∙ c.if-small.true) in record {
      value = c.put_few.ensures.value
          ∙ signed-answer a.out.now a.p a.k a.c a.half a.z c.requires.half_value.0 (omega arith) y _ s;
      out_after = c.put_few.ensures.out_after
          ∙ signed-left a.out.now a.p a.k a.c a.half a.z c.requires.half_value.0 (omega arith) y _ s;
    }

pub returns : goal.returns
returns c =
    let a = c.args in
    let j = simp (to_z-of_z c.ranges.z) at c.small.ensures in
    let n = ltb-false _ _ (sym j ∙ c.if-small.false) in record {
      value = unsigned_answer a.out.now a.p a.k a.c a.half a.z c.requires.half_value.0 n;
      out_after = unsigned_left a.out.now a.p a.k a.c a.half a.z c.requires.half_value.0 n;
    }
