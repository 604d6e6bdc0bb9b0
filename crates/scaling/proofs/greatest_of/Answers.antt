use mathlib.Core.Path.{◌∙◌}
use Prim.Native.Nat.{◌<◌, ◌^◌}
use borrow.Author.Rules.{rules}
use native.Mathlib.Numerals.{add-one}
use native.Mathlib.Omega.{arith}
use lib.IntN.{pos}
use lib.Signed.{mag}
use lib.ListN.{get_or}
use mir.Syntax.{w32}
use mir.Facts.{to_z-of_z}
use Rattle.bits.proofs.Below.{upto}
use Rattle.scaling.specs.Spread.{greater_of}
use Rattle.scaling.proofs.Folded.{fold_none, fold_next}
use Rattle.scaling.proofs.greatest_of.Goals as goal

pub loop-v-init : goal.loop-v-init
loop-v-init c = record { greatest = fold_none _ _ _; by_index = λ j l. absurd (omega arith) }

pub loop-v-preserved : goal.loop-v-preserved
loop-v-preserved c =
    let l = c.loop-v in
    let a = c.args in
    record {
      greatest = to_z-of_z {w = w32} {z = c.max-greatest.result} (search rules)
          ∙ fold_next greater_of _ (λ j. get_or a.numbers.now j (pos 0)) l.v-index _ _ _
          (to_z-of_z {w = w32} {z = get_or a.numbers.now l.v-index (pos 0)} (search rules)) l.invariant.greatest c.max-greatest.ensures.value;
      by_index = rw add-one
          (upto (λ j. mag (get_or a.numbers.now j (pos 0)) < 2 ^ 31) l.v-index l.invariant.by_index (search rules));
    }
