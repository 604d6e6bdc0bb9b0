-- The packer: four returns, each one law of Packed over what the calls promise.
use Rattle.std.proofs.Common.{◌∙◌, ap}
use Rattle.std.specs.Prelude.{Err}
use native.Mathlib.Omega.{arith}
use mir.Syntax.{w32}
use mir.Facts.{to_z-of_z, to_z_pos}
use Rattle.reply.proofs.Judged.{left_by}
use Rattle.source.specs.Whole.{spelling_from}
use Rattle.rules.specs.Numbers.{plain}
use Rattle.packer.proofs.Packed as P
use Rattle.packer.proofs.pack.Goals as goal

pub returns-in_err-judge_source : goal.returns-in_err-judge_source
returns-in_err-judge_source c =
    let a = c.args in
    let s = P.source-same a.pds.now a.form.packing a.numbers.now a.marks.now a.d c.ranges.d _ c.in_err-judge_source.ensures in
    let r = P.pack-early a.pds.now a.form a.number a.store.now a.numbers.now a.marks.now a.d a.out.now _ s in
    record { value = left_by _ _ c.from_residual.ensures.1 ∙ r.0; out_after = r.1 }

pub returns-then-e : goal.returns-then-e
returns-then-e c =
    let a = c.args in
    let s = P.source-same a.pds.now a.form.packing a.numbers.now a.marks.now a.d c.ranges.d _ c.in_ok-judge_source.ensures in
    let g = c.choose-choice.ensures a.d in
    let r = P.pack_19 a.pds.now a.form a.number a.store.now a.numbers.now a.marks.now a.d a.out.now _ s _ g.1 (omega (arith, c.if-e.true)) in
    record { value = ap Err c.refusal.ensures ∙ r.0; out_after = r.1 }

pub write_scaled-requires : goal.write_scaled-requires
write_scaled-requires c =
    let a = c.args in
    let s = P.source-same a.pds.now a.form.packing a.numbers.now a.marks.now a.d c.ranges.d _ c.in_ok-judge_source.ensures in
    let g = c.choose-choice.ensures a.d in
    P.listed a.pds.now a.form a.number a.store.now a.numbers.now a.marks.now a.d a.out.now _ s _ g.1 c.if-e.false _ g.0

pub returns : goal.returns
returns c =
    let a = c.args in
    let s = P.source-same a.pds.now a.form.packing a.numbers.now a.marks.now a.d c.ranges.d _ c.in_ok-judge_source.ensures in
    let g = c.choose-choice.ensures a.d in
    let v = c.plain.ensures ∙ ap plain (to_z_pos w32 {n = c.choose-choice.result.exponent} (omega arith)) in
    let q = c.spelling.ensures ∙ ap spelling_from (to_z-of_z {w = w32} {z = c.choose-choice.result.reference} (record { sfits = c.struct_told-1.given.0.1 })) in
    let r = P.pack-done a.pds.now a.form a.number a.store.now a.numbers.now a.marks.now a.d a.out.now _ s _ g.1 c.if-e.false _ g.0 _ v q _ c.write_scaled.ensures.value _ c.write_scaled.ensures.out_after in
    record { value = r.0; out_after = r.1 }
