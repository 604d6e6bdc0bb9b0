-- The rows 18, 15, 16 and 17: four returns, the last three each a law of Stages over what the calls promise.
use Rattle.std.proofs.Common.{◌∙◌, sym, ap}
use Rattle.rules.specs.declared.{Scale.Scale}
use Rattle.rules.specs.Table.{any_of, refusal}
use Rattle.rules.specs.Checking.{scale_faults}
use native.Mathlib.Omega.{arith}
use mir.Syntax.{w32}
use mir.Facts.{to_z-of_z}
use Rattle.reply.proofs.Judged.{left_by, let_pass}
use Rattle.laws.proofs.Sources.{well_formed}
use Rattle.message.proofs.Said.{scale_of}
use Rattle.checker.proofs.Rows.{bits_most, data_early, differ-is}
use Rattle.checker.proofs.Stages.{refused_15, refused_16, answer_17, out_of}
use Rattle.checker.proofs.judging.judge.Goals as goal

pub overflow_cast-n : goal.overflow_cast-n
overflow_cast-n c =
    let a = c.args in
    let b18 = sym (c.source_bad.ensures a.d) ∙ let_pass (refusal 18) _ _ c.in_ok-refuse.ensures in
    record { fits = omega (arith, (well_formed _ b18).most) }

pub returns-in_err-refuse-2 : goal.returns-in_err-refuse-2
returns-in_err-refuse-2 c =
    let a = c.args in
    let b18 = sym (c.source_bad.ensures a.d) ∙ let_pass (refusal 18) _ _ c.in_ok-refuse.ensures in
    let t15 = differ-is a.s.now _ _ c.requires a.numbers.now a.marks.now a.d _ (to_z-of_z c.ranges.d) _ _ c.decimal_differs.ensures c.marks_differ-unlike.ensures in
    left_by _ _ c.from_residual-in_err-refuse-2.ensures.1
    ∙ refused_15 a.s.now _ a.numbers.now a.marks.now a.d b18 _ t15 _ c.in_err-refuse-2.ensures

pub returns-in_err-refuse-3 : goal.returns-in_err-refuse-3
returns-in_err-refuse-3 c =
    let a = c.args in
    let b18 = sym (c.source_bad.ensures a.d) ∙ let_pass (refusal 18) _ _ c.in_ok-refuse.ensures in
    let t15 = differ-is a.s.now _ _ c.requires a.numbers.now a.marks.now a.d _ (to_z-of_z c.ranges.d) _ _ c.decimal_differs.ensures c.marks_differ-unlike.ensures in
    let b15 = sym t15 ∙ let_pass (refusal 15) _ _ c.in_ok-refuse-2.ensures in
    let t16 = c.scale_bad.ensures ∙ ap (λ (x : Scale). any_of (scale_faults x)) (scale_of a.s.now _ _ c.requires) in
    left_by _ _ c.from_residual-in_err-refuse-3.ensures.1
    ∙ refused_16 a.s.now _ a.numbers.now a.marks.now a.d b18 b15 _ t16 _ c.in_err-refuse-3.ensures

pub any_far-out-requires-clause-e_le_step_most : goal.any_far-out-requires-clause-e_le_step_most
any_far-out-requires-clause-e_le_step_most c =
    (c.step_of.ensures.0, (bits_most _ _ _ c.requires, data_early _ _ _ c.requires _ c.data_place-from.ensures))

pub any_far-out-requires-clause-numbers_value : goal.any_far-out-requires-clause-numbers_value
any_far-out-requires-clause-numbers_value c =
    let a = c.args in
    let b18 = sym (c.source_bad.ensures a.d) ∙ let_pass (refusal 18) _ _ c.in_ok-refuse.ensures in
    let good = well_formed _ b18 in
    (good.lists, good.most)

pub returns : goal.returns
returns c =
    let a = c.args in
    let b18 = sym (c.source_bad.ensures a.d) ∙ let_pass (refusal 18) _ _ c.in_ok-refuse.ensures in
    let t15 = differ-is a.s.now _ _ c.requires a.numbers.now a.marks.now a.d _ (to_z-of_z c.ranges.d) _ _ c.decimal_differs.ensures c.marks_differ-unlike.ensures in
    let b15 = sym t15 ∙ let_pass (refusal 15) _ _ c.in_ok-refuse-2.ensures in
    let t16 = c.scale_bad.ensures ∙ ap (λ (x : Scale). any_of (scale_faults x)) (scale_of a.s.now _ _ c.requires) in
    let p16 = let_pass (refusal 16) _ _ c.in_ok-refuse-3.ensures in
    let r = to_z-of_z {w = w32} {z = c.whole_of.result} (record { sfits = c.whole_of.type_inv }) ∙ c.whole_of.ensures in
    answer_17 a.s.now _ a.numbers.now a.marks.now a.d b18 b15 (sym t16 ∙ p16) _
    (out_of a.s.now _ a.numbers.now a.marks.now a.d b18 b15 _ c.requires (sym c.scale_bad.ensures ∙ p16) _ r _ c.step_of.ensures.1 _ c.data_place-from.ensures _ c.any_far-out.ensures) _
    c.refuse-4.ensures
