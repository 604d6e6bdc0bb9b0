-- Laws steps_part and every_more. R is as code hands it on.
use mathlib.Core.Path.{◌≡◌, sym, ap, subst, ◌∙◌}
use Prim.Native.Nat.{ℕ, ◌+◌, ◌-◌, ◌*◌, ◌/◌, ◌≤◌}
use native.Mathlib.Omega.{arith}
use borrow.Author.Rules.{rules}
use lib.IntN.{ℤ}
use lib.ListN.{length, take, drop, length-drop}
use lib.Seq.{length-take-le}
use mir.Syntax.{w32}
use mir.Val.{to_z, of_z}
use mir.Facts.{to_z-of_z}
use Rattle.bits.specs.Bits.{octets_for, packed_into, Wide}
use Rattle.bits.specs.Tables.{tab}
use Rattle.steps.specs.Steps.{step_of}
use Rattle.steps.proofs.Near.{steps_part}
use Rattle.blocks.specs.Passed.{Passed}
use Rattle.blocks.proofs.Passing.{every-none, every-place, every_more, every-last}
use Rattle.packer.proofs.putting.put_every.Goals as goal

pub loop-b-init : goal.loop-b-init
loop-b-init c =
    let a = c.args in
    let ref = to_z w32 (of_z w32 a.r) in
    let f = step_of a.numbers.now ref a.e in
    let N = length a.numbers.now in
    let wide : Wide a.bits (tab f N) = subst (λ (x : ℤ). Wide a.bits (tab (step_of a.numbers.now x a.e) N)) (sym (to_z-of_z {w = w32} {z = a.r} (search rules))) c.requires.by_index in
    let room : octets_for (N * a.bits) ≤ length a.out.now = omega (arith, c.requires.bits_in_bounds) in
    every-none a.bits f N c.requires.bits_le_bits_most wide a.out.now room a.held.now (search rules)

pub overflow_add-place : goal.overflow_add-place
overflow_add-place c =
    let a = c.args in
    let ref = to_z w32 (of_z w32 a.r) in
    let f = step_of a.numbers.now ref a.e in
    let N = length a.numbers.now in
    let wide : Wide a.bits (tab f N) = subst (λ (x : ℤ). Wide a.bits (tab (step_of a.numbers.now x a.e) N)) (sym (to_z-of_z {w = w32} {z = a.r} (search rules))) c.requires.by_index in
    let room : octets_for (N * a.bits) ≤ length a.out.now = omega (arith, c.requires.bits_in_bounds) in
    let l = c.loop-b in
    let i = l.b * 256 in
    let x = c.scale.new.xs in
    let inside : i + 256 ≤ N = omega arith in
    let z : length x ≡ 512 = c.scale.auto.xs ∙ l.invariant.size in
    let t = every_more a.bits f N c.requires.bits_le_bits_most wide a.out.now room i l.place l.held x l.out _ inside l.invariant z
    (steps_part a.numbers.now ref a.e i 256 (i + 256 - i) l.held x (omega arith) inside (omega (arith, l.invariant.size)) c.scale.ensures)
    c.put_last.ensures.out_after in
    let e = every-place a.bits f N c.requires.bits_le_bits_most wide a.out.now room (i + 256) _ _ _ inside t in
    omega (arith, e)

pub loop-b-preserved : goal.loop-b-preserved
loop-b-preserved c =
    let a = c.args in
    let ref = to_z w32 (of_z w32 a.r) in
    let f = step_of a.numbers.now ref a.e in
    let N = length a.numbers.now in
    let wide : Wide a.bits (tab f N) = subst (λ (x : ℤ). Wide a.bits (tab (step_of a.numbers.now x a.e) N)) (sym (to_z-of_z {w = w32} {z = a.r} (search rules))) c.requires.by_index in
    let room : octets_for (N * a.bits) ≤ length a.out.now = omega (arith, c.requires.bits_in_bounds) in
    let l = c.loop-b in
    let i = l.b * 256 in
    let x = c.scale.new.xs in
    let inside : i + 256 ≤ N = omega arith in
    let z : length x ≡ 512 = c.scale.auto.xs ∙ l.invariant.size in
    let t = every_more a.bits f N c.requires.bits_le_bits_most wide a.out.now room i l.place l.held x l.out _ inside l.invariant z
    (steps_part a.numbers.now ref a.e i 256 (i + 256 - i) l.held x (omega arith) inside (omega (arith, l.invariant.size)) c.scale.ensures)
    c.put_last.ensures.out_after in
    let s : i + 256 ≡ (l.b + 1) * 256 = omega arith in
    subst (λ (k : ℕ). Passed a.bits (tab f k) a.out.now (record { place = l.place + a.bits * 32; held = 0 }) x c.put_last.new.out) s t

pub returns : goal.returns
returns c =
    let a = c.args in
    let ref = to_z w32 (of_z w32 a.r) in
    let f = step_of a.numbers.now ref a.e in
    let N = length a.numbers.now in
    let wide : Wide a.bits (tab f N) = subst (λ (x : ℤ). Wide a.bits (tab (step_of a.numbers.now x a.e) N)) (sym (to_z-of_z {w = w32} {z = a.r} (search rules))) c.requires.by_index in
    let room : octets_for (N * a.bits) ≤ length a.out.now = omega (arith, c.requires.bits_in_bounds) in
    let l = c.loop-b in
    let i = N / 256 * 256 in
    let x = c.scale-2.new.xs in
    let rest = take (N - i) (drop i a.numbers.now) in
    let k : length rest ≡ N - i = length-take-le (N - i) (drop i a.numbers.now) (omega (arith, length-drop i a.numbers.now)) in
    let s : l.b * 256 ≡ i = omega arith in
    let q = subst (λ (j : ℕ). Passed a.bits (tab f j) a.out.now (record { place = l.place; held = 0 }) l.held l.out) s l.invariant in
    let z : length x ≡ 512 = c.scale-2.auto.xs ∙ l.invariant.size in
    every-last a.bits f N c.requires.bits_le_bits_most wide a.out.now room i (length rest) l.place l.held x l.out _
    (omega (arith, k)) (omega (arith, k)) q z
    (steps_part a.numbers.now ref a.e i (length rest) (N - i) l.held x (sym k) (omega (arith, k)) (omega (arith, k, l.invariant.size)) c.scale-2.ensures)
    c.put_last-2.ensures.out_after
    ∙ ap (λ (y : ℤ). packed_into a.bits (tab (step_of a.numbers.now y a.e) N) a.out.now) (to_z-of_z {w = w32} {z = a.r} (search rules))
