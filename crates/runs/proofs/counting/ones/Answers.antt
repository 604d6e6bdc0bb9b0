-- Whole octets, and the bits left over under a mask: the two counts join.
use native.Mathlib.Omega.{arith}
use mathlib.Core.Path.{◌≡◌, sym, ap, ap₂, ◌∙◌}
use Prim.Native.Nat.{ℕ, ◌+◌, ◌*◌, ◌-◌, ◌/◌, ◌%◌, ◌^◌}
use native.Mathlib.Nat.{div-add-mod'}
use lib.Pow.{pow_mono}
use lib.Count.{ones}
use lib.Bits.{bit_and}
use Rattle.bits.specs.Bits.{bits_in, count}
use Rattle.bits.proofs.Runs.{bits_in-bits, one_shl}
use Rattle.bits.proofs.Ones.{count-le, count-split, ones_mask}
use Rattle.runs.proofs.counting.ones.Goals as goal

pub overflow_sub-mask-2 : goal.overflow_sub-mask-2
overflow_sub-mask-2 c =
    let q = 8 - c.args.n % 8 in
    rw (one_shl 32 q (omega arith)) (pow_mono {j = 8} (omega arith))

whole : (c : goal.After-at) →
    let a = c.args in
    c.ones_whole.result + ones (bit_and c.at.result (256 - 1 * 2 ^ (8 - a.n % 8) % 2 ^ 32))
    ≡ count (bits_in 8 a.s.now) (a.p * 8) a.n
whole c =
    let a = c.args in
    let f = bits_in 8 a.s.now in
    let h = c.at.ensures in
    let p : (a.p + a.n / 8) * 8 ≡ a.p * 8 + a.n / 8 * 8 = omega arith in
    ap₂ (λ (x y : ℕ). x + ones (bit_and c.at.result (256 - y))) c.ones_whole.ensures
    (one_shl 32 (8 - a.n % 8) (omega arith))
    ∙ ap (λ (x : ℕ). count f (a.p * 8) (a.n / 8 * 8) + ones (bit_and x (256 - 2 ^ (8 - a.n % 8)))) h
    ∙ ap (λ (x : ℕ). count f (a.p * 8) (a.n / 8 * 8) + x)
    (ones_mask a.s.now (a.p + a.n / 8) (a.n % 8) (omega arith) (omega arith)
    ∙ ap (λ (x : ℕ). count f x (a.n % 8)) p)
    ∙ sym (count-split f (a.p * 8) (a.n / 8 * 8) (a.n % 8)) ∙ ap (count f (a.p * 8)) (div-add-mod' a.n 8)

pub overflow_add-result : goal.overflow_add-result
overflow_add-result c =
    let a = c.args in
    omega (arith, whole c, count-le (bits_in-bits 8 a.s.now) (a.p * 8) a.n)

pub returns : goal.returns
returns c = whole c
