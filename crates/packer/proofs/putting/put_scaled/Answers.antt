-- X at present points: of every number where all are present (law every-is), else a block of points at a time.
use mathlib.Core.Path.{◌≡◌, ap, ◌∙◌}
use mathlib.Core.List.{List}
use Prim.Native.Nat.{ℕ}
use native.Mathlib.Omega.{arith}
use borrow.Author.Rules.{rules}
use lib.ListN.{length}
use mir.Syntax.{w32}
use mir.Val.{to_z, of_z}
use Rattle.bits.specs.Bits.{count, packed_into}
use Rattle.rules.specs.Bitmap.{mark_of}
use Rattle.packer.proofs.Stepped.{every-wide, every-is, listed_back, packed-back}
use Rattle.packer.proofs.putting.put_scaled.Goals as goal

pub put_every-requires-clause-by_index : goal.put_every-requires-clause-by_index
put_every-requires-clause-by_index c =
    let a = c.args in
    let r = a.choice.reference in
    let p = listed_back a.numbers.now a.marks.now r a.choice.exponent (search rules) a.bits c.requires.listed in
    let all : length a.numbers.now ≡ count (mark_of a.marks.now) 0 (length a.numbers.now) = omega (arith, c.requires.m_value) in
    every-wide a.numbers.now a.marks.now (to_z w32 (of_z w32 r)) a.choice.exponent a.bits p all

pub returns-then-m-numbers : goal.returns-then-m-numbers
returns-then-m-numbers c =
    let a = c.args in
    let r = a.choice.reference in
    let p = listed_back a.numbers.now a.marks.now r a.choice.exponent (search rules) a.bits c.requires.listed in
    let all : length a.numbers.now ≡ count (mark_of a.marks.now) 0 (length a.numbers.now) = omega (arith, c.requires.m_value) in
    c.put_every.ensures
    ∙ ap (λ (x : List ℕ). packed_into a.bits x a.out.now)
    (every-is a.numbers.now a.marks.now (to_z w32 (of_z w32 r)) a.choice.exponent a.bits p all)
    ∙ packed-back a.numbers.now a.marks.now r a.choice.exponent (search rules) a.bits (length a.numbers.now) a.out.now
