-- A decimal, and a letter.
use native.Mathlib.Omega.{arith}
use Rattle.listing.proofs.Writes.{wrote_next}
use Rattle.listing.proofs.Digits.{decimal-most}
use Rattle.listing.proofs.text.number.Goals as goal

pub letter-requires : goal.letter-requires
letter-requires c = omega (arith, decimal-most c.args.n)

pub returns : goal.returns
returns c =
    let m = decimal-most c.args.n in (
      wrote_next c.decimal-next.ensures
          c.letter.ensures (omega arith),
      omega arith,
    )
