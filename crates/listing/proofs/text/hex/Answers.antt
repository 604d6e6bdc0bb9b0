-- Eight digits to the base 16, and a letter.
use native.Mathlib.Omega.{arith}
use Rattle.listing.proofs.Writes.{wrote_next}
use Rattle.listing.proofs.Digits.{hex_done, length-numeral}
use Rattle.listing.proofs.text.hex.Goals as goal

pub letter-requires : goal.letter-requires
letter-requires c = omega (arith, length-numeral 16 8 c.args.n)

pub returns : goal.returns
returns c =
    let m = length-numeral 16 8 c.args.n in (
      wrote_next (hex_done _ _ _ _ _ c.numeral-next.ensures)
          c.letter.ensures (omega arith),
      omega arith,
    )
