-- Four octets, the last one first: their ones, by the law of one octet more.
use mathlib.Core.Path.{ap, ap₂, ◌∙◌}
use lib.Count.{ones}
use native.Mathlib.Omega.{arith}
use Prim.Native.Nat.{ℕ, ◌+◌, ◌*◌}
use Rattle.runs.proofs.Tallies.{four-ones}
use Rattle.runs.proofs.words.reversed.Goals as goal

pub returns : goal.returns
returns c =
    let w4 = c.wide-4 in
    let w3 = c.wide-3 in
    let w2 = c.wide-2 in (
      ap ones
          (ap₂ (λ (x y : ℕ). x * 256 + y)
          (ap₂ (λ (x y : ℕ). x * 256 + y) (ap₂ (λ (x y : ℕ). x * 256 + y) c.wide.ensures.0 w2.ensures.0)
          w3.ensures.0) w4.ensures.0)
          ∙ four-ones c.args.s.now c.args.k (λ i. (c.shared_slice_known-1.given i).fits),
      omega arith,
    )
