-- Four octets stored at each place reach at most four past the data, which are put back.
use mathlib.Core.Path.{◌≡◌, ap, ap₂, ◌∙◌}
use mathlib.Core.List.{List}
use Rattle.bits.specs.Bits.{bits_in, run, number_at, octets_for}
use Rattle.bits.proofs.Placed.{pack-none}
use Rattle.packs.proofs.Over.{restored}
use native.Mathlib.Omega.{arith}
use Prim.Native.Nat.{ℕ, ◌+◌, ◌-◌, ◌*◌}
use lib.ListN.{length}
use Rattle.packs.proofs.packing.pack_all.Goals as goal

pub returns-then-out-end-ge4 : goal.returns-then-out-end-ge4
returns-then-out-end-ge4 c =
    let a = c.args in
    let z : (octets_for (length a.vs.now * a.n) + (1 - 1)) * 8 ≡ octets_for (length a.vs.now * a.n) * 8 = omega arith in
    c.store.ensures
    ∙ ap₂ (λ (x : List ℕ) (y : ℕ). number_at x (octets_for (length a.vs.now * a.n)) 4 y)
    c.pack_over.ensures
    (c.four-after.ensures ∙ ap (λ (x : ℕ). run (bits_in 8 a.out.now) x 32) z)
    ∙ restored a.n a.vs.now a.out.now (omega arith) (λ i. (c.slice_known-1.given i).fits) (omega arith)

pub returns-else-out-end-ge4 : goal.returns-else-out-end-ge4
returns-else-out-end-ge4 c =
    let a = c.args in
    c.pack_rest.ensures a.out.now (pack-none a.n a.vs.now a.out.now)
