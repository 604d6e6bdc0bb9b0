-- By the flag.
use Prim.Native.Nat.{◌%◌}
use mathlib.Core.Path.{◌≡◌, sym, ◌∙◌}
use mathlib.Core.Bool.{true, false}
use borrow.Author.Rules.{rules}
use borrow.Author.Tests.{le-leb, lt-leb}
use Rattle.rules.specs.Numbers.{bit}
use Rattle.rules.specs.Grid.{the_scan_bad}
use Rattle.laws.proofs.Flags.{bit_2}
use Rattle.grid.proofs.scan_bad.Goals as goal
use Rattle.grid.proofs.scan_bad.Goals.{then-scan-ge64, else-scan-ge64}

pub returns : goal.returns
unfolding the_scan_bad
returns c =
    let scan = c.args.scan in
    elim c.if-scan-ge64.branch [
      | then-scan-ge64 w ↦
          let b : bit 2 scan ≡ true = sym (bit_2 scan) ∙ le-leb 64 (scan % 128) w.if-scan-ge64.true in
          rw (w.in_order-is, b) (search rules)
      | else-scan-ge64 w ↦
          let b : bit 2 scan ≡ false = sym (bit_2 scan) ∙ lt-leb 64 (scan % 128) w.if-scan-ge64.false in
          rw (w.in_order-is, b) (search rules)
    ]
