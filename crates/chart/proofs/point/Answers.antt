-- Both counts stay below their bounds, so the products fit; then the flags, call by call.
use Rattle.chart.proofs.Laws.{columns-fit, rows_fit}
use native.Mathlib.Omega.{arith}
use Prim.Native.Nat.{◌%◌}
use mathlib.Core.Path.{◌≡◌, sym, ◌∙◌}
use mathlib.Core.Bool.{true, false}
use borrow.Author.Tests.{le-leb, lt-leb}
use Rattle.rules.specs.Chart.{point_of}
use Rattle.rules.specs.Numbers.{bit}
use Rattle.laws.proofs.Flags.{bit_1, bit_2, bit_3}
use Rattle.chart.proofs.point.Goals as goal

pub overflow_mul-result : goal.overflow_mul-result
overflow_mul-result c =
    let r = c.requires in
    let t = columns-fit _ _ _ _ _ _ _ _ c.turned-j.ensures c.turned-i.ensures r.row_lt_nj r.column_lt_ni (omega arith) (omega arith) in
    record { fits = t.0 }

pub overflow_add-result : goal.overflow_add-result
overflow_add-result c =
    let r = c.requires in
    let t = columns-fit _ _ _ _ _ _ _ _ c.turned-j.ensures c.turned-i.ensures r.row_lt_nj r.column_lt_ni (omega arith) (omega arith) in
    record { fits = t.1 }

pub overflow_mul-result-else-scan-ge32 : goal.overflow_mul-result-else-scan-ge32
overflow_mul-result-else-scan-ge32 c =
    let r = c.requires in
    let t = rows_fit _ _ _ _ _ _ _ _ c.turned-j.ensures c.turned-i.ensures r.row_lt_nj r.column_lt_ni (omega arith) (omega arith) in
    record { fits = t.0 }

pub overflow_add-result-else-scan-ge32 : goal.overflow_add-result-else-scan-ge32
overflow_add-result-else-scan-ge32 c =
    let r = c.requires in
    let t = rows_fit _ _ _ _ _ _ _ _ c.turned-j.ensures c.turned-i.ensures r.row_lt_nj r.column_lt_ni (omega arith) (omega arith) in
    record { fits = t.1 }

pub returns-then-scan-ge32 : goal.returns-then-scan-ge32
unfolding point_of
returns-then-scan-ge32 c =
    let scan = c.args.scan in
    let b : bit 3 scan ≡ true = sym (bit_3 scan) ∙ le-leb 32 (scan % 64) c.if-scan-ge32.true in
    rw (c.turned-i.ensures, c.turned-j.ensures, bit_1 scan (omega arith), bit_2 scan, b)

pub returns-else-scan-ge32 : goal.returns-else-scan-ge32
unfolding point_of
returns-else-scan-ge32 c =
    let scan = c.args.scan in
    let b : bit 3 scan ≡ false = sym (bit_3 scan) ∙ lt-leb 32 (scan % 64) c.if-scan-ge32.false in
    rw (c.turned-i.ensures, c.turned-j.ensures, bit_1 scan (omega arith), bit_2 scan, b)
