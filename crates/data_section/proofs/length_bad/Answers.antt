-- Refusal 12: the products fit, then call by call.
use Rattle.bits.proofs.Products.{product}
use Rattle.rules.specs.Values.{the_length_bad}
use native.Mathlib.Omega.{arith}
use Prim.Native.Nat.{◌<◌, ◌*◌}
use Rattle.data_section.proofs.length_bad.Goals as goal

pub overflow_mul-result-2 : goal.overflow_mul-result-2
overflow_mul-result-2 c = let m = c.args.m in let b = c.args.p.bits in let h : m * b < 1099511627776 = product 4294967295 255 1099511627776 tt m b (omega arith) (omega arith) in record { fits = omega arith }

pub overflow_add-result : goal.overflow_add-result
overflow_add-result c = let m = c.args.m in let b = c.args.p.bits in let h : m * b < 1099511627776 = product 4294967295 255 1099511627776 tt m b (omega arith) (omega arith) in omega arith

pub returns : goal.returns
unfolding the_length_bad
returns c = rw (c.less.ensures, c.octet-unused.ensures)
