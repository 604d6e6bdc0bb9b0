-- A part of a slice: its octets, its block and its place.
use mathlib.Core.Path.{◌≡◌, refl}
use native.Mathlib.Omega.{arith}
use Prim.Native.Nat.{◌+◌, ◌-◌}
use borrow.Author.Rules.{rules}
use Rattle.handed_back.proofs.cut.Goals as goal

pub returns : goal.returns
returns c = let a = c.args.a in let n = c.args.n in let e : a + n - a ≡ n = omega arith in record { held = rw e; block = refl; place = search rules }
