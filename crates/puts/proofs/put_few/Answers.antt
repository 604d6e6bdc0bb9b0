-- Few octets pass `put_number`'s test of how many.
use mathlib.Core.Path.{◌∙◌}
use native.Mathlib.Omega.{arith}
use Rattle.puts.proofs.Puts.{few-answer, few-left}
use Rattle.puts.proofs.put_few.Goals as goal

pub returns : goal.returns
returns c =
    let f = c.put_number.ensures in
    let a = c.args in record {
      value = f.value ∙ few-answer a.out.now a.p a.k a.c a.x (omega arith);
      out_after = f.out_after ∙ few-left a.out.now a.p a.k a.c a.x (omega arith);
    }
