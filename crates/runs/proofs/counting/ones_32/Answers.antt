-- Four words of eight octets, whose counts join.
use Rattle.runs.proofs.Tallies.{then}
use Rattle.runs.proofs.counting.ones_32.Goals as goal

pub returns : goal.returns
returns c =
    let a = c.args in
    let two = then a.s.now a.p 8 64 _ _ c.reversed8.ensures c.reversed8-2.ensures in
    let three = then a.s.now a.p 16 64 _ _ two c.reversed8-3.ensures in
    then a.s.now a.p 24 64 _ _ three c.reversed8-4.ensures
