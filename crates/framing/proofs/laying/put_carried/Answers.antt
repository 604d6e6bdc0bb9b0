-- A BMS whose bits follow: its fields and then its marks (law carried-placed).
use mathlib.Core.Path.{refl}
use Rattle.framing.proofs.Sections.{carried-placed}
use native.Mathlib.Omega.{arith}
use Rattle.framing.proofs.laying.put_carried.Goals as goal

pub returns : goal.returns
returns c =
    let a = c.args in
    carried-placed a.out.now a.marks.now a.b _ _ _
    c.carried_room-len.ensures refl (omega arith) _ _
    c.put_bms.ensures c.put.ensures.out_after
