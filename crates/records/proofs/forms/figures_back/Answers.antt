-- The record's figures, seven of them as signed fields, call by call.
use Rattle.octets.proofs.Signs.{kept}
use Rattle.records.proofs.forms.figures_back.Goals as goal

pub returns : goal.returns
returns c =
    let g = c.args.g in
    let la2 = kept g.la2 _ c.plain.ensures (record { sfits = c.struct_told-1.given.1.1.0.1 }) in
    let lo2 = kept g.lo2 _ c.plain-2.ensures (record { sfits = c.struct_told-2-1.given.1.1.1.0.1 }) in
    let lov = kept g.lov _ c.plain-3.ensures (record { sfits = c.struct_told-3-1.given.1.1.1.1.0.1 }) in
    let latin1 = kept g.latin1 _ c.plain-4.ensures (record { sfits = c.struct_told-4-1.given.1.1.1.1.1.0.1 }) in
    let latin2 = kept g.latin2 _ c.plain-5.ensures (record { sfits = c.struct_told-5-1.given.1.1.1.1.1.1.0.1 }) in
    let la = kept g.pole_la _ c.plain-6.ensures (record { sfits = c.struct_told-6-1.given.1.1.1.1.1.1.1.0.1 }) in
    let lo = kept g.pole_lo _ c.plain-7.ensures (record { sfits = c.struct_told-7-1.given.1.1.1.1.1.1.1.1.0.1 }) in
    λ i. record {
      kind = g.kind;
      rows = g.rows;
      la2 = la2 i;
      lo2 = lo2 i;
      di = g.di;
      dj = g.dj;
      dx = g.dx;
      dy = g.dy;
      lov = lov i;
      latin1 = latin1 i;
      latin2 = latin2 i;
      pole_la = la i;
      pole_lo = lo i;
      centre = g.centre;
      circles = g.circles;
    }
