-- The record's numbers, two of them as signed fields, and its geometry, call by call.
use mathlib.Core.Path.{ap, ◌∙◌}
use Rattle.rules.specs.Figures.{the_geometry_of}
use Rattle.octets.proofs.Signs.{kept}
use Rattle.records.proofs.forms.grid_back.Goals as goal

pub returns : goal.returns
returns c =
    let g = c.args.g in
    let la1 = kept g.la1 _ c.plain.ensures (record { sfits = c.struct_told-1.given.0.1 }) in
    let lo1 = kept g.lo1 _ c.plain-2.ensures (record { sfits = c.struct_told-2-1.given.1.0.1 }) in
    let y = c.geometry_of.ensures ∙ ap the_geometry_of c.figures_back.ensures in
    λ i. record { ni = g.ni; nj = g.nj; la1 = la1 i; lo1 = lo1 i; flags = g.resolution; scan = g.scan; geometry = y i }
