-- What the code's kind of a section is in the rules; where it has none, the first of all, as in kind_at.
use Rattle.std.specs.Prelude.{Option, None, Some}
use Rattle.rules.specs.Layouts.{Kind as Layout, latlon, thinned, mercator, lambert, gaussian, polar}
use Rattle.gds.specs.declared.Kind.{Kind}
use Rattle.gds.specs.declared.Kind.TheVariants.{LatLon, Thinned, Mercator, Lambert, Gaussian, Polar}

abbrev pub layout_of : Kind → Layout
layout_of LatLon = latlon
layout_of Thinned = thinned
layout_of Mercator = mercator
layout_of Lambert = lambert
layout_of Gaussian = gaussian
layout_of Polar = polar

abbrev pub kind_or_first : Option Kind → Layout
kind_or_first None = latlon
kind_or_first (Some k) = layout_of k
