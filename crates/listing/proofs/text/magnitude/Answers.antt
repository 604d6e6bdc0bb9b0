-- The magnitude by way of 64 bits (Signs).
use Rattle.listing.proofs.Signs.{cast_fits, sub-fits, taken-fits, taken_is, left-fits, left_is}
use Rattle.listing.proofs.text.magnitude.Goals as goal

pub overflow_cast-m : goal.overflow_cast-m
overflow_cast-m c = cast_fits _ c.ranges.z

pub overflow_sub-m : goal.overflow_sub-m
overflow_sub-m c = sub-fits _ c.ranges.z

pub overflow_cast-result : goal.overflow_cast-result
overflow_cast-result c = taken-fits _ c.ranges.z c.if-z-lt0.true

pub returns-then-z-lt0 : goal.returns-then-z-lt0
returns-then-z-lt0 c = taken_is _ c.ranges.z

pub overflow_cast-result-2 : goal.overflow_cast-result-2
overflow_cast-result-2 c = left-fits _ c.ranges.z c.if-z-lt0.false

pub returns : goal.returns
returns c = left_is _ c.ranges.z
