-- Of a signed field: that its magnitude leaves the sign bit free.
use Rattle.std.specs.Prelude.{ℕ, ◌<◌, nat_abs}
use Rattle.rules.specs.declared.{Signed.Signed}
use Rattle.rules.specs.Numbers.{sign}

-- of a field of c octets
abbrev pub SignFree : ℕ → Signed → Type 0
SignFree c z = nat_abs z.value < sign c
