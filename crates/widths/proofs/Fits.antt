-- Whether a number has no more than n bits, as the machine tests it.
use mathlib.Core.Path.{◌≡◌, sym}
use mathlib.Core.Bool.{true}
use Prim.Native.Nat.{ℕ, ◌^◌, ◌≤◌, ◌<◌}
use native.Mathlib.Nat.{lt_of_lt_of_le}
use lib.Dec.{ltb}
use lib.Pow.{pow_mono}
use borrow.Author.Tests.{lt-ltb}

pub below-every : (v n : ℕ) → v < 2 ^ 32 → 32 ≤ n → true ≡ ltb v (2 ^ n)
below-every v n h l = sym (lt-ltb v (2 ^ n) (lt_of_lt_of_le h (pow_mono l)))
