-- What a caller knows of the places reached: in a message they are sums, and many numbers that fit move the place on.
use Rattle.std.specs.Prelude.{Some}
use mathlib.Core.Path.{◌≡◌, refl, ap, ◌∙◌}
use mathlib.Core.Bool.{Bool, cond}
use Prim.Native.Nat.{ℕ, ◌+◌, ◌*◌, ◌≤◌}
use native.Mathlib.Nat.{zero-add}
use native.Mathlib.Omega.{arith}
use borrow.Author.Tests.{le-leb}
use Rattle.rules.specs.Bounds.{bds_head}
use Rattle.runs.specs.Take.{unpack_fits}
use Rattle.bitreader.specs.Taken.{place_most, reached, taken_all, the_data_place, the_value_place}

pub reached-sum : (at n : ℕ) → at + n ≤ place_most → reached at n ≡ at + n
unfolding reached
reached-sum at n h = ap (λ (t : Bool). cond t (at + n) place_most) (le-leb (at + n) place_most h)

pub all-reached : (at n m room : ℕ) → n ≤ 24 → m ≤ room → taken_all at n m room ≡ Some (reached at (m * n))
unfolding taken_all unpack_fits
all-reached at n m room h k = rw (le-leb n 24 h, le-leb m room k) refl

pub data_begins : (b : ℕ) → (b + bds_head) * 8 ≤ place_most → the_data_place b ≡ (b + bds_head) * 8
unfolding the_data_place
data_begins b h =
    let z = zero-add ((b + bds_head) * 8) in
    reached-sum 0 ((b + bds_head) * 8) (omega (arith, z)) ∙ z

-- so is where a value begins
pub value-begins : (b n k : ℕ) → (b + bds_head) * 8 + k * n ≤ place_most → the_value_place b n k ≡ (b + bds_head) * 8 + k * n
unfolding the_value_place
value-begins b n k h =
    ap (λ (at : ℕ). reached at (k * n)) (data_begins b (omega arith)) ∙ reached-sum ((b + bds_head) * 8) (k * n) h
