-- The bits of the bitmap in force are bits of the message or of the store. Assumes nothing.
use mathlib.Core.Path.{◌≡◌, refl, sym, ap, ap₂, ◌∙◌}
use mathlib.Core.List.{List}
use Prim.Native.Nat.{ℕ, ◌+◌, ◌*◌, ◌/◌, ◌%◌, ◌<◌}
use native.Mathlib.Nat.{zero-add}
use native.Mathlib.Omega.{arith}
use lib.ListN.{take, drop, get_or}
use lib.Seq.{get_or-drop, get_or-take}
use Rattle.rules.specs.declared.Part.{Part}
use Rattle.rules.specs.declared.Bitmap.{Bitmap}
use Rattle.rules.specs.declared.Bitmap.TheVariants.{Without, Carried, Stored}
use Rattle.rules.specs.Bounds.{bms_head}
use Rattle.bits.specs.Bits.{bit_of, bits_in, count, octets_for}
use Rattle.rules.specs.Bitmap.{in_force, bitmap_octets, present_by}
use Rattle.bits.proofs.Ones.{count_ext, count_ones}
use Rattle.bitmap.specs.Held.{held}

-- a bit of a part
pub bit-part : (s : List ℕ) (a n j : ℕ) → j < n
    → bits_in 8 s (a * 8 + j) ≡ bits_in 8 (take (octets_for n) (drop a s)) (0 + j)
unfolding bits_in
bit-part s a n j h =
    let e : (a * 8 + j) / 8 ≡ a + (0 + j) / 8 = omega arith in
    let f : (a * 8 + j) % 8 ≡ (0 + j) % 8 = omega arith in
    let l : (0 + j) / 8 < octets_for n = omega arith in
    ap₂ (λ (x y : ℕ). bit_of 8 (get_or s x 0) y) e f
    ∙ ap (λ (x : ℕ). bit_of 8 x ((0 + j) % 8))
    (sym (get_or-drop a s ((0 + j) / 8) 0) ∙ sym (get_or-take (octets_for n) (drop a s) ((0 + j) / 8) 0 l))

part : (s : List ℕ) (a n : ℕ) → count (bits_in 8 s) (a * 8) n ≡ count (bits_in 8 (take (octets_for n) (drop a s))) 0 n
part s a n = count_ext (bits_in 8 s) (bits_in 8 (take (octets_for n) (drop a s))) (a * 8) 0 n (bit-part s a n)

pub without : (s store : List ℕ) (p : Part) (n : ℕ)
    → n ≡ count (present_by Without (bitmap_octets s store (in_force Without p n))) 0 n
unfolding present_by
without s store p n = count_ones (present_by Without (bitmap_octets s store (in_force Without p n))) 0 n (λ j l. refl)

pub carried : (s store : List ℕ) (p : Part) (n r : ℕ) → r ≡ count (bits_in 8 s) ((p.start + 6) * 8) n
    → r ≡ count (present_by Carried (bitmap_octets s store (in_force Carried p n))) 0 n
unfolding present_by bitmap_octets in_force
carried s store p n r e = e ∙ part s (p.start + 6) n

pub stored : (s store : List ℕ) (p : Part) (k n r : ℕ) → r ≡ count (bits_in 8 store) (0 * 8) n
    → r ≡ count (present_by (Stored k) (bitmap_octets s store (in_force (Stored k) p n))) 0 n
unfolding present_by bitmap_octets in_force
stored s store p k n r e = e ∙ part store 0 n

-- of n points, what code reads is presence by the bitmap in force
pub held-is : (bitmap : Bitmap) (s store : List ℕ) (p : Part) (n i : ℕ) → i < n
    → held bitmap s store (p.start + bms_head) i ≡ present_by bitmap (bitmap_octets s store (in_force bitmap p n)) i
unfolding held present_by bitmap_octets in_force
held-is Without s store p n i l = refl
held-is Carried s store p n i l =
    bit-part s (p.start + bms_head) n i l
    ∙ ap (bits_in 8 (take (octets_for n) (drop (p.start + bms_head) s))) (zero-add i)
held-is (Stored k) s store p n i l =
    bit-part store 0 n i l ∙ ap (bits_in 8 (take (octets_for n) (drop 0 store))) (zero-add i)
