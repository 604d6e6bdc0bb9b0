-- Numbers of octets, over plain variables: one octet more, and the size of three.
use mathlib.Core.Path.{◌≡◌, sym, ap, ap₂, ◌∙◌, subst}
use Prim.Native.Nat.{ℕ, ◌+◌, ◌-◌, ◌*◌, ◌<◌}
use native.Mathlib.Omega.{arith}
use mathlib.Core.List.{List}
use lib.ListN.{get_or}
use Rattle.bits.specs.Bits.{bits_in, run}
use Rattle.bits.proofs.Runs.{run-octet, run-lt, bits_in-bits}

-- octet i of what starts at place p + j, after the i octets before it
pub next : (s : List ℕ) (p j k i x v : ℕ) → j ≡ k - 1 → x ≡ run (bits_in 8 s) ((p + (k - 1)) * 8) (i * 8)
    → v ≡ get_or s (p + (j + i)) 0 → v < 256
    → x * 256 + v ≡ run (bits_in 8 s) ((p + (k - 1)) * 8) ((i + 1) * 8)
next s p j k i x v o e f h =
    let g : v ≡ get_or s (p + (k - 1) + i) 0 = f ∙ ap (λ (a : ℕ). get_or s a 0) (omega arith) in
    ap₂ (λ (a b : ℕ). a * 256 + b) e g ∙ sym (run-octet s (p + (k - 1)) i (subst (λ (a : ℕ). a < 256) g h))

pub three-lt : (s : List ℕ) (at x : ℕ) → x ≡ run (bits_in 8 s) at 24 → x < 16777216
three-lt s at x e = subst (λ (y : ℕ). y < 16777216) (sym e) (run-lt (bits_in-bits 8 s) at 24)
