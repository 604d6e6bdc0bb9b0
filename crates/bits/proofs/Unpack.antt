-- The loops that take runs of bits out of octets into a list from its front on.
use mathlib.Core.Path.{◌≡◌, refl, sym, ap, ap₂, ◌∙◌}
use mathlib.Core.List.{List, ◌++◌}
use Prim.Native.Nat.{ℕ, ◌+◌, ◌*◌, ◌/◌, ◌%◌, ◌≤◌, ◌<◌}
use native.Mathlib.Nat.{add-zero, add-mul}
use native.Mathlib.Omega.{arith}
use lib.ListN.{length, drop, set}
use Rattle.bits.specs.Bits.{bits_in, run, runs}
use Rattle.bits.proofs.Fill.{fill}

-- a value stored at its place
pub stored : (s out₀ out : List ℕ) (at n i x y : ℕ) → i < length out₀ → out ≡ runs (bits_in 8 s) at n i ++ drop i out₀
    → x ≡ run (bits_in 8 s) y n → y ≡ at + i * n → set out i x ≡ runs (bits_in 8 s) at n (i + 1) ++ drop (i + 1) out₀
unfolding runs
stored s out₀ out at n i x y l e h p =
    ap₂ (λ (o : List ℕ) (v : ℕ). set o i v) e (h ∙ ap (λ (a : ℕ). run (bits_in 8 s) a n) p)
    ∙ fill (λ k. run (bits_in 8 s) (at + k * n) n) i out₀ l

-- eight values more are n octets more
pub eight : (at n i k : ℕ) → k * 8 + at % 8 ≡ at + i * n → (k + n) * 8 + at % 8 ≡ at + (i + 8) * n
eight at n i k e = rw add-mul (omega arith)

-- what a loop leaves that begins with i₀ values read into d, and has read i
abbrev pub Read : List ℕ → ℕ → ℕ → ℕ → List ℕ → ℕ → List ℕ → ℕ → Type 0
Read s at n m out₀ i₀ out i =
    (d : List ℕ) → m ≤ length d → out₀ ≡ runs (bits_in 8 s) at n i₀ ++ drop i₀ d → out ≡ runs (bits_in 8 s) at n i
    ++ drop i d

pub read_none : (s : List ℕ) (at n m : ℕ) (out : List ℕ) (i : ℕ) → Read s at n m out i out (i + 0)
read_none s at n m out i d l e = e ∙ ap (λ (x : ℕ). runs (bits_in 8 s) at n x ++ drop x d) (sym (add-zero i))

pub read_turn : (s : List ℕ) (at n m : ℕ) (out₀ out : List ℕ) (i₀ i x y : ℕ) → i < m → Read s at n m out₀ i₀ out i
    → x ≡ run (bits_in 8 s) y n → y ≡ at + i * n → Read s at n m out₀ i₀ (set out i x) (i + 1)
read_turn s at n m out₀ out i₀ i x y l r h p d k e = stored s d out at n i x y (omega arith) (r d k e) h p

-- a turn of the loops over whole octets
pub octet_turn : (s out₀ out : List ℕ) (k n i x y : ℕ) → i < length out₀
    → out ≡ runs (bits_in 8 s) (k * 8) n i ++ drop i out₀
    → x ≡ y → y ≡ run (bits_in 8 s) (k * 8 + i * n) n
    → set out i x ≡ runs (bits_in 8 s) (k * 8) n (i + 1) ++ drop (i + 1) out₀
octet_turn s out₀ out k n i x y l e h r = stored s out₀ out (k * 8) n i x (k * 8 + i * n) l e (h ∙ r) refl

-- the same values, counted and placed otherwise
pub read_same : (s out₀ out : List ℕ) (at n i j : ℕ) → i ≡ j → out ≡ runs (bits_in 8 s) at n i ++ drop i out₀
    → out ≡ runs (bits_in 8 s) at n j ++ drop j out₀
read_same s out₀ out at n i j e h = h ∙ ap (λ (x : ℕ). runs (bits_in 8 s) at n x ++ drop x out₀) e

pub read_at : (s d out : List ℕ) (at n w m : ℕ) → at % 8 ≡ 0 → n ≡ w → out ≡ runs (bits_in 8 s) (at / 8 * 8) w m ++ d
    → out ≡ runs (bits_in 8 s) at n m ++ d
read_at s d out at n w m e h r =
    let z : at / 8 * 8 ≡ at = omega arith in
    r ∙ ap₂ (λ (x y : ℕ). runs (bits_in 8 s) x y m ++ d) z (sym h)
