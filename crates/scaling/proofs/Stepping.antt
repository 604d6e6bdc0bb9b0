-- X by shifts, and the order of X: it grows with r, so that the greatest r alone says whether all X fit.
use mathlib.Core.Path.{◌≡◌, refl, sym, ap, ◌∙◌, subst}
use mathlib.Core.Bool.{Bool, true, false, ◌&&◌}
use mathlib.Core.Logic.{⊎_elim}
use Prim.Native.Nat.{ℕ, zero, suc, ◌+◌, ◌-◌, ◌*◌, ◌/◌, ◌%◌, ◌^◌, ◌<◌, ◌≤◌}
use native.Mathlib.Nat.{div-mul-le_self, le-div_iff_mul-le, div-div-eq-div-mul, add-div_right, div-eq_of_lt}
use native.Mathlib.Nat.{lt_of_lt_of_le, pow-suc}
use native.Mathlib.Omega.{arith}
use lib.Dec.{T, leb, eqb}
use lib.Pow.{pow_pos, pow_mono}
use borrow.Author.Tests.{eq-eqb, ne_eqb, eqb-true, leb-false, lt-leb}
use Rattle.bits.specs.Tables.{any_below, least_below}
use Rattle.bits.proofs.Below.{Least, least, none_below, no-below}
use Rattle.bits.proofs.Runs.{lt_or_ge, one_shl}
use Rattle.rules.specs.Packing.{stepped}

-- q / 2 + q % 2 is q + 1 halved
halved : (q : ℕ) → q / 2 + q % 2 ≡ (q + 1) / 2
halved q = omega arith

next-step : (e r : ℕ) → r / 2 ^ e / 2 + r / 2 ^ e % 2 ≡ stepped (suc e) r
unfolding stepped
next-step e r =
    halved (r / 2 ^ e)
    ∙ ap (λ (x : ℕ). x / 2) (sym (add-div_right r (pow_pos e)))
    ∙ div-div-eq-div-mul (r + 2 ^ e) (2 ^ e) 2
    ∙ ap (λ (x : ℕ). (r + 2 ^ e) / x) (sym (pow-suc 2 e))

pub none_yet : (e r : ℕ) → e ≡ 0 → r ≡ stepped e r
unfolding stepped
none_yet e r h = subst (λ (x : ℕ). r ≡ stepped x r) (sym h) refl

pub by-halves : (e r : ℕ) → (e ≡ 0 → ⊥) → r / 2 ^ (e - 1) / 2 + r / 2 ^ (e - 1) % 2 ≡ stepped e r
by-halves zero r h = absurd (h refl)
by-halves (suc e) r h =
    let z : e ≡ suc e - 1 = omega arith in
    subst (λ (x : ℕ). r / 2 ^ x / 2 + r / 2 ^ x % 2 ≡ stepped (suc e) r) z (next-step e r)

pub far-on : (e r : ℕ) → 64 < e → r < 2 ^ 64 → 0 ≡ stepped e r
unfolding stepped
far-on zero r h l = absurd (omega arith)
far-on (suc e) r h l =
    let m : 2 ^ 64 ≤ 2 ^ e = pow_mono {i = 64} {j = e} (omega arith) in
    let d : 2 ^ suc e ≡ 2 ^ e * 2 = pow-suc 2 e in
    sym (div-eq_of_lt (omega (arith, lt_of_lt_of_le l m)))

-- a number of 64 bits is tested against 2^N, and does not fill more bits
pub filled : (bits x : ℕ) → bits < 64 → leb ((1 * 2 ^ bits) % 2 ^ 64) x ≡ leb (2 ^ bits) x
filled bits x h = ap (λ (k : ℕ). leb k x) (one_shl 64 bits h)

pub too_few : (bits x : ℕ) → 64 ≤ bits → x < 2 ^ 64 → false ≡ leb (2 ^ bits) x
too_few bits x h l = sym (lt-leb (2 ^ bits) x (lt_of_lt_of_le l (pow_mono {i = 64} {j = bits} h)))

stepped_mono : (e a b : ℕ) → a ≤ b → stepped e a ≤ stepped e b
unfolding stepped
stepped_mono zero a b h = h
stepped_mono (suc e) a b h =
    (le-div_iff_mul-le (pow_pos (suc e))).1 (omega (arith, div-mul-le_self (a + 2 ^ e) (2 ^ suc e)))

stepped-none : (e : ℕ) → stepped e 0 ≡ 0
unfolding stepped
stepped-none zero = refl
stepped-none (suc e) = let d : 2 ^ suc e ≡ 2 ^ e * 2 = pow-suc 2 e in div-eq_of_lt (omega (arith, pow_pos e))

-- whether a present one of the first n points fills the bits, of r given by g
module _ (b e : ℕ) (present g : ℕ → ℕ) (n : ℕ) where
  abbrev wide : ℕ → Bool
  wide i = eqb (present i) 1 && leb b (stepped e (g i))

  -- none is present
  pub wide-none : 0 < b → ((i : ℕ) → i < n → present i ≡ 1 → ⊥) → leb b (stepped e 0) ≡ any_below wide n
  wide-none h none =
      ap (leb b) (stepped-none e) ∙ lt-leb b 0 h
      ∙ sym (no-below wide n (λ i l. ap (λ (t : Bool). t && leb b (stepped e (g i))) (ne_eqb (present i) 1 (none i l))))

  -- the greatest says it for all
  pub wide-one : (k : ℕ) → k < n → present k ≡ 1 → ((i : ℕ) → i < n → present i ≡ 1 → g i ≤ g k)
      → leb b (stepped e (g k)) ≡ any_below wide n
  wide-one k l here most = go (leb b (stepped e (g k))) refl (any_below wide n) refl
    where
      at : wide k ≡ leb b (stepped e (g k))
      at = ap (λ (t : Bool). t && leb b (stepped e (g k))) (eq-eqb (present k) 1 here)

      other : leb b (stepped e (g k)) ≡ false → (i : ℕ) → i < n → (t : Bool) → eqb (present i) 1 ≡ t
          → (t && leb b (stepped e (g i))) ≡ false
      other f i m false p = refl
      other f i m true p = lt-leb b (stepped e (g i))
          (omega (
            arith,
            leb-false b (stepped e (g k)) f,
            stepped_mono e (g i) (g k)
                (most i m (eqb-true (present i) 1 p)),
          ))

      go : (t : Bool) → leb b (stepped e (g k)) ≡ t → (u : Bool) → any_below wide n ≡ u → t ≡ u
      go true p true q = refl
      go true p false q = absurd (subst T (sym at ∙ none_below wide n q k l) (subst T (sym p) tt))
      go false p true q = sym (no-below wide n (λ i m. other p i m (eqb (present i) 1) refl)) ∙ q
      go false p false q = refl

-- the least is one
pub the_least : (f : ℕ → Bool) (n e : ℕ) → Least f n e → e ≡ least_below f n
the_least f n e h =
    let o = least f n in
    let b = least_below f n in
    ⊎_elim
    (λ (l : e < b). absurd (let p : f e ≡ true = h.passes (omega (arith, o.within)) in let q : f e ≡ false = o.before e l in let z : ◌≡◌ {A = ℕ} 0 1 = cc in omega arith))
    (λ (m : b ≤ e). ⊎_elim
    (λ (l : b < e). absurd (let p : f b ≡ true = o.passes (omega (arith, h.within)) in let q : f b ≡ false = h.before b l in let z : ◌≡◌ {A = ℕ} 0 1 = cc in omega arith))
    (λ (l : e ≤ b). omega arith)
    (lt_or_ge b e))
    (lt_or_ge e b)
