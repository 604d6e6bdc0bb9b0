-- Pieces of text written one after another: the law of each loop and each call. By the laws of `placed`.
use mathlib.Core.Path.{◌≡◌, refl, sym, ap, ap₂, ◌∙◌, subst}
use mathlib.Core.List.{List, [], ◌∷◌, ◌++◌}
use Prim.Native.Nat.{ℕ, zero, suc, ◌+◌, ◌*◌, ◌≤◌, ◌<◌}
use native.Mathlib.Nat.{add-zero, add_assoc, suc-mul}
use native.Mathlib.Numerals.{add-one}
use native.Mathlib.Omega.{arith}
use lib.ListN.{length, get_or, set, length-append}
use Rattle.bits.specs.Bits.{placed}
use Rattle.bits.specs.Tables.{tab}
use Rattle.bits.proofs.Fill.{length-tab, tab-of}
use Rattle.bits.proofs.Placing.{placed-none, length-placed, placed-next, set-placed}
use Rattle.rules.specs.Listing.{ended, joined_to}
use Rattle.listing.specs.Text.{Wrote}

-- nothing is written
pub wrote_none : (t : List ℕ) (at : ℕ) → Wrote t t at at []
wrote_none t at = record { place = sym (add-zero at); text = sym (placed-none t at) }

pub wrote_start : (t : List ℕ) (at : ℕ) → Wrote t t at (at + 0) []
wrote_start t at = record { place = refl; text = sym (placed-none t at) }

-- a letter is written
pub wrote_one : (t : List ℕ) (at x : ℕ) → at < length t → Wrote t (set t at x) at (at + 1) (x ∷ [])
wrote_one t at x h = record { place = refl; text = set-placed t at x h }

-- the text keeps its length
pub length_wrote : {t u : List ℕ} {at next : ℕ} {w : List ℕ} → Wrote t u at next w → next ≤ length t
    → length u ≡ length t
length_wrote {t} {u} {at} {next} {w} a h = ap length a.text ∙ length-placed t at w (omega (arith, a.place))

-- a word is written after another
pub wrote_next : {t u v : List ℕ} {at mid next : ℕ} {w x : List ℕ} → Wrote t u at mid w → Wrote u v mid next x
    → next ≤ length t → Wrote t v at next (w ++ x)
wrote_next {t} {u} {v} {at} {mid} {next} {w} {x} a b h = record {
  place = b.place ∙ ap (λ (k : ℕ). k + length x) a.place ∙ add_assoc at (length w) (length x)
      ∙ ap (λ (k : ℕ). at + k) (sym (length-append w x));
  text =
      b.text ∙ ap₂ (λ (d : List ℕ) (k : ℕ). placed d k x) a.text a.place
      ∙ placed-next t at w x (omega (arith, a.place, b.place));
}

-- one more part of many
pub wrote_part : {t u v : List ℕ} {at mid next : ℕ} (w : ℕ → List ℕ) (n : ℕ) → Wrote t u at mid (joined_to w n)
    → Wrote u v mid next (w n) → next ≤ length t → Wrote t v at next (joined_to w (n + 1))
unfolding joined_to
wrote_part {t} {u} {v} {at} {mid} {next} w n a b h = rw add-one (wrote_next a b h)

-- one more letter of a table
pub wrote_tab : {t u : List ℕ} {at : ℕ} (g : ℕ → ℕ) (n : ℕ) → Wrote t u at (at + n) (tab g n) → at + n < length t
    → Wrote t (set u (at + n) (g n)) at (at + (n + 1)) (tab g (n + 1))
unfolding tab
wrote_tab {t} {u} {at} g n a h =
    let l = length_wrote a (omega arith) in
    let b = wrote_next a (wrote_one u (at + n) (g n) (omega arith)) (omega arith) in
    rw add-one (record { place = ap (λ (k : ℕ). at + k) (sym (length-tab g (suc n))); text = b.text })

pub ended-most : (w : List ℕ) (x b : ℕ) → length w ≤ b → length (ended w x) ≤ b + 1
ended-most w x b h = rw length-append (omega arith)

-- parts of bounded length
pub joined-most : (w : ℕ → List ℕ) (b : ℕ) → ((j : ℕ) → length (w j) ≤ b) → (n : ℕ) → length (joined_to w n) ≤ n * b
unfolding joined_to
joined-most w b h zero = omega arith
joined-most w b h (suc n) = simp (length-append, suc-mul) (omega (arith, joined-most w b h n, h n))

-- all letters of a word
pub word-done : (t u : List ℕ) (at i : ℕ) (w : List ℕ) → i ≡ length w → Wrote t u at (at + i) (tab (λ k. get_or w k 0) i)
    → Wrote t u at (at + i) w
word-done t u at i w e a = subst (λ (x : List ℕ). Wrote t u at (at + i) x) (ap (tab (λ k. get_or w k 0)) e ∙ tab-of w 0) a
