-- Octets put one after another: what is put just after the fields laid so far makes them longer, field by field and
-- part by part.
use mathlib.Core.Path.{◌≡◌, refl, sym, ap, ap₂, ◌∙◌}
use mathlib.Core.Bool.{Bool, true, cond, ◌&&◌}
use mathlib.Core.List.{List, [], ◌∷◌, ◌++◌, append_assoc, append-nil}
use Prim.Native.Nat.{ℕ, ◌+◌, ◌-◌, ◌*◌, ◌^◌, ◌≤◌, ◌<◌}
use native.Mathlib.Nat.{add-zero}
use native.Mathlib.Omega.{arith}
use borrow.Author.Tests.{le-leb, lt-ltb}
use lib.Dec.{leb}
use lib.IntN.{nat_abs}
use lib.ListN.{length, length-append}
use Rattle.bits.specs.Bits.{bit_of, number_at, placed}
use Rattle.bits.proofs.Trip.{length_runs}
use Rattle.bits.proofs.Placing.{placed-none, length-placed, placed-next, number-placed}
use Rattle.rules.specs.declared.{Signed.Signed}
use Rattle.laws.specs.Signs.{SignFree}
use Rattle.rules.specs.Numbers.{Field, field, octets, laid, sign, spelled, signed_field}
use Rattle.laws.proofs.Fields.{widths, laid-append, laid-length}
use Rattle.puts.specs.Put.{put_fits, the_put_number, signed_fits, the_put_signed}

pub length-octets : (c x : ℕ) → length (octets c x) ≡ c
length-octets c x = length_runs (bit_of (c * 8) x) 0 8 c

-- fields, and what follows them
pub laid-rest : (fs : List Field) (rest : List ℕ) → laid fs rest ≡ laid fs [] ++ rest
laid-rest fs rest = sym (laid-append fs [] rest)

pub laid_both : (fs gs : List Field) → laid (fs ++ gs) [] ≡ laid fs [] ++ laid gs []
laid_both [] gs = refl
laid_both (f ∷ fs) gs =
    ap (λ (x : List ℕ). octets f.width f.held ++ x) (laid_both fs gs)
    ∙ sym (append_assoc (octets f.width f.held) (laid fs []) (laid gs []))

laid_more : (fs : List Field) (f : Field) → laid (fs ++ (f ∷ [])) [] ≡ laid fs [] ++ octets f.width f.held
laid_more fs f = laid_both fs (f ∷ []) ∙ ap (λ (x : List ℕ). laid fs [] ++ x) (append-nil (octets f.width f.held))

-- a number put where there is room for it
pub number_put : (o o' : List ℕ) (p c x : ℕ) → p + c ≤ length o → x < 2 ^ (c * 8) → o' ≡ the_put_number o p 1 c x
    → o' ≡ number_at o p c x
unfolding the_put_number put_fits
number_put o o' p c x h b e =
    e
    ∙ ap₂ (λ (u v : Bool). cond (u && v) (number_at o (p + 0) c x) o) (le-leb (p + (0 + c)) (length o) (omega arith))
    (lt-ltb x (2 ^ (c * 8)) b)
    ∙ ap (λ (n : ℕ). number_at o n c x) (add-zero p)

-- the fields fs are laid down in d from place at on, where there are t octets of room
pub record Laid (d : List ℕ) (at t : ℕ) (fs : List Field) (o : List ℕ) : Type 0 where
  pub is : o ≡ placed d at (laid fs [])
  pub room : at + t ≤ length d

pub laid_none : (d : List ℕ) (at t : ℕ) → at + t ≤ length d → Laid d at t [] d
laid_none d at t h = record { is = sym (placed-none d at); room = h }

module _ {d : List ℕ} {at t : ℕ} {fs : List Field} {o : List ℕ} (l : Laid d at t fs o) where
  abbrev w : ℕ
  w = widths fs 0

  size : length (laid fs []) ≡ w
  size = laid-length fs [] ∙ add-zero w

  pub kept-long : w ≤ t → length o ≡ length d
  kept-long h = let s = size in let r = l.room in ap length l.is ∙ length-placed d at (laid fs []) (omega arith)

  next : (c x : ℕ) → w + c ≤ t → number_at o (at + w) c x ≡ placed d at (laid (fs ++ (field c x ∷ [])) [])
  next c x h =
      let s = size in
      let r = l.room in
      let q = length-octets c x in
      number-placed o (at + w) c x
      ∙ ap₂ (λ (y : List ℕ) (z : ℕ). placed y (at + z) (octets c x)) l.is (sym s)
      ∙ placed-next d at (laid fs []) (octets c x) (omega arith) ∙ ap (placed d at) (sym (laid_more fs (field c x)))

  fits : (p k c : ℕ) → p + (k - 1) ≡ at + w → w + c ≤ t → leb (p + (k - 1 + c)) (length o) ≡ true
  fits p k c e h = let r = l.room in let w = kept-long (omega arith) in le-leb (p + (k - 1 + c)) (length o) (omega arith)

  -- a number put at the octet after them, octet k of what starts at p
  pub put : (p k c x : ℕ) (o' : List ℕ) → o' ≡ the_put_number o p k c x → p + (k - 1) ≡ at + w → w + c ≤ t → x < 2 ^ (c * 8)
      → Laid d at t (fs ++ (field c x ∷ [])) o'
  unfolding the_put_number put_fits
  put p k c x o' f e h b = record {
    is =
        f
        ∙ ap₂ (λ (u v : Bool). cond (u && v) (number_at o (p + (k - 1)) c x) o) (fits p k c e h)
        (lt-ltb x (2 ^ (c * 8)) b)
        ∙ ap (λ (n : ℕ). number_at o n c x) e ∙ next c x h;
    room = l.room;
  }

  pub put-signed : (p k c : ℕ) (x : Signed) (o' : List ℕ) → o' ≡ the_put_signed o p k c x → p + (k - 1) ≡ at + w → w + c ≤ t
      → SignFree c x → Laid d at t (fs ++ (signed_field c x ∷ [])) o'
  unfolding the_put_signed signed_fits
  put-signed p k c x o' f e h b =
      let y = spelled c x in
      record {
        is = f ∙ ap₂ (λ (u v : Bool). cond (u && v) (number_at o (p + (k - 1)) c y) o) (fits p k c e h)
            (lt-ltb (nat_abs x.value) (sign c) b)
            ∙ ap (λ (n : ℕ). number_at o n c y) e ∙ next c y h;
        room = l.room;
      }

-- two and three parts placed one after another
module _ (d : List ℕ) (at : ℕ) (p q r : List ℕ) (a b : ℕ) (ea : a ≡ at + length p) (eb : b ≡ a + length q) where
  pub two-placed : b ≤ length d → (o₁ o₂ : List ℕ) → o₁ ≡ placed d at p → o₂ ≡ placed o₁ a q → o₂ ≡ placed d at (p ++ q)
  two-placed h o₁ o₂ e f = f ∙ ap₂ (λ (x : List ℕ) (n : ℕ). placed x n q) e ea ∙ placed-next d at p q (omega arith)

  pub three-placed : b + length r ≤ length d → (o₁ o₂ o₃ : List ℕ) → o₁ ≡ placed d at p → o₂ ≡ placed o₁ a q
      → o₃ ≡ placed o₂ b r
      → o₃ ≡ placed d at (p ++ (q ++ r))
  three-placed h o₁ o₂ o₃ e f g =
      let l = length-append p q in
      let n : b ≡ at + length (p ++ q) = omega arith in
      g ∙ ap₂ (λ (x : List ℕ) (n : ℕ). placed x n r) (two-placed (omega arith) o₁ o₂ e f) n
      ∙ placed-next d at (p ++ q) r (omega arith) ∙ ap (placed d at) (append_assoc p q r)
