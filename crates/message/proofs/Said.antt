-- What a header says of its message: where it is answered, each field is the message's own, and where it is refused the
-- refusal is; by the definition's two cases.
use Rattle.std.proofs.Common.{◌≡◌, ◌∙◌, ◌≤◌, refl, sym, ap, subst, Bool, true, false, cond, List, ℕ}
use Rattle.std.specs.Prelude.{Result, Ok, Err}
use lib.Dec.{T}
use Rattle.rules.specs.declared.{Refusal.Refusal, Packing.Packing, Header.Header}
use Rattle.rules.specs.Bounds.{the_bits_most}
use Rattle.rules.specs.Table.{refusal, accepted}
use Rattle.rules.specs.Answers.{replied, said_by, header_reply}
use Rattle.rules.specs.Places.{places_of}
use Rattle.rules.specs.Grid.{grid_or_zeros}
use Rattle.rules.specs.Bitmap.{Lent}
use Rattle.rules.specs.Reading.{parsed_of, found_by, found_in, own_refusal, header_of, grid_of, bitmap_in}
use Rattle.rules.specs.Reading.{points_in, present_count, packing_in, the_scale_in}
use Rattle.laws.proofs.Data.{data_narrow}
use Rattle.message.proofs.Laws.{by-own}

-- of a reply the two cases
pub refused-as : {A : Type 0} (b : Bool) (r q : Refusal) (x : A) → Err r ≡ cond b (Ok x) (Err q) → (b ≡ false) × (r ≡ q)
refused-as true r q x e = absurd (cc e)
refused-as false r q x e = (refl, cc)

pub taken-as : {A : Type 0} (b : Bool) (q : Refusal) (x h : A) → Ok h ≡ cond b (Ok x) (Err q) → (b ≡ true) × (h ≡ x)
taken-as true q x h e = (refl, cc)
taken-as false q x h e = absurd (cc e)

module _ (s : List ℕ) (lent : Lent) where
  -- the refusal is the message's own
  pub refused : (r : Refusal) → Err r ≡ header_reply (header_of s lent) → (accepted (own_refusal s lent) ≡ false) × (r ≡ own_refusal s lent)
  refused r e = refused-as (accepted (own_refusal s lent)) r (own_refusal s lent) (said_by (found_in s lent)) (e ∙ by-own s lent)

  module _ (h : Header) (e : Ok h ≡ header_reply (header_of s lent)) where
    both : (accepted (own_refusal s lent) ≡ true) × (h ≡ said_by (found_in s lent))
    both = taken-as (accepted (own_refusal s lent)) (own_refusal s lent) (said_by (found_in s lent)) h (e ∙ by-own s lent)

    pub taken : accepted (own_refusal s lent) ≡ true
    taken = both.0

    pub said : h ≡ said_by (found_in s lent)
    said = both.1

    pub places-of : h.places ≡ places_of s
    unfolding found_in found_by parsed_of
    places-of = ap (λ (x : Header). x.places) said

    pub grid-of : h.grid ≡ grid_or_zeros (grid_of s)
    unfolding found_in found_by parsed_of
    grid-of = ap (λ (x : Header). x.grid) said

    pub points-of : h.points ≡ points_in s
    unfolding found_in found_by parsed_of
    points-of = ap (λ (x : Header). x.points) said

    pub bitmap-of : h.bitmap ≡ bitmap_in s
    unfolding found_in found_by parsed_of
    bitmap-of = ap (λ (x : Header). x.bitmap) said

    pub present-of : h.present ≡ present_count s lent
    unfolding found_in found_by parsed_of
    present-of = ap (λ (x : Header). x.present) said

    pub packing-of : h.packing ≡ packing_in s
    unfolding found_in found_by parsed_of
    packing-of = ap (λ (x : Header). x.packing) said

    pub scale_of : h.scale ≡ the_scale_in s
    unfolding found_in found_by parsed_of the_scale_in
    scale_of = ap (λ (x : Header). x.scale) said

    -- N is small
    pub narrow : h.packing.bits ≤ the_bits_most
    narrow =
        subst (λ (x : Packing). x.bits ≤ the_bits_most) (sym packing-of) (data_narrow s lent (subst T (sym taken) tt))
