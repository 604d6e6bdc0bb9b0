-- Where the sections and the bitmap in force lie, from what a header says and what the rows leave of a taken message.
use mathlib.Core.Path.{◌≡◌, sym, ap, ◌∙◌, subst}
use mathlib.Core.Bool.{Bool, true, false, cond}
use mathlib.Core.List.{List, [], ◌∷◌}
use Prim.Native.Nat.{ℕ, zero, suc, ◌+◌, ◌-◌, ◌≤◌, ◌<◌}
use native.Mathlib.Omega.{arith}
use lib.Dec.{T, eqb}
use lib.ListN.{length, get_or, get_or-eq_default}
use borrow.Author.Tests.{eq-eqb, ne_eqb}
use Rattle.rules.specs.declared.{Part.Part, Places.Places, Bitmap.Bitmap, Bitmap.TheVariants.Without}
use Rattle.rules.specs.declared.{Header.Header, Refusal.Refusal}
use Rattle.rules.specs.Answers.{header_reply}
use Rattle.std.specs.Prelude.{Ok, Err}
use Rattle.rules.specs.declared.{Bitmap.TheVariants.Carried, Bitmap.TheVariants.Stored}
use Rattle.bits.specs.Bits.{octets_for}
use Rattle.rules.specs.Table.{accepted}
use denote.Ref.{Bor}
use Rattle.rules.specs.Places.{IsPart, no_part, after, places_of, the_section_at, sections_of}
use Rattle.rules.specs.Bitmap.{Lent, in_force, no_bitmap, IsInForce}
use Rattle.rules.specs.Reading.{own_refusal, header_of, section_of, in_force_in, bitmap_of}
use Rattle.rules.specs.Bounds.{message_most}
use Rattle.laws.specs.Taken.{Taken, Inside}
use Rattle.laws.proofs.Rows.{inside}
use Rattle.laws.proofs.Data.{size-most}
use Rattle.laws.proofs.Sections.{reads-inside}
use Rattle.laws.proofs.Bounded.{bitmap-inside}
use Rattle.message.proofs.Said as S
use Rattle.handed_back.specs.declared.{Force.Force}
use Rattle.handed_back.specs.Force.{force_of}
use Rattle.handed_back.specs.Sections.{all_sections}

bms-end : (s : List ℕ) → after (places_of s).bds + 4 ≡ length s → 12 ≤ (places_of s).bds.len
    → (places_of s).bms.start + (places_of s).bms.len + 16 ≤ length s
unfolding places_of the_section_at
bms-end s a b = omega arith

-- a message that is refused has neither
module _ (s : List ℕ) (lent : Lent) (r : Refusal) (e : Err r ≡ header_reply (header_of s lent)) where
  pub no : (k : ℕ) → no_part ≡ section_of s lent k
  unfolding section_of
  no k = rw (S.refused s lent r e).0

  pub no-force : ◌≡◌ {A = Force} (record { stored = false; part = no_part }) (force_of (bitmap_of s lent))
  unfolding bitmap_of no_bitmap
  no-force = rw (S.refused s lent r e).0

module _ (s : List ℕ) (lent : Lent) (h : Header) (e : Ok h ≡ header_reply (header_of s lent)) where
  yes-own : accepted (own_refusal s lent) ≡ true
  yes-own = S.taken s lent h e

  places-of : h.places ≡ places_of s
  places-of = S.places-of s lent h e

  took : Taken s lent
  took = subst T (sym yes-own) tt

  within : Inside s
  within = reads-inside s lent took

  few : length s ≤ message_most
  few = size-most s lent took

  pub room : after h.places.bds < 4294967296
  room = omega (arith, ap {B = ℕ} (λ (x : Places). after x.bds + 4) places-of ∙ within.end, few)

  pub start-room : h.places.bms.start + 6 < 4294967296
  start-room = let b : h.places.bms.start + h.places.bms.len + 16 ≤ length s = rw places-of (bms-end s within.end within.bds) in omega (arith, b, few)

  force-by : (b : Bitmap) → h.bitmap ≡ b → in_force b h.places.bms h.points ≡ bitmap_of s lent
  unfolding bitmap_of in_force_in
  force-by b q = rw (yes-own, sym q, places-of, S.bitmap-of s lent h e, S.points-of s lent h e)

  pub by-none : h.bitmap ≡ Without
      → ◌≡◌ {A = Force} (record { stored = false; part = no_part }) (force_of (bitmap_of s lent))
  unfolding in_force no_bitmap
  by-none q = ap force_of (force-by Without q)

  pub by-carried : h.bitmap ≡ Carried
      → ◌≡◌ {A = Force} (record { stored = false; part = record { start = h.places.bms.start + 6; len = octets_for h.points } }) (force_of (bitmap_of s lent))
  unfolding in_force
  by-carried q = ap force_of (force-by Carried q)

  pub by-stored : (k : ℕ) → h.bitmap ≡ Stored k
      → ◌≡◌ {A = Force} (record { stored = true; part = record { start = 0; len = octets_for h.points } }) (force_of (bitmap_of s lent))
  unfolding in_force
  by-stored k q = ap force_of (force-by (Stored k) q)

  module _ (k : ℕ) (p : Part) (ep : p ≡ get_or (all_sections h.places) k no_part) where
    is : get_or (sections_of s) k no_part ≡ p
    unfolding sections_of all_sections
    is =
        ap {B = Part} (λ (a : ℕ). get_or (record { start = 0; len = 8 } ∷ (places_of s).pds ∷ (places_of s).gds ∷ (places_of s).bms ∷ (places_of s).bds ∷ record { start = a; len = 4 } ∷ []) k no_part) (omega (arith, within.end))
        ∙ ap {B = Part} (λ (x : Places). get_or (all_sections x) k no_part) (sym places-of) ∙ sym ep

    pub empty : p.len ≡ 0 → no_part ≡ section_of s lent k
    unfolding section_of
    empty q = let n : eqb p.len 0 ≡ true = eq-eqb _ _ q in rw (yes-own, is, n)

    pub given : (p.len ≡ 0 → ⊥) → p ≡ section_of s lent k
    unfolding section_of
    given q = let n : eqb p.len 0 ≡ false = ne_eqb _ _ q in rw (yes-own, is, n)

-- a section lies inside its message
listed-fits : (s : List ℕ) → Inside s → (k : ℕ) → after (get_or (sections_of s) k no_part) ≤ length s
unfolding sections_of places_of the_section_at
listed-fits s w zero = omega (arith, w.end)
listed-fits s w (suc zero) = omega (arith, w.end)
listed-fits s w (suc (suc zero)) = omega (arith, w.end)
listed-fits s w (suc (suc (suc zero))) = omega (arith, w.end)
listed-fits s w (suc (suc (suc (suc zero)))) = omega (arith, w.end)
listed-fits s w (suc (suc (suc (suc (suc zero))))) = omega (arith, w.end)
listed-fits s w (suc (suc (suc (suc (suc (suc k)))))) = omega arith

answered-fits : (n : ℕ) (p : Part) (taken none : Bool) → (T taken → after p ≤ n)
    → after (cond taken (cond none no_part p) no_part) ≤ n
answered-fits n p true true f = omega arith
answered-fits n p true false f = f tt
answered-fits n p false none f = omega arith

pub section-fits : (s : List ℕ) (lent : Lent) (k : ℕ) (p : Part) → p ≡ section_of s lent k → after p ≤ length s
unfolding section_of
section-fits s lent k p e =
    subst (λ (x : Part). after x ≤ length s) (sym e)
    (answered-fits (length s) (get_or (sections_of s) k no_part) (accepted (own_refusal s lent))
    (eqb (get_or (sections_of s) k no_part).len 0) (λ t. listed-fits s (reads-inside s lent t) k))

-- and the bitmap in force inside the slice that it is part of
force-fits : (s : List ℕ) (lent : Lent) (taken : Bool) → (T taken → Taken s lent)
    → after (cond taken (in_force_in s) no_bitmap).part ≤ length
    (cond (cond taken (in_force_in s) no_bitmap).stored lent.octets s)
unfolding no_bitmap
force-fits s lent true f = bitmap-inside s lent (f tt)
force-fits s lent false f = omega arith

module _ (s : List ℕ) (lent : Lent) (f : Force) (e : f ≡ force_of (bitmap_of s lent)) where
  fits : after f.part ≤ length (cond f.stored lent.octets s)
  unfolding bitmap_of
  fits =
      subst (λ (x : Force). after x.part ≤ length (cond x.stored lent.octets s)) (sym e)
      (force-fits s lent (accepted (own_refusal s lent)) (λ t. t))

  pub store_fits : f.stored ≡ true → after f.part ≤ length lent.octets
  store_fits q = subst (λ (b : Bool). after f.part ≤ length (cond b lent.octets s)) q fits

  pub message-fits : f.stored ≡ false → after f.part ≤ length s
  message-fits q = subst (λ (b : Bool). after f.part ≤ length (cond b lent.octets s)) q fits

  module _ (r m st : Bor (List ℕ)) where
    lies : cond f.stored (IsPart r st f.part) (IsPart r m f.part) → IsInForce r m st (bitmap_of s lent)
    lies i = subst (λ (x : Force). cond x.stored (IsPart r st x.part) (IsPart r m x.part)) e i

    pub of_store : f.stored ≡ true → IsPart r st f.part → IsInForce r m st (bitmap_of s lent)
    of_store q i = lies (rw q i)

    pub of-message : f.stored ≡ false → IsPart r m f.part → IsInForce r m st (bitmap_of s lent)
    of-message q i = lies (rw q i)

pub past : (p : Places) (k : ℕ) → 6 ≤ k → no_part ≡ get_or (all_sections p) k no_part
unfolding all_sections
past p k h = sym (get_or-eq_default (all_sections p) no_part h)

pub moved : (r w : Bor (List ℕ)) (p q : Part) → IsPart r w p → p ≡ q → IsPart r w q
moved r w p q h e = subst (λ (x : Part). IsPart r w x) e h
