-- Whether a block fits, and whether the last values do, by the tests as the code makes them.
use mathlib.Core.Path.{◌≡◌, refl, sym, ap, ap₂, ◌∙◌}
use mathlib.Core.Bool.{Bool, true, false, cond, ◌&&◌}
use mathlib.Core.List.{List}
use Prim.Native.Nat.{ℕ, ◌+◌, ◌-◌, ◌≤◌, ◌<◌}
use native.Mathlib.Omega.{arith}
use borrow.Author.Tests.{eq-eqb, lt-ltb, le-ltb, le-leb, leb-true, leb-false, eqb-true}
use lib.Dec.{eqb, leb}
use Rattle.bits.proofs.Tests.{and_left, and_right}
use Rattle.gathering.specs.Gather.{gather_fits}
use Rattle.gathering.proofs.Here.{fits_after, fits-none, fits_so}
use Rattle.blocks.specs.declared.{Progress.Progress}
use Rattle.blocks.specs.Block.{block_of, block_fits, the_last_fits}

and_none : (a b : Bool) → b ≡ false → a && b ≡ false
and_none true b e = e
and_none false b e = refl

-- an answer where a test holds, and where it does not
pub where_so : {A : Type 0} (b : Bool) (x y z : A) → b ≡ true → x ≡ y → x ≡ cond b y z
where_so b x y z h k = k ∙ sym (ap (λ (s : Bool). cond s y z) h)

pub where_not : {A : Type 0} (b : Bool) (y z : A) → b ≡ false → z ≡ cond b y z
where_not b y z h = sym (ap (λ (s : Bool). cond s y z) h)

pub so_where : {A : Type 0} (b : Bool) (x y z : A) → b ≡ true → x ≡ cond b y z → x ≡ y
so_where b x y z h k = k ∙ ap (λ (s : Bool). cond s y z) h

-- the points of the next block
pub of-few : (left : ℕ) → left < 256 → left ≡ block_of left
unfolding block_of
of-few left h = sym (ap (λ (s : Bool). cond s left 256) (lt-ltb left 256 h))

pub of-many : (left : ℕ) → 256 ≤ left → 256 ≡ block_of left
unfolding block_of
of-many left h = sym (ap (λ (s : Bool). cond s left 256) (le-ltb left 256 h))

module _ (m marked at room : ℕ) (p : Progress) (octets : ℕ) where
  abbrev listed : Bool
  listed = eqb room 512 && leb p.held 512

  module _ (h : listed && leb at marked ≡ true) where
    held-there : listed ≡ true
    held-there = and_left listed (leb at marked) h

    pub marks-there : at ≤ marked
    marks-there = leb-true at marked (and_right listed (leb at marked) h)

    pub block-judged : leb p.place octets && (leb m (512 - p.held) && leb m (marked - at))
        ≡ block_fits m marked at room p octets
    unfolding block_fits
    block-judged =
        ap₂ (λ (x y : Bool). x && (leb p.place octets && y)) (sym held-there)
        (fits_after m (512 - p.held) at marked marks-there)

  pub block_refused : listed && leb at marked ≡ false → false ≡ block_fits m marked at room p octets
  unfolding block_fits
  block_refused h = by listed refl
    where
      by : (b : Bool) → listed ≡ b → false ≡ listed && (leb p.place octets && gather_fits m (512 - p.held) at marked)
      by true e =
          let k : leb at marked ≡ false = ap (λ (x : Bool). x && leb at marked) (sym e) ∙ h in
          sym (and_none listed _
          (and_none (leb p.place octets) _ (sym (fits-none m (512 - p.held) at marked (leb-false at marked k)))))
      by false e = ap (λ (x : Bool). x && (leb p.place octets && gather_fits m (512 - p.held) at marked)) (sym e)

  -- what is known where it fits
  module _ (h : block_fits m marked at room p octets ≡ true) where
    lists : listed ≡ true
    unfolding block_fits
    lists = and_left listed _ h

    places : leb p.place octets && gather_fits m (512 - p.held) at marked ≡ true
    unfolding block_fits
    places = and_right listed _ h

    pub fits-room : room ≡ 512
    fits-room = eqb-true room 512 (and_left (eqb room 512) (leb p.held 512) lists)

    pub fits-held : p.held ≤ 512
    fits-held = leb-true p.held 512 (and_right (eqb room 512) (leb p.held 512) lists)

    pub fits-place : p.place ≤ octets
    fits-place = leb-true p.place octets (and_left (leb p.place octets) _ places)

    pub fits-gather : gather_fits m (room - p.held) at marked ≡ true
    fits-gather = ap (λ (x : ℕ). gather_fits m (x - p.held) at marked) fits-room ∙ and_right (leb p.place octets) _ places

  pub block-fits : room ≡ 512 → p.held + m ≤ 512 → p.place ≤ octets → at + m ≤ marked
      → block_fits m marked at room p octets ≡ true
  unfolding block_fits
  block-fits e h k g =
      rw (
        eq-eqb room 512 e,
        le-leb p.held 512 (omega arith),
        le-leb p.place octets k,
        fits_so m (512 - p.held)
            at marked (omega arith) g,
      ) refl

module _ (room : ℕ) (p : Progress) (octets : ℕ) where
  pub last_fits : p.held ≤ room → p.place ≤ octets → the_last_fits room p octets ≡ true
  unfolding the_last_fits
  last_fits h k = ap₂ (λ (x y : Bool). x && y) (le-leb p.held room h) (le-leb p.place octets k)

  pub last_so : leb p.held room && leb p.place octets ≡ true → (r t : Bool) (x y z : List ℕ) → r ≡ t → x ≡ y
      → (r ≡ the_last_fits room p octets && t) × (x ≡ cond (the_last_fits room p octets) y z)
  unfolding the_last_fits
  last_so h r t x y z e k =
      (e ∙ ap (λ (s : Bool). s && t) (sym h), where_so (leb p.held room && leb p.place octets) x y z h k)

  pub last-not : leb p.held room && leb p.place octets ≡ false → (t : Bool) (y z : List ℕ)
      → (false ≡ the_last_fits room p octets && t) × (z ≡ cond (the_last_fits room p octets) y z)
  unfolding the_last_fits
  last-not h t y z = (ap (λ (s : Bool). s && t) (sym h), where_not (leb p.held room && leb p.place octets) y z h)
