-- Demand 2: the sections of a taken message tile it, as they lie and as they are handed out, and each has the octets of
-- its fields; from row 5, which says that each section starts where the one before ends.
use Prim.Native.Nat.{ℕ, ◌+◌, ◌-◌, ◌≤◌, ◌<◌}
use mathlib.Core.Bool.{Bool, true, false, cond}
use mathlib.Core.Path.{◌≡◌, refl, sym, subst, ◌∙◌, ap}
use mathlib.Core.List.{List, [], ◌∷◌, ◌++◌, append-nil, map}
use native.Mathlib.Omega.{arith}
use borrow.Author.Tests.{eqb-true}
use lib.Dec.{eqb}
use lib.ListN.{length, get_or, take, drop, length-drop, get_or-eq_default}
use lib.Seq.{take_all}
use Rattle.bits.proofs.Cut.{cut}
use Rattle.rules.specs.declared.{Part.Part}
use Rattle.rules.specs.Numbers.{joined}
use Rattle.rules.specs.Table.{accepted}
use Rattle.rules.specs.Places.{octets_of, no_part, after, pds_start, the_has_grid, the_has_bitmap, places_of, sections_of}
use Rattle.rules.specs.Places.{the_section_at}
use Rattle.rules.specs.Bitmap.{Lent}
use Rattle.rules.specs.Reading.{own_refusal, section_of}
use Rattle.laws.specs.Taken.{Taken}
use Rattle.theorems.specs.Reads.{SectionsTile, Adjoining, with_octets, Adjoined, SectionsAdjoin, HandedBack}
use Rattle.theorems.specs.Reads.{SectionsHanded, RefusedHasNone}
use Rattle.laws.proofs.Rows.{is_true}
use Rattle.laws.proofs.Sections.{sections}

-- a part, and what follows it
front : (s : List ℕ) (a n : ℕ) (rest : List ℕ) → rest ≡ drop (a + n) s → take n (drop a s) ++ rest ≡ drop a s
front s a n rest e = ap (λ (r : List ℕ). take n (drop a s) ++ r) e ∙ cut s a n

-- the last four octets are all that follow their place
last : (s : List ℕ) → 4 ≤ length s → take 4 (drop (length s - 4) s) ≡ drop (length s - 4) s
last s h =
    take_all 4 (drop (length s - 4) s) (subst (λ (k : ℕ). k ≤ 4) (sym (length-drop (length s - 4) s)) (omega arith))

-- six parts that start at 0 and one after another, the last with the four last octets
six : (s : List ℕ) (a b c d : ℕ) → 8 + a + b + c + d + 4 ≡ length s
    → take 8 (drop 0 s)
    ++ (take a (drop 8 s)
    ++ (take b (drop (8 + a) s)
    ++ (take c (drop (8 + a + b) s) ++ (take d (drop (8 + a + b + c) s) ++ (take 4 (drop (length s - 4) s) ++ [])))))
    ≡ s
six s a b c d e =
    let f : length s - 4 ≡ 8 + a + b + c + d = omega arith in
    front s 0 8 _
    (front s 8 a _
    (front s (8 + a) b _
    (front s (8 + a + b) c _
    (front s (8 + a + b + c) d _ (append-nil _ ∙ last s (omega arith) ∙ ap (λ (k : ℕ). drop k s) f)))))

pub sections-tile : SectionsTile
unfolding sections_of places_of the_section_at joined
sections-tile s lent t = six s _ _ _ _ (sections s lent t).end

-- a part of no octets, wherever it starts, has the octets of the empty part at the start
none_or : (s : List ℕ) (p : Part) → octets_of s (cond (eqb p.len 0) no_part p) ≡ octets_of s p
none_or s p = go (eqb p.len 0) refl
  where
    go : (b : Bool) → eqb p.len 0 ≡ b → octets_of s (cond b no_part p) ≡ octets_of s p
    go true e = ap (λ (k : ℕ). take k (drop p.start s)) (sym (eqb-true p.len 0 e))
    go false e = refl

-- a part without octets can be left out of those that lie one after another
left_out : (from : ℕ) (p : Part) (parts : List Part) (to : ℕ) → p.start ≡ from → Adjoining (after p) parts to
    → (b : Bool) → eqb p.len 0 ≡ b → Adjoining from (cond b parts (p ∷ parts)) to
left_out from p parts to e h true z =
    let at : after p ≡ from = omega (arith, e, eqb-true p.len 0 z) in
    subst (λ (x : ℕ). Adjoining x parts to) at h
left_out from p parts to e h false z = (e, h)

few : (from : ℕ) (parts : List Part) (to : ℕ) → Adjoining from parts to → Adjoining from (with_octets parts) to
few from [] to h = h
few from (p ∷ parts) to h =
    left_out from p (with_octets parts) to h.0 (few (after p) parts to h.1) (eqb p.len 0) refl

-- and so can the empty part in the place of one
abbrev emptied : Part → Part
emptied p = cond (eqb p.len 0) no_part p

same_left : (p : Part) (x y : List Part) → x ≡ y → (b : Bool) → eqb p.len 0 ≡ b
    → cond (eqb (cond b no_part p).len 0) x (cond b no_part p ∷ x) ≡ cond b y (p ∷ y)
same_left p x y e true z = e
same_left p x y e false z = ap (λ (b : Bool). cond b x (p ∷ x)) z ∙ ap (λ (l : List Part). p ∷ l) e

same-octets : (parts : List Part) → with_octets (map emptied parts) ≡ with_octets parts
same-octets [] = refl
same-octets (p ∷ parts) = same_left p _ _ (same-octets parts) (eqb p.len 0) refl

module _ (s : List ℕ) (lent : Lent) (t : Taken s lent) where
  abbrev lies : ℕ → Part
  lies k = get_or (sections_of s) k no_part

  handed : (k : ℕ) → section_of s lent k ≡ cond (eqb (lies k).len 0) no_part (lies k)
  unfolding section_of
  handed k =
      ap (λ (b : Bool). cond b (cond (eqb (lies k).len 0) no_part (lies k)) no_part)
      (is_true (accepted (own_refusal s lent)) t)

  handed-octets : (k : ℕ) → octets_of s (section_of s lent k) ≡ octets_of s (lies k)
  handed-octets k = ap (octets_of s) (handed k) ∙ none_or s (lies k)

  handed-none : (k : ℕ) → (lies k).len ≡ 0 → section_of s lent k ≡ no_part
  handed-none k e = handed k ∙ ap (λ (x : ℕ). cond (eqb x 0) no_part (lies k)) e

  absent-len : (b : Bool) (n : ℕ) → b ≡ false → cond b n 0 ≡ 0
  absent-len b n e = ap (λ (x : Bool). cond x n 0) e

  -- no list of six has a seventh
  past : (k : ℕ) → 5 < k → lies k ≡ no_part
  unfolding sections_of
  past k l = get_or-eq_default (sections_of s) no_part {n = k} l

  handed-back : HandedBack s lent
  unfolding sections_of places_of the_section_at
  handed-back = record {
    tile =
        (λ i. joined
        (handed-octets 0 i ∷ handed-octets 1 i ∷ handed-octets 2 i ∷ handed-octets 3 i ∷ handed-octets 4 i
        ∷ handed-octets 5 i ∷ []))
        ∙ sections-tile s lent t;
    gds = λ e. handed-none 2 (absent-len (the_has_grid s pds_start) _ e);
    bms = λ e. handed-none 3 (absent-len (the_has_bitmap s pds_start) _ e);
    other = λ k l. handed-none k (ap (λ (p : Part). p.len) (past k l));
  }

  one_by_one : Adjoining 0 (sections_of s) (length s)
  unfolding sections_of places_of the_section_at
  one_by_one =
      let at = sections s lent t in
      (refl, (at.at-pds, (at.at-gds, (at.at-bms, (at.at-bds, (omega (arith, at.end), omega (arith, at.end)))))))

  handed-parts : with_octets (map (section_of s lent) (0 ∷ 1 ∷ 2 ∷ 3 ∷ 4 ∷ 5 ∷ [])) ≡ with_octets (sections_of s)
  unfolding sections_of
  handed-parts =
      (λ i. with_octets (handed 0 i ∷ handed 1 i ∷ handed 2 i ∷ handed 3 i ∷ handed 4 i ∷ handed 5 i ∷ []))
      ∙ same-octets (sections_of s)

  adjoined : Adjoined s lent
  unfolding places_of the_section_at
  adjoined =
      let at = sections s lent t in
      record {
        pds = at.at-pds;
        gds = at.at-gds;
        bms = at.at-bms;
        bds = at.at-bds;
        end = omega (arith, at.end);
        last = omega (arith, at.end);
        without-gds = absent-len (the_has_grid s pds_start) _;
        without-bms = absent-len (the_has_bitmap s pds_start) _;
        lie = one_by_one;
        handed = subst (λ (parts : List Part). Adjoining 0 parts (length s)) (sym handed-parts)
            (few 0 (sections_of s) (length s) one_by_one);
      }

pub sections_adjoin : SectionsAdjoin
sections_adjoin s lent t = adjoined s lent t

pub sections-handed : SectionsHanded
sections-handed s lent t = handed-back s lent t

pub refused_has_none : RefusedHasNone
unfolding section_of
refused_has_none s lent k e =
    let p = get_or (sections_of s) k no_part in
    ap (λ (b : Bool). cond b (cond (eqb p.len 0) no_part p) no_part) e
