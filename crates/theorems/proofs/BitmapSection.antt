-- The bitmap section of each kind: laid it reads back to the same kind and the same present points without a stain, and
-- laid from what was read without a stain it is the section read; by its list of fields, and bit by bit.
use Prim.Native.Nat.{ℕ, ◌+◌, ◌-◌, ◌*◌, ◌%◌, ◌^◌, ◌≤◌, ◌<◌}
use mathlib.Core.Bool.{Bool, true, false, cond}
use mathlib.Core.Path.{◌≡◌, refl, sym, ap, ap₂, subst, ◌∙◌}
use mathlib.Core.List.{List, [], ◌∷◌, ◌++◌}
use mathlib.Core.Logic.{⊎_elim}
use native.Mathlib.Omega.{arith}
use native.Mathlib.Nat.{zero-add}
use borrow.Author.Tests.{ne_eqb, le-ltb, ltb-false, eq-eqb}
use lib.ListN.{length, take, drop}
use lib.Dec.{T, eqb}
use Rattle.bits.specs.Bits.{bits_in, runs, octets_for, Wide}
use Rattle.bits.specs.Tables.{tab}
use Rattle.bits.proofs.Runs.{Bits, bits_in-bits, lt_or_ge}
use Rattle.bits.proofs.Fill.{length-tab}
use Rattle.bits.proofs.Trip.{length_runs, bits-runs, bits-past}
use Rattle.bits.proofs.Cut.{cut, bits-drop, bits-take, octets-here}
use Rattle.bits.proofs.Marks.{wide-tab, mark-bit, zeros_of}
use Rattle.bits.proofs.Ones.{count-zero}
use Rattle.rules.specs.declared.{Part.Part, Bitmap.Bitmap, Bitmap.TheVariants.Without, Bitmap.TheVariants.Carried}
use Rattle.rules.specs.declared.{Bitmap.TheVariants.Stored}
use Rattle.rules.specs.Bounds.{bms_least, points_most}
use Rattle.rules.specs.Numbers.{Field, field, laid, even_from, octet, number}
use Rattle.rules.specs.Table.{any_of}
use Rattle.rules.specs.Bitmap.{Lent, the_bitmap_at, lent_faults, bitmap_faults, in_force, bitmap_octets, the_bitmap_given, present_by}
use Rattle.rules.specs.Bitmap.{bms_of}
use Rattle.rules.specs.RoundTrip.{bitmap_padding_set}
use Rattle.laws.proofs.Rows.{none_of, any_none, not_eq, is_eq}
use Rattle.laws.proofs.Sections.{Cut}
use Rattle.laws.proofs.Fields.{Fit, Back, all_back, after-fields, laid-append, laid-length, stands, here, one}
use Rattle.laws.proofs.Fields.{absent-here}
use Rattle.laws.proofs.Bounded.{NumberIs}
use Rattle.theorems.proofs.Laid.{Sec, empty_sec, whole_sec, part_is}

abbrev pub map_len : ℕ → ℕ
map_len n = even_from (6 + octets_for n)

abbrev map_fields : ℕ → List Field
map_fields n = field 3 (map_len n) ∷ field 1 (8 * (map_len n - 6) - n) ∷ field 2 0 ∷ []

abbrev stored_fields : ℕ → List Field
stored_fields number = field 3 6 ∷ field 1 0 ∷ field 2 number ∷ []

abbrev map_bits : (ℕ → ℕ) → ℕ → List ℕ
map_bits f n = runs (bits_in 1 (tab f n)) 0 8 (map_len n - 6)

carried-laid : (f : ℕ → ℕ) (n : ℕ) → bms_of Carried f n ≡ laid (map_fields n) (map_bits f n)
unfolding bms_of
carried-laid f n = refl

stored-laid : (k : ℕ) (f : ℕ → ℕ) (n : ℕ) → bms_of (Stored k) f n ≡ laid (stored_fields k) []
unfolding bms_of
stored-laid k f n = refl

-- what the writer's rows leave of each kind: f says which of n points are present
abbrev pub MapOk : Bitmap → Lent → (ℕ → ℕ) → ℕ → Type 0
MapOk Without lent f n = (i : ℕ) → i < n → f i ≡ 1
MapOk Carried lent f n = Unit {0}
MapOk (Stored k) lent f n =
    (k < 2 ^ 16) × (any_of (lent_faults lent k n) ≡ false) × ((i : ℕ) → i < n → bits_in 8 lent.octets i ≡ f i)

carried-length : (f : ℕ → ℕ) (n : ℕ) → length (bms_of Carried f n) ≡ map_len n
carried-length f n =
    let e : length (map_bits f n) ≡ map_len n - 6 = length_runs (bits_in 1 (tab f n)) 0 8 (map_len n - 6) in
    let g : length (laid (map_fields n) (map_bits f n)) ≡ 6 + length (map_bits f n) = laid-length (map_fields n) (map_bits f n) in
    ap length (carried-laid f n) ∙ omega arith

stored-length : (k : ℕ) (f : ℕ → ℕ) (n : ℕ) → length (bms_of (Stored k) f n) ≡ 6
stored-length k f n = ap length (stored-laid k f n) ∙ laid-length (stored_fields k) []

map-fit : (n : ℕ) → n ≤ points_most → Fit (map_fields n)
map-fit n h = (omega arith, (omega arith, (omega arith, tt)))

stored-fit : (k : ℕ) → k < 2 ^ 16 → Fit (stored_fields k)
stored-fit k h = (omega arith, (omega arith, (h, tt)))

pub bms-most : (b : Bitmap) (f : ℕ → ℕ) (n most : ℕ) → n ≤ most → length (bms_of b f n) ≤ map_len most
unfolding bms_of
bms-most Without f n most h = omega arith
bms-most Carried f n most h = omega (arith, carried-length f n)
bms-most (Stored k) f n most h = omega (arith, stored-length k f n)

pub bms_sec : (b : Bitmap) (lent : Lent) (f : ℕ → ℕ) (n : ℕ) → n ≤ points_most → MapOk b lent f n
    → Sec (the_bitmap_given b) bms_least (bms_of b f n)
unfolding bms_of
bms_sec Without lent f n h o = empty_sec bms_least
bms_sec Carried lent f n h o =
    let b = all_back (bms_of Carried f n) 0 0 (map_fields n) (map_bits f n) (carried-laid f n) (map-fit n h) in
    let l = carried-length f n in
    whole_sec bms_least (bms_of Carried f n) (b.0 ∙ sym l) (omega (arith, l))
    (ne_eqb (length (bms_of Carried f n) % 2) 1 (λ q. omega (arith, l)))
bms_sec (Stored k) lent f n h o =
    let b = all_back (bms_of (Stored k) f n) 0 0 (stored_fields k) [] (stored-laid k f n) (stored-fit k o.0) in
    let l = stored-length k f n in
    whole_sec bms_least (bms_of (Stored k) f n) (b.0 ∙ sym l) (omega (arith, l)) (ap (λ (x : ℕ). eqb (x % 2) 1) l)

module _ (s : List ℕ) (lent : Lent) (k : ℕ) (f : ℕ → ℕ) (n : ℕ) (rest : List ℕ) (few : n ≤ points_most)
    (b : Bits f) where
  standing : drop k s ≡ bms_of Carried f n ++ rest → drop (k + 0) s ≡ laid (map_fields n) (map_bits f n ++ rest)
  standing h = stands s k (map_fields n) (map_bits f n) rest (h ∙ ap (λ (x : List ℕ). x ++ rest) (carried-laid f n))

  carried-back : drop k s ≡ bms_of Carried f n ++ rest → Back s k 0 (map_fields n)
  carried-back h = all_back s k 0 (map_fields n) (map_bits f n ++ rest) (standing h) (map-fit n few)

  bit-back : drop k s ≡ bms_of Carried f n ++ rest → (i : ℕ) → i < (map_len n - 6) * 8
      → bits_in 8 (drop (k + 6) s) i ≡ bits_in 1 (tab f n) i
  bit-back h i l =
      ap (λ (x : List ℕ). bits_in 8 x i) (after-fields s k 0 (map_fields n) (map_bits f n ++ rest) (standing h))
      ∙ bits-runs (bits_in-bits 1 (tab f n)) 0 8 (map_len n - 6) rest i l ∙ ap (bits_in 1 (tab f n)) (zero-add i)

  stored_back : (j : ℕ) → j < 2 ^ 16 → drop k s ≡ bms_of (Stored j) f n ++ rest → Back s k 0 (stored_fields j)
  stored_back j l h =
      all_back s k 0 (stored_fields j) rest
      (stands s k (stored_fields j) [] rest (h ∙ ap (λ (x : List ℕ). x ++ rest) (stored-laid j f n))) (stored-fit j l)

  pub bitmap-back : (m : Bitmap) → MapOk m lent f n → drop k s ≡ bms_of m f n ++ rest → the_bitmap_at s (the_bitmap_given m) k ≡ m
  unfolding the_bitmap_at lent_faults
  bitmap-back Without o h = refl
  bitmap-back Carried o h = ap (λ (x : ℕ). cond (eqb x 0) Carried (Stored x)) (carried-back h).2.2.0
  bitmap-back (Stored j) o h =
      ap (λ (x : ℕ). cond (eqb x 0) Carried (Stored x)) (stored_back j o.0 h).2.2.0
      ∙ ap (λ (x : Bool). cond x Carried (Stored j)) (none_of (lent_faults lent j n) o.1).0

  pub bitmap-none : (m : Bitmap) → MapOk m lent f n → drop k s ≡ bms_of m f n ++ rest
      → any_of (bitmap_faults s lent (part_is k (bms_of m f n)) m n) ≡ false
  unfolding bitmap_faults
  bitmap-none Without o h = any_none [] tt
  bitmap-none Carried o h =
      let u = (carried-back h).2.1 refl in
      let l = carried-length f n in
      any_none _ (
        le-ltb 15 (octet s k 4) (omega (arith, u)),
        (not_eq (8 * (length (bms_of Carried f n) - 6)) (n + octet s k 4) (omega (arith, u, l)), tt),
      )
  bitmap-none (Stored j) o h =
      any_none _ (
        not_eq _ _ (stored-length j f n),
        (not_eq _ _ ((stored_back j o.0 h).2.1 refl), none_of (lent_faults lent j n) o.1),
      )

  pub present-back : (m : Bitmap) → MapOk m lent f n → drop k s ≡ bms_of m f n ++ rest → (i : ℕ) → i < n
      → present_by m (bitmap_octets s lent.octets (in_force m (part_is k (bms_of m f n)) n)) i ≡ f i
  unfolding present_by bitmap_octets in_force
  present-back Without o h i l = sym (o i l)
  present-back Carried o h i l =
      bits-take (octets_for n) (drop (k + 6) s) i (omega arith) ∙ bit-back h i (omega arith) ∙ mark-bit f n b i l
  present-back (Stored j) o h i l = bits-take (octets_for n) lent.octets i (omega arith) ∙ o.2 i l

  pub map-clean : (m : Bitmap) → drop k s ≡ bms_of m f n ++ rest → bitmap_padding_set s m k n ≡ false
  map-clean Without h = refl
  map-clean (Stored j) h = refl
  map-clean Carried h =
      let u : octet s k 4 ≡ 8 * (map_len n - 6) - n = (carried-back h).2.1 refl in
      let l = length-tab f n in
      not_eq _ _ (count-zero (bits_in 8 s) ((k + 6) * 8 + n) (octet s k 4) (λ i q.
      let e : (k + 6) * 8 + n + i ≡ (k + 6) * 8 + (n + i) = omega arith in
      ap (bits_in 8 s) e ∙ bits-drop (k + 6) s (n + i) ∙ bit-back h (n + i) (omega arith)
      ∙ bits-past 1 (tab f n) (n + i) (wide-tab f n b) (omega arith)))

-- a carried section's length is forced: even, with 0 to 15 bits left over
map-len : (len n u : ℕ) → bms_least ≤ len → (len % 2 ≡ 1 → ⊥) → 8 * (len - 6) ≡ n + u → u < 16 → map_len n ≡ len
map-len len n u a b c d = omega arith

carried_here : (s : List ℕ) (k len n : ℕ) (f : ℕ → ℕ) → Wide 8 s → k + len ≤ length s → bms_least ≤ len
    → (len % 2 ≡ 1 → ⊥) → number s k 1 3 ≡ len
    → number s k 5 6 ≡ 0 → octet s k 4 ≤ 15 → 8 * (len - 6) ≡ n + octet s k 4 → Bits f
    → ((i : ℕ) → i < n → f i ≡ bits_in 8 s ((k + 6) * 8 + i))
    → ((i : ℕ) → i < octet s k 4 → bits_in 8 s ((k + 6) * 8 + n + i) ≡ 0)
    → bms_of Carried f n ++ drop (k + len) s ≡ drop k s
carried_here s k len n f w l least even e1 e5 few rule b same pad =
    let at = (k + 6) * 8 in
    let le : map_len n ≡ len = map-len len n (octet s k 4) least even rule (omega arith) in
    let lt : length (tab f n) ≡ n = length-tab f n in
    let bits : (i : ℕ) → i < (len - 6) * 8 → bits_in 1 (tab f n) i ≡ bits_in 8 s (at + i) = λ i h. ⊎_elim
    (λ q. mark-bit f n b i q ∙ same i q)
    (λ q.
    let e : at + n + (i - n) ≡ at + i = omega arith in
    bits-past 1 (tab f n) i (wide-tab f n b) (omega arith) ∙ sym (pad (i - n) (omega arith)) ∙ ap (bits_in 8 s) e)
    (lt_or_ge i n) in
    let tail : map_bits f n ≡ take (len - 6) (drop (k + 6) s) =
    ap (λ (x : ℕ). runs (bits_in 1 (tab f n)) 0 8 (x - 6)) le
    ∙ octets-here s (k + 6) (len - 6) (bits_in 1 (tab f n)) w (omega arith) bits in
    let u : octet s k 4 ≡ 8 * (map_len n - 6) - n = omega arith in
    let g : k + len ≡ k + 6 + (len - 6) = omega arith in
    ap (λ (x : List ℕ). x ++ drop (k + len) s) (carried-laid f n)
    ∙ laid-append (map_fields n) (map_bits f n) (drop (k + len) s)
    ∙ here s k (map_fields n) (map_bits f n ++ drop (k + len) s) w (omega arith)
    (e1 ∙ sym le, (one s w (k + 3) ∙ u, (e5, tt)))
    (ap₂ (λ (x : List ℕ) (y : ℕ). x ++ drop y s) tail g ∙ cut s (k + 6) (len - 6))

stored_here : (s : List ℕ) (k j n : ℕ) (f : ℕ → ℕ) → Wide 8 s → k + 6 ≤ length s → number s k 1 3 ≡ 6 → octet s k 4 ≡ 0
    → number s k 5 6 ≡ j
    → bms_of (Stored j) f n ++ drop (k + 6) s ≡ drop k s
stored_here s k j n f w l e1 e4 e5 =
    ap (λ (x : List ℕ). x ++ drop (k + 6) s) (stored-laid j f n) ∙ laid-append (stored_fields j) [] (drop (k + 6) s)
    ∙ here s k (stored_fields j) (drop (k + 6) s) w l (e1, (one s w (k + 3) ∙ e4, (e5, tt))) refl

-- laid again from what was read: a section of any kind, there or not
pub map-here : (m : Bitmap) (there : Bool) (s : List ℕ) (lent : Lent) (p : Part) (n : ℕ) (f : ℕ → ℕ) → Wide 8 s
    → p.start + p.len ≤ length s
    → there ≡ the_bitmap_given m → Cut there bms_least s p → NumberIs s p.start m
    → any_of (bitmap_faults s lent p m n) ≡ false → bitmap_padding_set s m p.start n ≡ false
    → Bits f → ((i : ℕ) → i < n → f i ≡ present_by m (bitmap_octets s lent.octets (in_force m p n)) i)
    → bms_of m f n ++ drop (p.start + p.len) s ≡ drop p.start s
unfolding bitmap_faults present_by bitmap_octets in_force bms_of
map-here Without there s lent p n f w l e c is h z b same =
    absent-here s p.start p.len (c.says ∙ ap (λ (x : Bool). cond x (number s p.start 1 3) 0) e)
map-here Carried there s lent p n f w l e c is h z b same =
    let k = p.start in
    let g = none_of (bitmap_faults s lent p Carried n) h in
    carried_here s k p.len n f w l (c.least e) (c.even e)
    (sym (c.says ∙ ap (λ (x : Bool). cond x (number s k 1 3) 0) e)) is
    (ltb-false 15 (octet s k 4) g.0) (is_eq _ _ g.1.0) b
    (λ i q. same i q ∙ bits-take (octets_for n) (drop (k + 6) s) i (omega arith) ∙ sym (bits-drop (k + 6) s i))
    (zeros_of (bits_in 8 s) ((k + 6) * 8 + n) (octet s k 4) (is_eq _ _ z))
map-here (Stored j) there s lent p n f w l e c is h z b same =
    let k = p.start in
    let g = none_of (bitmap_faults s lent p (Stored j) n) h in
    let q : p.len ≡ 6 = is_eq p.len 6 g.0 in
    ap (λ (x : ℕ). bms_of (Stored j) f n ++ drop (k + x) s) q
    ∙ stored_here s k j n f w (omega (arith, l, q)) (sym (c.says ∙ ap (λ (x : Bool). cond x (number s k 1 3) 0) e) ∙ q)
    (is_eq _ _ g.1.0) is

-- the points that a bitmap says are present
pub present-bits : (m : Bitmap) (o : List ℕ) → Bits (present_by m o)
unfolding present_by
present-bits Without o i = omega arith
present-bits Carried o i = bits_in-bits 8 o i
present-bits (Stored j) o i = bits_in-bits 8 o i

pub present-absent : (m : Bitmap) (o : List ℕ) (i : ℕ) → present_by m o i ≡ 0 → the_bitmap_given m ≡ true
unfolding present_by
present-absent Without o i e = absurd (subst T (sym (eq-eqb 1 0 e)) tt)
present-absent Carried o i e = refl
present-absent (Stored j) o i e = refl
