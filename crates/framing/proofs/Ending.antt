-- The octets that make a data section once its values are put, with the end section after them.
use mathlib.Core.Path.{◌≡◌, refl, sym, ap, ap₂, ◌∙◌}
use mathlib.Core.Bool.{Bool, true, cond}
use mathlib.Core.List.{List, [], ◌∷◌, ◌++◌, append_assoc, append-nil}
use mathlib.Core.Logic.{⊎_elim}
use Prim.Native.Nat.{ℕ, ◌+◌, ◌-◌, ◌*◌, ◌/◌, ◌%◌, ◌^◌, ◌≤◌, ◌<◌}
use native.Mathlib.Nat.{zero-add, add-zero, zero-div}
use native.Mathlib.Omega.{arith}
use lib.ListN.{length, take, drop, length-append, length-drop}
use lib.Seq.{take-append-le, take_at, drop_at, drop-append-add, drop-drop, length-take-le}
use Rattle.rules.specs.Bounds.{the_bits_most}
use Rattle.bits.specs.Bits.{bit_of, bits_in, runs, octets_for, number_at, count, packed_into, placed, Wide}
use Rattle.bits.proofs.Runs.{lt_or_ge}
use Rattle.bits.proofs.Fill.{tab-of}
use Rattle.bits.proofs.Trip.{length_runs, runs_ext, bits-past}
use Rattle.bits.proofs.Kept.{length-packed}
use Rattle.bits.proofs.Placed.{runs-split}
use Rattle.bits.proofs.Placing.{length-placed, number-placed}
use Rattle.puts.specs.Put.{the_put_number}
use Rattle.packs.specs.Pack.{pack_fits, packed}
use Rattle.packs.proofs.Lists.{pack_takes}
use Rattle.packs.proofs.Over.{take_runs}
use Rattle.rules.specs.Numbers.{field, octets, laid}
use Rattle.rules.specs.Places.{sevens}
use Rattle.rules.specs.Bitmap.{mark_of, value_of}
use Rattle.rules.specs.Points.{gathered}
use Rattle.writable.specs.Listed.{Listed}
use Rattle.laws.proofs.Fields.{laid-length}
use Rattle.framing.proofs.Gathered.{gathered-all}
use Rattle.puts.proofs.Laying.{number_put, length-octets}
use Rattle.framing.proofs.Placing.{placed-after, placed-from, part-whole, part-rest}

-- the octets that a data section ends in: the last of them cleared first, the values put, and then '7777'
module _ (n : ℕ) (xs : List ℕ) (w : Wide n xs) (c : ℕ) (pos : 0 < c) (low : octets_for (length xs * n) ≤ c)
    (high : c ≤ octets_for (length xs * n) + 1) (d : List ℕ) (room : c + 4 ≤ length d) where
  abbrev G : ℕ → ℕ
  G = bits_in n xs

  abbrev B : List ℕ
  B = take (c - 1) d ++ octets 1 0

  cleared : number_at d (c - 1) 1 0 ≡ B ++ drop c d
  unfolding number_at
  cleared = let e : c - 1 + 1 ≡ c = omega arith in ap (λ (x : ℕ). B ++ drop x d) e

  length-B : length B ≡ c
  length-B =
      let e : c - 1 + 1 ≡ c = omega arith in
      length-append (take (c - 1) d) (octets 1 0)
      ∙ ap₂ (λ (x y : ℕ). x + y) (length-take-le (c - 1) d (omega arith)) (length-octets 1 0) ∙ e

  zero-octet : octets_for (length xs * n) ≤ c - 1 → octets 1 0 ≡ runs G (0 + (c - 1) * 8) 8 1
  unfolding bit_of
  zero-octet h = runs_ext (bit_of 8 0) G 0 (0 + (c - 1) * 8) 8 1
      (λ i k. ap (λ (x : ℕ). x % 2) (zero-div (2 ^ (8 - 1 - (0 + i))))
      ∙ sym (bits-past n xs (0 + (c - 1) * 8 + i) w (omega arith)))

  module _ (o₁ o₂ : List ℕ) (e₁ : o₁ ≡ number_at d (c - 1) 1 0) (f : o₂ ≡ packed_into n xs o₁) where
    abbrev K : ℕ
    K = octets_for (length xs * n)

    abbrev A : List ℕ
    A = runs G 0 8 K

    length-A : length A ≡ K
    length-A = length_runs G 0 8 K

    is : o₂ ≡ A ++ drop K o₁
    unfolding packed_into
    is = f

    front : take c o₂ ≡ runs G 0 8 c
    front = ⊎_elim
        (λ (h : K < c).
        let k : K ≡ c - 1 = omega arith in
        let s : c - 1 + 1 ≡ c = omega arith in
        let e : drop (c - 1) o₁ ≡ octets 1 0 ++ drop c d =
        ap (drop (c - 1)) (e₁ ∙ cleared ∙ append_assoc (take (c - 1) d) (octets 1 0) (drop c d))
        ∙ drop_at (take (c - 1) d) (octets 1 0 ++ drop c d) (c - 1) (length-take-le (c - 1) d (omega arith)) in
        let P = runs G 0 8 (c - 1) ++ octets 1 0 in
        let l : length P ≡ c = length-append (runs G 0 8 (c - 1)) (octets 1 0) ∙ ap₂ (λ (x y : ℕ). x + y) (length_runs G 0 8 (c - 1)) (length-octets 1 0) ∙ s in
        ap (take c)
        (is ∙ ap (λ (x : ℕ). runs G 0 8 x ++ drop x o₁) k ∙ ap (λ (x : List ℕ). runs G 0 8 (c - 1) ++ x) e
        ∙ sym (append_assoc (runs G 0 8 (c - 1)) (octets 1 0) (drop c d)))
        ∙ take_at P (drop c d) c l
        ∙ ap (λ (x : List ℕ). runs G 0 8 (c - 1) ++ x) (zero-octet (omega arith)) ∙ sym (runs-split G 0 8 (c - 1) 1)
        ∙ ap (runs G 0 8) s)
        (λ (h : c ≤ K).
        let a = length-A in
        ap (take c) is ∙ take-append-le c A (drop K o₁) (omega arith) ∙ take_runs G 0 8 c K h)
        (lt_or_ge K c)

    rest : drop (c + 4) o₂ ≡ drop (c + 4) d
    rest =
        let a = length-A in
        let b = length-B in
        let s : length A + (c + 4 - K) ≡ c + 4 = omega arith in
        let t : K + (c + 4 - K) ≡ c + 4 = omega arith in
        ap₂ drop (sym s) is ∙ drop-append-add A (drop K o₁) (c + 4 - K) ∙ drop-drop (c + 4 - K) K o₁
        ∙ ap₂ drop (t ∙ ap (λ (x : ℕ). x + 4) (sym b)) (e₁ ∙ cleared) ∙ drop-append-add B (drop c d) 4 ∙ drop-drop 4 c d

    data_room : c + 4 ≤ length o₂
    data_room =
        let e : length o₁ ≡ length d = ap length (e₁ ∙ number-placed d (c - 1) 1 0) ∙ length-placed d (c - 1) (octets 1 0) (omega (arith, length-octets 1 0)) in
        omega (arith, ap length f, length-packed n xs o₁ (omega arith))

    data_placed : number_at o₂ c 4 sevens ≡ placed d 0 (runs G 0 8 c ++ laid (field 4 sevens ∷ []) [])
    unfolding number_at placed
    data_placed =
        let l : length (runs G 0 8 c ++ laid (field 4 sevens ∷ []) []) ≡ c + 4 =
        length-append (runs G 0 8 c) (laid (field 4 sevens ∷ []) [])
        ∙ ap₂ (λ (x y : ℕ). x + y) (length_runs G 0 8 c) (laid-length (field 4 sevens ∷ []) []) in
        ap₂ (λ (x y : List ℕ). (x ++ octets 4 sevens) ++ y) front rest
        ∙ ap₂ (λ (x : List ℕ) (y : ℕ). (runs G 0 8 c ++ x) ++ drop y d) (sym (append-nil (octets 4 sevens)))
        (sym (zero-add (c + 4)) ∙ ap (λ (x : ℕ). 0 + x) (sym l))

-- the same in the part of y from place at on, and '7777' put into the whole
pub data_laid : (n : ℕ) (xs : List ℕ) → Wide n xs → (c : ℕ) → 0 < c → octets_for (length xs * n) ≤ c
    → c ≤ octets_for (length xs * n) + 1 → (y : List ℕ) (at : ℕ) → at + (c + 4) ≤ length y
    → (o₁ : List ℕ) → o₁ ≡ placed y (at + (c - 1)) (octets 1 0) → (q : List ℕ)
    → q ≡ packed_into n xs (take (length o₁ - at) (drop at o₁))
    → (k : ℕ) → k ≡ at + c → (o₃ : List ℕ)
    → o₃ ≡ the_put_number (take at o₁ ++ (q ++ drop (length o₁ - at) (drop at o₁))) k 1 4 sevens
    → o₃ ≡ placed y at (runs (bits_in n xs) 0 8 c ++ laid (field 4 sevens ∷ []) [])
data_laid n xs w c pos low high y at room o₁ e₁ q f k ek o₃ e₃ =
    let A = take at y in
    let d = drop at y in
    let z = number_at d (c - 1) 1 0 in
    let la : length A ≡ at = length-take-le at y (omega arith) in
    let ld : length d ≡ length y - at = length-drop at y in
    let s : o₁ ≡ A ++ z = e₁ ∙ placed-from y at (c - 1) (octets 1 0) (omega arith) ∙ ap (λ (x : List ℕ). A ++ x) (sym (number-placed d (c - 1) 1 0)) in
    let g : q ≡ packed_into n xs z = f ∙ ap (packed_into n xs) (part-whole o₁ at ∙ ap (drop at) s ∙ drop_at A z at la) in
    let r = data_room n xs w c pos low high d (omega arith) z q refl g in
    let t : take at o₁ ++ (q ++ drop (length o₁ - at) (drop at o₁)) ≡ A ++ q =
    ap₂ (λ (x y : List ℕ). x ++ (q ++ y)) (ap (take at) s ∙ take_at A z at la) (part-rest o₁ at)
    ∙ ap (λ (x : List ℕ). A ++ x) (append-nil q) in
    let l : length (A ++ q) ≡ length A + length q = length-append A q in
    number_put (A ++ q) o₃ (length A + c) 4 sevens (omega arith) (omega arith)
    (e₃ ∙ ap₂ (λ (x : List ℕ) (j : ℕ). the_put_number x j 1 4 sevens) t (ek ∙ ap (λ (j : ℕ). j + c) (sym la)))
    ∙ number-placed (A ++ q) (length A + c) 4 sevens
    ∙ placed-after A q c (octets 4 sevens)
    ∙ ap (λ (x : List ℕ). A ++ x)
    (sym (number-placed q c 4 sevens) ∙ data_placed n xs w c pos low high d (omega arith) z q refl g)
    ∙ sym (placed-from y at 0 _ (omega arith))
    ∙ ap (λ (j : ℕ). placed y j (runs (bits_in n xs) 0 8 c ++ laid (field 4 sevens ∷ []) [])) (add-zero at)

-- the whole list packed, where every point is present
pub pack-whole : (values marks : List ℕ) (bits m : ℕ) (d o : List ℕ) → bits ≤ the_bits_most → Listed values marks bits
    → m ≡ count (mark_of marks) 0 (length values) → m ≡ length values
    → m * bits / 8 + 4 ≤ length d → o ≡ packed bits values d
    → o ≡ packed_into bits (gathered (mark_of marks) (value_of values) (length values)) d
unfolding packed
pack-whole values marks bits m d o l p e h r q =
    let n = length values in
    let g : gathered (mark_of marks) (value_of values) n ≡ values =
    gathered-all (mark_of marks) p.mark (value_of values) n (sym e ∙ h) ∙ tab-of values 0 in
    let a : length values ≡ m = sym h in
    let b : length values * bits ≡ m * bits = ap (λ (x : ℕ). x * bits) a in
    let s = p.few in
    let f : pack_fits bits values (length d) ≡ true = pack_takes bits values (length d) l (omega arith) p.value (omega arith) in
    q ∙ ap (λ (x : Bool). cond x (packed_into bits values d) d) f ∙ ap (λ (x : List ℕ). packed_into bits x d) (sym g)
