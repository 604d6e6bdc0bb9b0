-- How far the values are after each block: of those so far, whole blocks are packed and the rest are held. Nothing yet,
-- a block of points more, and the end.
use mathlib.Core.Path.{◌≡◌, refl, sym, ap, ap₂, ◌∙◌, subst}
use mathlib.Core.Bool.{Bool, true, cond}
use mathlib.Core.List.{List, [], ◌∷◌, ◌++◌, append_assoc, append-nil}
use mathlib.Core.Logic.{⊎_elim}
use Prim.Native.Nat.{ℕ, zero, suc, ◌+◌, ◌-◌, ◌*◌, ◌/◌, ◌^◌, ◌≤◌, ◌<◌}
use native.Mathlib.Nat.{add-zero, zero-add, add-suc, zero-mul, add-mul, mul_assoc, mul-le-mul_right}
use native.Mathlib.Omega.{arith}
use lib.ListN.{length, take, drop, length-append, length-drop}
use lib.Seq.{take-add, take_at, drop_at, drop-drop, take-take, take_all, take-append-le, drop-append-le, length-take-le}
use lib.Seq.{get_or-take, get_or-drop}
use Rattle.bits.specs.Bits.{count, octets_for, packed_into, Wide}
use Rattle.bits.proofs.Runs.{Bits, lt_or_ge}
use Rattle.bits.specs.Tables.{tab}
use Rattle.bits.proofs.Fill.{length-tab}
use Rattle.bits.proofs.Placed.{wide-take, pack-none}
use Rattle.bits.proofs.Kept.{length-packed}
use Rattle.rules.specs.Bitmap.{mark_of, value_of}
use Rattle.rules.specs.Points.{gathered}
use Rattle.laws.proofs.Gathered.{length-gathered, wide-gathered}
use Rattle.packs.specs.Pack.{pack_fits, packed}
use Rattle.packs.proofs.Lists.{pack_takes}
use Rattle.laws.specs.Marks.{here}
use Rattle.gathering.specs.Gather.{here_from, gathered_of}
use Rattle.gathering.proofs.Here.{here-bits, here-from-bits, here-marked}
use Rattle.gathering.proofs.Gathered.{gathered-of, gathered-here, gathered-more, gathered-present, gather-after}
use Rattle.gathering.proofs.Gathered.{length-gathered-of}
use Rattle.blocks.specs.declared.{Progress.Progress}
use Rattle.blocks.specs.Block.{held_with, count_with, moved_up, packed_from, settled_at, settled_held, settled_out}
use Rattle.blocks.specs.Block.{block_fits, block_at, block_held, block_out, the_last_fits, last_out}
use Rattle.blocks.specs.Passed.{Passed}
use Rattle.blocks.proofs.Append.{pack-append}
use Rattle.blocks.proofs.Fitting.{block-fits, last_fits, so_where}
use Rattle.blocks.proofs.Parts.{length-with, with-few}
use Rattle.blocks.proofs.Settled.{full-few, full-many, settled_so, settled_not}

-- what fits is packed
packed_so : (n c : ℕ) (held : List ℕ) (place : ℕ) (out : List ℕ) → pack_fits n (take c held) (length out - place) ≡ true
    → packed_from n c held place out ≡ take place out ++ packed_into n (take c held) (drop place out)
unfolding packed_from packed
packed_so n c held place out h =
    let f : pack_fits n (take c held) (length (drop place out)) ≡ true = ap (pack_fits n (take c held)) (length-drop place out) ∙ h in
    ap (λ (t : Bool). take place out ++ cond t (packed_into n (take c held) (drop place out)) (drop place out)) f

blocks-bits : (b n : ℕ) → b * 256 * n ≡ b * (n * 32) * 8
blocks-bits b n = mul_assoc b 256 n ∙ ap (λ (z : ℕ). b * z) (omega arith) ∙ sym (mul_assoc b (n * 32) 8)

take-drop : (a m : ℕ) (xs : List ℕ) → a ≤ length xs → take m (drop a xs) ≡ drop a (take (a + m) xs)
take-drop a m xs h =
    sym (ap (drop a) (take-add a m xs) ∙ drop_at (take a xs) (take m (drop a xs)) a (length-take-le a xs h))

wide-drop : (n k : ℕ) (xs : List ℕ) → Wide n xs → Wide n (drop k xs)
wide-drop n k xs w j = subst (λ (z : ℕ). z < 2 ^ n) (sym (get_or-drop k xs j 0)) (w (k + j))

passed-of : {n : ℕ} {xs d : List ℕ} (p p' : Progress) (held held' out out' : List ℕ) → p' ≡ p → held' ≡ held
    → out' ≡ out → Passed n xs d p held out → Passed n xs d p' held' out'
passed-of {n} {xs} {d} p p' held held' out out' a b c q =
    subst (λ (x : Progress). Passed n xs d x held' out') (sym a)
    (subst (λ (x : List ℕ). Passed n xs d p x out') (sym b)
    (subst (λ (x : List ℕ). Passed n xs d p held x) (sym c) q))

module _ (n : ℕ) (xs d : List ℕ) where
  -- some values more are held
  held_more : (p : Progress) (held out ys held' : List ℕ) (c : ℕ) → Passed n xs d p held out → c ≡ p.held + length ys
      → length held' ≡ length held → take c held' ≡ take p.held held ++ ys
      → Passed n (xs ++ ys) d (record { place = p.place; held = c }) held' out
  held_more p held out ys held' c q e s h =
      let k = q.count in
      record {
        blocks = q.blocks;
        at = q.at;
        count = length-append xs ys ∙ omega arith;
        size = s ∙ q.size;
        same = q.same;
        here = h ∙ ap (λ (x : List ℕ). x ++ ys) q.here ∙ sym (drop-append-le (q.blocks * 256) xs ys (omega arith));
        is = q.is ∙ ap (λ (x : List ℕ). packed_into n x d) (sym (take-append-le (q.blocks * 256) xs ys (omega arith)));
      }

  module _ (l : n ≤ 24) (w : Wide n xs) (room : octets_for (length xs * n) ≤ length d) (p : Progress) (held out : List ℕ)
      (q : Passed n xs d p held out) where
    abbrev b : ℕ
    b = q.blocks

    -- the first c held are those after the blocks, and have room
    ys_are : (c : ℕ) → c ≤ p.held → take c held ≡ take c (drop (b * 256) xs)
    ys_are c h = sym (take-take c p.held held h) ∙ ap (take c) q.here

    held-wide : (c : ℕ) → c ≤ p.held → Wide n (take c held)
    held-wide c h = subst (Wide n) (sym (ys_are c h)) (wide-take n (drop (b * 256) xs) c (wide-drop n (b * 256) xs w))

    held-bits : (c : ℕ) → c ≤ p.held → p.place * 8 + c * n ≤ length xs * n
    held-bits c h =
        let k = q.count in
        let m : (b * 256 + c) * n ≤ length xs * n = mul-le-mul_right n (omega arith) in
        omega (arith, m, add-mul (b * 256) c n, blocks-bits b n, ap (λ (z : ℕ). z * 8) q.at)

    pub place-fits : p.place ≤ length out
    place-fits = omega (arith, held-bits 0 (omega arith), zero-mul n, q.same, room)

    held_fits : (c : ℕ) → c ≤ p.held → c ≤ length held → c ≤ 512
        → pack_fits n (take c held) (length out - p.place) ≡ true
    held_fits c h k s =
        let t : length (take c held) ≡ c = length-take-le c held k in
        let u : length (take c held) * n ≡ c * n = ap (λ (z : ℕ). z * n) t in
        pack_takes n (take c held) (length out - p.place) l (omega arith) (held-wide c h)
        (omega (arith, u, held-bits c h, q.same, room))

    put : (c : ℕ) → c ≤ p.held → c ≤ length held → c ≤ 512
        → packed_from n c held p.place out ≡ packed_into n (take (b * 256 + c) xs) d
    put c h k s =
        let zs = take (b * 256) xs in
        let ys = take c (drop (b * 256) xs) in
        let a = q.count in
        let e : zs ++ ys ≡ take (b * 256 + c) xs = sym (take-add (b * 256) c xs) in
        let lz : length zs ≡ b * 256 = length-take-le (b * 256) xs (omega arith) in
        let o : length zs * n ≡ p.place * 8 = ap (λ (z : ℕ). z * n) lz ∙ blocks-bits b n ∙ ap (λ (z : ℕ). z * 8) (sym q.at) in
        packed_so n c held p.place out (held_fits c h k s)
        ∙ ap₂ (λ (u v : List ℕ). take p.place u ++ packed_into n v (drop p.place u)) q.is (ys_are c h)
        ∙ pack-append n zs ys d p.place (subst (Wide n) (sym e) (wide-take n xs (b * 256 + c) w))
        (wide-take n (drop (b * 256) xs) c (wide-drop n (b * 256) xs w)) o
        ∙ ap (λ (z : List ℕ). packed_into n z d) e

    -- 256 of them are packed, and those after them come to the front
    block-put : 256 ≤ p.held → p.held ≤ 512
        → Passed n xs d (record { place = p.place + n * 32; held = p.held - 256 }) (moved_up held) (packed_from n 256 held p.place out)
    unfolding moved_up
    block-put h m =
        let k = q.count in
        let z = q.size in
        let c = p.held - 256 in
        let ld : length (drop 256 held) ≡ 256 = length-drop 256 held ∙ omega arith in
        let e : b * 256 + 256 ≡ (b + 1) * 256 = omega arith in
        let t : 256 + c ≡ p.held = omega arith in
        let f : b * (n * 32) + n * 32 ≡ (b + 1) * (n * 32) = sym (add-mul b 1 (n * 32) ∙ ap (λ (x : ℕ). b * (n * 32) + x) (omega arith)) in
        record {
          blocks = b + 1;
          at = ap (λ (x : ℕ). x + n * 32) q.at ∙ f;
          count = omega arith;
          size = length-append (drop 256 held) (drop 256 held) ∙ omega (arith, ld);
          same = ap length (put 256 h (omega arith) (omega arith))
              ∙ length-packed n (take (b * 256 + 256) xs) d
              (subst (λ (x : ℕ). octets_for x ≤ length d)
              (ap (λ (x : ℕ). x * n) (sym (length-take-le (b * 256 + 256) xs (omega arith))))
              (omega (arith, mul-le-mul_right {m = b * 256 + 256} {n = length xs} n (omega arith), room)));
          here = take-append-le c (drop 256 held) (drop 256 held) (omega (arith, ld))
              ∙ take-drop 256 c held (omega arith) ∙ ap (λ (x : ℕ). drop 256 (take x held)) t ∙ ap (drop 256) q.here
              ∙ drop-drop 256 (b * 256) xs ∙ ap (λ (x : ℕ). drop x xs) e;
          is = put 256 h (omega arith) (omega arith) ∙ ap (λ (x : ℕ). packed_into n (take x xs) d) e;
        }

    -- 256 of them are packed where so many are held
    settle_put : p.held ≤ 511
        → ((settled_at n p.held held p.place out).held < 256)
        × Passed n xs d (settled_at n p.held held p.place out) (settled_held n p.held held p.place out)
        (settled_out n p.held held p.place out)
    settle_put m =
        let z = q.size in
        ⊎_elim
        (λ (h : p.held < 256).
        let s = settled_not n p.held held p.place out (full-few n p.held held p.place out h) in (
          subst (λ (x : Progress). x.held < 256) s.0 h,
          passed-of _ _ _ _ _ _ (sym s.0) (sym s.1.0)
              (sym s.1.1) q,
        ))
        (λ (h : 256 ≤ p.held).
        let s = settled_so n p.held held p.place out (full-many n p.held held p.place out h ∙ held_fits 256 h (omega arith) (omega arith)) in
        let k : p.held - 256 < 256 = omega arith in (
          subst (λ (x : Progress). x.held < 256) s.0 k,
          passed-of _ _ _ _ _ _ (sym s.0) (sym s.1.0)
              (sym s.1.1) (block-put h (omega arith)),
        ))
        (lt_or_ge p.held 256)

    -- those held are packed, and all are
    pub last-put : p.held < 256 → (out' : List ℕ) → out' ≡ last_out n held p out → out' ≡ packed_into n xs d
    last-put m out' e =
        let k = q.count in
        let z = q.size in
        so_where (the_last_fits (length held) p (length out)) out' _ out
        (last_fits (length held) p (length out) (omega arith) place-fits) e
        ∙ put p.held (omega arith) (omega arith) (omega arith)
        ∙ ap (λ (x : List ℕ). packed_into n x d) (take_all (b * 256 + p.held) xs (omega arith))

pub passed_none : (n : ℕ) (marks : List ℕ) (v : ℕ → ℕ) (d held : List ℕ) → length held ≡ 512
    → Passed n (gathered (mark_of marks) v 0) d (record { place = 0; held = 0 }) held d
unfolding gathered
passed_none n marks v d held s = record { blocks = 0; at = sym (zero-mul (n * 32)); count = refl; size = s; same = refl; here = refl; is = pack-none n [] d }

-- the values at present points, of N points
module _ (n : ℕ) (marks : List ℕ) (v : ℕ → ℕ) (N : ℕ) (l : n ≤ 24) (w : (i : ℕ) → v i < 2 ^ n) (d : List ℕ)
    (room : octets_for (length (gathered (mark_of marks) v N) * n) ≤ length d) where
  abbrev G : ℕ → List ℕ
  G i = gathered (mark_of marks) v i

  is-here : (i : ℕ) → gathered_of (here marks) v i ≡ G i
  is-here i = gathered-of (here marks) v i ∙ gathered-here marks v i

  G-more : (i m : ℕ) → G (i + m) ≡ G i ++ gathered_of (here_from marks i) (λ j. v (i + j)) m
  G-more i m =
      sym (is-here (i + m)) ∙ gathered-more (here marks) (here-bits marks) v i m
      ∙ ap (λ (x : List ℕ). x ++ gathered_of (here_from marks i) (λ j. v (i + j)) m) (is-here i)

  G-wide : (i : ℕ) → Wide n (G i)
  G-wide i = subst (Wide n) (gathered-here marks v i) (wide-gathered (here marks) (here-bits marks) v n w i)

  G-room : (i : ℕ) → i ≤ N → octets_for (length (G i) * n) ≤ length d
  G-room i h =
      let e : i + (N - i) ≡ N = omega arith in
      let k : length (G N) ≡ length (G i) + length (gathered_of (here_from marks i) (λ j. v (i + j)) (N - i)) = ap (λ (x : ℕ). length (G x)) (sym e) ∙ ap length (G-more i (N - i)) ∙ length-append (G i) _ in
      let m : length (G i) * n ≤ length (G N) * n = mul-le-mul_right n (omega arith) in
      omega (arith, m, room)

  counted : (i : ℕ) (values : List ℕ) (p : Progress)
      → count_with values marks i p.held
      ≡ p.held + length (gathered_of (here_from marks i) (λ j. v (i + j)) (length values))
  unfolding count_with
  counted i values p =
      ap (λ (x : ℕ). p.held + x)
      (sym (length-gathered-of (here_from marks i) (here-from-bits marks i) (λ j. v (i + j)) (length values)))

  taken : (i : ℕ) (values : List ℕ)
      → ((j : ℕ) → j < length values → mark_of marks (i + j) ≡ 1 → value_of values j ≡ v (i + j))
      → (p : Progress) (held : List ℕ) → p.held + length values ≤ length held
      → take (count_with values marks i p.held) (held_with values marks i p.held held) ≡ take p.held held
      ++ gathered_of (here_from marks i) (λ j. v (i + j)) (length values)
  unfolding count_with held_with
  taken i values are p held s =
      gather-after (here_from marks i) (here-from-bits marks i) (value_of values) held p.held (length values) s
      ∙ ap (λ (x : List ℕ). take p.held held ++ x)
      (gathered-present (here_from marks i) (value_of values) (λ j. v (i + j)) (length values)
      (λ j a t. are j a (here-marked marks (i + j) t)))

  block-whole : (i : ℕ) (values : List ℕ) → length values ≤ 256 → i + length values ≤ N → N ≤ length marks
      → ((j : ℕ) → j < length values → mark_of marks (i + j) ≡ 1 → value_of values j ≡ v (i + j))
      → (p : Progress) (held out : List ℕ) → p.held < 256 → Passed n (G i) d p held out
      → (p' : Progress) → p' ≡ block_at values marks i n held p out
      → (held' : List ℕ) → held' ≡ block_held values marks i n held p out
      → (out' : List ℕ) → out' ≡ block_out values marks i n held p out
      → (p'.held < 256) × Passed n (G (i + length values)) d p' held' out'
  block-whole i values few end long are p held out h q p' ep held' eh out' eo =
      let m = length values in
      let c = count_with values marks i p.held in
      let held₁ = held_with values marks i p.held held in
      let X = gathered_of (here_from marks i) (λ j. v (i + j)) m in
      let z = q.size in
      let fits : block_fits m (length marks) i (length held) p (length out) ≡ true =
      block-fits m (length marks) i (length held) p (length out) z (omega arith)
      (place-fits n (G i) d l (G-wide i) (G-room i (omega arith)) p held out q) (omega arith) in
      let q₁ : Passed n (G (i + m)) d (record { place = p.place; held = c }) held₁ out =
      subst (λ (x : List ℕ). Passed n x d (record { place = p.place; held = c }) held₁ out) (sym (G-more i m))
      (held_more n (G i) d p held out X held₁ c q (counted i values p) (length-with values marks i p.held held)
      (taken i values are p held (omega arith))) in
      let s = settle_put n (G (i + m)) d l (G-wide (i + m)) (G-room (i + m) end) (record { place = p.place; held = c }) held₁ out q₁ (omega (arith, with-few values marks i p.held)) in
      let ap' = so_where _ p' _ p fits ep in (
        subst (λ (x : Progress). x.held < 256) (sym ap') s.0,
        passed-of _ p' _ held' _ out' ap' (so_where _ held' _ held fits eh) (so_where _ out' _ out fits eo) s.1,
      )

  -- m points more
  pub block_more : (i m : ℕ) (values : List ℕ) → length values ≡ m → m ≤ 256 → i + m ≤ N → N ≤ length marks
      → ((j : ℕ) → j < m → mark_of marks (i + j) ≡ 1 → value_of values j ≡ v (i + j))
      → (p : Progress) (held out : List ℕ) → p.held < 256 → Passed n (G i) d p held out
      → (p' : Progress) → p' ≡ block_at values marks i n held p out → (held' : List ℕ)
      → held' ≡ block_held values marks i n held p out → (out' : List ℕ) → out' ≡ block_out values marks i n held p out
      → (p'.held < 256) × Passed n (G (i + m)) d p' held' out'
  block_more i m values e few end long are p held out h q p' ep held' eh out' eo =
      let t = block-whole i values (omega arith) (omega arith) long (λ j l. are j (omega arith)) p held out h q p' ep held' eh out' eo in
      (t.0, subst (λ (x : ℕ). Passed n (G (i + x)) d p' held' out') e t.1)

  pub last-all : (p : Progress) (held out : List ℕ) → p.held < 256 → Passed n (G N) d p held out
      → (out' : List ℕ) → out' ≡ last_out n held p out → out' ≡ packed_into n (G N) d
  last-all p held out h q out' e = last-put n (G N) d l (G-wide N) room p held out q h out' e

-- a part of a list
pub part-value : (values : List ℕ) (i m j : ℕ) → j < m → value_of (take m (drop i values)) j ≡ value_of values (i + j)
part-value values i m j h = get_or-take m (drop i values) j 0 h ∙ get_or-drop i values j 0

-- the room that the present values take
pub present-room : (n : ℕ) (marks : List ℕ) (v : ℕ → ℕ) (N k : ℕ) → Bits (mark_of marks)
    → count (mark_of marks) 0 N * n / 8 + 4 ≤ k → octets_for (length (gathered (mark_of marks) v N) * n) ≤ k
present-room n marks v N k b h = let e = ap (λ (x : ℕ). x * n) (length-gathered (mark_of marks) b v N) in omega (arith, e)

-- a list of values of which none is absent, whose values are made a block at a time where they are held
module _ (n : ℕ) (v : ℕ → ℕ) (N : ℕ) (l : n ≤ 24) (w : Wide n (tab v N)) (d : List ℕ)
    (room : octets_for (N * n) ≤ length d) where
  tab-more : (i m : ℕ) → tab v (i + m) ≡ tab v i ++ tab (λ j. v (i + j)) m
  unfolding tab
  tab-more i zero = ap (tab v) (add-zero i) ∙ sym (append-nil (tab v i))
  tab-more i (suc m) =
      rw add-suc
      (ap (λ (x : List ℕ). x ++ (v (i + m) ∷ [])) (tab-more i m)
      ∙ append_assoc (tab v i) (tab (λ j. v (i + j)) m) (v (i + m) ∷ []))

  T-wide : (i : ℕ) → i ≤ N → Wide n (tab v i)
  T-wide i h =
      let e : i + (N - i) ≡ N = omega arith in
      subst (Wide n) (ap (take i) (ap (tab v) (sym e) ∙ tab-more i (N - i)) ∙ take_at (tab v i) _ i (length-tab v i))
      (wide-take n (tab v N) i w)

  T-room : (i : ℕ) → i ≤ N → octets_for (length (tab v i) * n) ≤ length d
  T-room i h = omega (arith, ap (λ (x : ℕ). x * n) (length-tab v i), mul-le-mul_right n h, room)

  -- m values are held
  values-held : (i m place : ℕ) (held held' out : List ℕ)
      → Passed n (tab v i) d (record { place = place; held = 0 }) held out → length held' ≡ 512
      → take m held' ≡ tab (λ j. v (i + j)) m
      → Passed n (tab v (i + m)) d (record { place = place; held = m }) held' out
  values-held i m place held held' out q s h =
      subst (λ (x : List ℕ). Passed n x d (record { place = place; held = m }) held' out) (sym (tab-more i m))
      (held_more n (tab v i) d (record { place = place; held = 0 }) held out (tab (λ j. v (i + j)) m) held' m q (sym (zero-add (length (tab (λ j. v (i + j)) m)) ∙ length-tab (λ j. v (i + j)) m)) (s ∙ sym q.size) h)

  pub every-none : (held : List ℕ) → length held ≡ 512 → Passed n (tab v 0) d (record { place = 0; held = 0 }) held d
  unfolding tab
  every-none held s = record { blocks = 0; at = sym (zero-mul (n * 32)); count = refl; size = s; same = refl; here = refl; is = pack-none n [] d }

  pub every-place : (i : ℕ) (p : Progress) (held out : List ℕ) → i ≤ N → Passed n (tab v i) d p held out
      → p.place ≤ length d
  every-place i p held out h q =
      omega (arith, place-fits n (tab v i) d l (T-wide i h) (T-room i h) p held out q, q.same)

  -- a block more
  pub every_more : (i place : ℕ) (held held' out out' : List ℕ) → i + 256 ≤ N
      → Passed n (tab v i) d (record { place = place; held = 0 }) held out
      → length held' ≡ 512 → take 256 held' ≡ tab (λ j. v (i + j)) 256
      → out' ≡ last_out n held' (record { place = place; held = 256 }) out
      → Passed n (tab v (i + 256)) d (record { place = place + n * 32; held = 0 }) held' out'
  every_more i place held held' out out' h q s t e =
      let p : Progress = record { place = place; held = 256 } in
      let q₁ = values-held i 256 place held held' out q s t in
      let wide = T-wide (i + 256) h in
      let fits = last_fits (length held') p (length out) (omega arith) (place-fits n (tab v (i + 256)) d l wide (T-room (i + 256) h) p held' out q₁) in
      let q₂ = block-put n (tab v (i + 256)) d l wide (T-room (i + 256) h) p held' out q₁ (omega arith) (omega arith) in
      let a = so_where (the_last_fits (length held') p (length out)) out' _ out fits e in
      record { blocks = q₂.blocks; at = q₂.at; count = q₂.count; size = s; same = ap length a ∙ q₂.same; here = q₂.here; is = a ∙ q₂.is }

  -- the rest
  pub every-last : (i m place : ℕ) (held held' out out' : List ℕ) → i + m ≡ N → m < 256
      → Passed n (tab v i) d (record { place = place; held = 0 }) held out
      → length held' ≡ 512 → take m held' ≡ tab (λ j. v (i + j)) m
      → out' ≡ last_out n held' (record { place = place; held = m }) out
      → out' ≡ packed_into n (tab v N) d
  every-last i m place held held' out out' h f q s t e =
      last-put n (tab v (i + m)) d l (T-wide (i + m) (omega arith)) (T-room (i + m) (omega arith)) (record { place = place; held = m }) held' out (values-held i m place held held' out q s t) f out' e
      ∙ ap (λ (x : ℕ). packed_into n (tab v x) d) h
