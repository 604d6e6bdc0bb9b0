-- A list taken 256 elements at a time, as `chunks` gives it with numbers from 0 on: what is left after some chunks, the
-- next one, and the end.
use mathlib.Core.Path.{◌≡◌, refl, sym, ap, ◌∙◌}
use mathlib.Core.List.{List, ◌++◌}
use mathlib.Core.Logic.{⊎_elim}
use Prim.Native.Nat.{ℕ, min, ◌+◌, ◌-◌, ◌*◌, ◌^◌, ◌≤◌, ◌<◌}
use native.Mathlib.Omega.{arith}
use lib.ListN.{length, take, drop, length-drop}
use lib.Seq.{take_at, drop_at, drop-drop}
use Rattle.std.proofs.lemmas.List.{drop_all}
use Rattle.bits.proofs.Runs.{lt_or_ge}

-- what an iterator of chunks of n elements has left of xs after `count` of them
pub record Left {A : Type 0} (xs rest : List A) (n count : ℕ) : Type 0 where
  pub size : n ≡ 256
  pub is : rest ≡ drop (count * 256) xs

-- x is chunk b of xs, `count` stood before it and `next` stand after it
pub record Chunk {A : Type 0} (xs x : List A) (b count next : ℕ) : Type 0 where
  pub here : x ≡ take (length x) (drop (b * 256) xs)
  pub most : length x ≤ 256
  pub some : 0 < length x
  pub inside : b * 256 + length x ≤ length xs
  pub before : min (count * 256) (length xs) ≡ b * 256
  pub after : min (next * 256) (length xs) ≡ b * 256 + length x

pub left_all : {A : Type 0} (xs rest : List A) (n count : ℕ) → rest ≡ xs → n ≡ 256 → count ≡ 0 → Left xs rest n count
left_all xs rest n count e s z =
    let k : count * 256 ≡ 0 = omega arith in
    record { size = s; is = e ∙ ap (λ (j : ℕ). drop j xs) (sym k) }

pub none_before : (count n : ℕ) → count ≡ 0 → 0 ≡ min (count * 256) n
none_before count n z = omega arith

module _ {A : Type 0} (xs rest x rest' : List A) (n n' b count next : ℕ) (h : Left xs rest n count) (s : rest ≡ x ++ rest')
    (l : length x ≡ min n (length rest)) (p : 0 < length rest) (e : b ≡ count) (f : next ≡ count + 1) where
  long : length rest ≡ length xs - count * 256
  long = ap length h.is ∙ length-drop (count * 256) xs

  pub chunk_here : Chunk xs x b count next
  chunk_here =
      let z = h.size in
      let k = long in
      let q : count * 256 ≡ b * 256 = omega arith in
      record {
        here = sym (take_at x rest' (length x) refl) ∙ ap (take (length x)) (sym s ∙ h.is ∙ ap (λ (j : ℕ). drop j xs) q);
        most = omega arith;
        some = omega arith;
        inside = omega arith;
        before = omega arith;
        after = omega arith;
      }

  pub left_next : n' ≡ n → Left xs rest' n' next
  left_next g =
      let z = h.size in
      let k = long in
      let d : rest' ≡ drop (count * 256 + length x) xs =
      sym (drop_at x rest' (length x) refl) ∙ ap (drop (length x)) (sym s ∙ h.is) ∙ drop-drop (length x) (count * 256) xs in
      record {
        size = g ∙ h.size;
        is = ⊎_elim
            (λ (t : length x < 256). d ∙ drop_all (count * 256 + length x) xs (omega arith)
            ∙ sym (drop_all (next * 256) xs (omega arith)))
            (λ (t : 256 ≤ length x).
            let q : count * 256 + length x ≡ next * 256 = omega arith in
            d ∙ ap (λ (j : ℕ). drop j xs) q)
            (lt_or_ge (length x) 256);
      }

-- no chunk is left
pub left_none : {A : Type 0} (xs rest : List A) (n count : ℕ) → Left xs rest n count → length rest ≡ 0
    → min (count * 256) (length xs) ≡ length xs
left_none xs rest n count h e =
    let k : length rest ≡ length xs - count * 256 = ap length h.is ∙ length-drop (count * 256) xs in
    omega arith

-- what a call of `next` says of `chunks` under `enumerate`, where it gives the chunk x and the number b
abbrev pub Gives : {A : Type 0} → List A → List A → List A → ℕ → ℕ → ℕ → ℕ → ℕ → Type 0
Gives rest x rest' n n' b count next =
    ((n' ≡ n) × ((rest ≡ x ++ rest') × (length x ≡ min n (length rest)) × (0 < length rest))) × (b ≡ count)
    × (next ≡ count + 1) × (b + 1 < 2 ^ 64)

pub chunk_turn : {A : Type 0} (xs rest x rest' : List A) (n n' b count next : ℕ) → Left xs rest n count
    → Gives rest x rest' n n' b count next → Chunk xs x b count next × Left xs rest' n' next
chunk_turn xs rest x rest' n n' b count next h s = (
  chunk_here xs rest x rest' n n' b count next h s.0.1.0 s.0.1.1 s.0.1.2 s.1 s.2,
  left_next xs rest x rest' n n' b count next h s.0.1.0 s.0.1.1 s.0.1.2 s.1 s.2 s.0.0,
)
