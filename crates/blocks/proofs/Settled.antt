-- What settling leaves: a full block that fits is packed, and else nothing changes.
use mathlib.Core.Path.{◌≡◌, sym, ap, ap₂, ◌∙◌}
use mathlib.Core.Bool.{Bool, true, false, cond, ◌&&◌}
use mathlib.Core.List.{List}
use Prim.Native.Nat.{ℕ, ◌+◌, ◌-◌, ◌*◌, ◌≤◌, ◌<◌}
use borrow.Author.Tests.{le-leb, lt-leb}
use lib.ListN.{length, take}
use Rattle.packs.specs.Pack.{pack_fits}
use Rattle.blocks.specs.declared.{Progress.Progress}
use Rattle.blocks.specs.Block.{block_fits, held_with, count_with, moved_up, packed_from, full, settled_at, settled_held}
use Rattle.blocks.specs.Block.{settled_out}
use Rattle.blocks.proofs.Parts.{none-packed}
use Rattle.blocks.proofs.Fitting.{where_so}

module _ (n c : ℕ) (held : List ℕ) (place : ℕ) (out : List ℕ) where
  pub full-few : c < 256 → full n c held place out ≡ false
  unfolding full
  full-few h = ap (λ (t : Bool). t && pack_fits n (take 256 held) (length out - place)) (lt-leb 256 c h)

  pub full-many : 256 ≤ c → full n c held place out ≡ pack_fits n (take 256 held) (length out - place)
  unfolding full
  full-many h = ap (λ (t : Bool). t && pack_fits n (take 256 held) (length out - place)) (le-leb 256 c h)

  pub settled_so : full n c held place out ≡ true
      → (record { place = place + n * 32; held = c - 256 } ≡ settled_at n c held place out) × ((moved_up held ≡ settled_held n c held place out) × (packed_from n 256 held place out ≡ settled_out n c held place out))
  unfolding settled_at settled_held settled_out
  settled_so h = (rw h, (rw h, rw h))

  pub settled_not : full n c held place out ≡ false
      → (record { place = place; held = c } ≡ settled_at n c held place out) × ((held ≡ settled_held n c held place out) × (out ≡ settled_out n c held place out))
  unfolding settled_at settled_held settled_out
  settled_not h = (rw h, (rw h, rw h))

  -- as the code comes to its three ends
  pub settle_few : c < 256
      → (record { place = place; held = c } ≡ settled_at n c held place out) × ((held ≡ settled_held n c held place out) × (out ≡ settled_out n c held place out))
  settle_few h = settled_not (full-few h)

  module _ (h : 256 ≤ c) (r : Bool) (e : r ≡ pack_fits n (take 256 held) (length out - place)) where
    pub settle_packed : r ≡ true → (held' out' : List ℕ) → held' ≡ moved_up held → out' ≡ packed_from n 256 held place out
        → (record { place = place + n * 32; held = c - 256 } ≡ settled_at n c held place out) × ((held' ≡ settled_held n c held place out) × (out' ≡ settled_out n c held place out))
    settle_packed t held' out' a b =
        let s = settled_so (full-many h ∙ sym e ∙ t) in
        (s.0, (a ∙ s.1.0, b ∙ s.1.1))

    pub settle_kept : r ≡ false → (out' : List ℕ) → out' ≡ packed_from n 256 held place out
        → (record { place = place; held = c } ≡ settled_at n c held place out) × ((held ≡ settled_held n c held place out) × (out' ≡ settled_out n c held place out))
    settle_kept t out' b =
        let s = settled_not (full-many h ∙ sym e ∙ t) in
        (s.0, (s.1.0, b ∙ none-packed n 256 held place out (sym e ∙ t) ∙ s.1.1))

-- a block that fits, gathered and then settled
module _ (values marks : List ℕ) (at n : ℕ) (held : List ℕ) (p : Progress) (out : List ℕ) where
  abbrev fitting : Bool
  fitting = block_fits (length values) (length marks) at (length held) p (length out)

  abbrev more : ℕ
  more = count_with values marks at p.held

  abbrev with : List ℕ
  with = held_with values marks at p.held held

  pub block-done : fitting ≡ true → (c : ℕ) → c ≡ more → (h : List ℕ) → h ≡ with
      → (r : Progress) → r ≡ settled_at n c h p.place out → (held' : List ℕ)
      → held' ≡ settled_held n c h p.place out → (out' : List ℕ) → out' ≡ settled_out n c h p.place out
      → (r ≡ cond fitting (settled_at n more with p.place out) p)
      × ((held' ≡ cond fitting (settled_held n more with p.place out) held)
      × (out' ≡ cond fitting (settled_out n more with p.place out) out))
  block-done f c e h g r a held' b out' d = (
    where_so fitting r _ p f (a ∙ ap₂ (λ (x : ℕ) (y : List ℕ). settled_at n x y p.place out) e g),
    (
      where_so fitting held' _ held f (b ∙ ap₂ (λ (x : ℕ) (y : List ℕ). settled_held n x y p.place out) e g),
      where_so fitting out' _ out f (d ∙ ap₂ (λ (x : ℕ) (y : List ℕ). settled_out n x y p.place out) e g),
    ),
  )
