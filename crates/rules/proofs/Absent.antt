-- What is answered where there is nothing to answer: no bitmap, a bitmap that is lent, an absent section, a refused
-- message, a place outside the chart, R of zero.
use Rattle.std.specs.Prelude.{None, Some}
use mathlib.Core.Path.{◌≡◌, refl}
use mathlib.Core.List.{List, [], ◌∷◌, ◌++◌, map}
use mathlib.Core.Bool.{true, false}
use Prim.Native.Nat.{ℕ}
use lib.ListN.{set, take, drop}
use lib.Ieee.{binary64, of_bits}
use Rattle.rules.specs.declared.{Shape.Shape, Shape.TheVariants.Even}
use Rattle.rules.specs.Chart.{charted, pointed}
use Rattle.rules.specs.Points.{numbered, outside}
use Rattle.rules.specs.Reading.{bitmap_of, section_of, numbering_of}
use Rattle.rules.specs.Display.{display_of}
use Rattle.rules.proofs.Computes.{computes, specimen, nothing}
use Rattle.rules.proofs.Replies.{stored, lends}

-- the specimen without its bitmap section: four values where there were three
abbrev plain : List ℕ
plain = set (set (set (take 68 specimen ++ drop 76 specimen) 6 86) 15 128) 71 12

-- the bitmap in force: none, of a refused message none, and the lent one
forces : bitmap_of plain nothing ∷ bitmap_of [] nothing ∷ bitmap_of stored (lends 7 (0xd0 ∷ [])) ∷ []
    ≡ record { stored = false; part = record { start = 0; len = 0 } }
    ∷ record { stored = false; part = record { start = 0; len = 0 } }
    ∷ record { stored = true; part = record { start = 0; len = 1 } }
    ∷ []
unfolding computes
forces = refl

-- a section that is absent, the one after it, and a section of a refused message
gone : section_of plain nothing 3 ∷ section_of plain nothing 4 ∷ section_of [] nothing 1 ∷ []
    ≡ record { start = 0; len = 0 }
    ∷ record { start = 68; len = 14 }
    ∷ record { start = 0; len = 0 }
    ∷ []
unfolding computes
gone = refl

-- "or its own number where there is no bitmap"; no point of a refused message has one
own : map (numbering_of plain nothing) (0 ∷ 1 ∷ 2 ∷ 3 ∷ 4 ∷ []) ++ (numbering_of [] nothing 0 ∷ []) ≡ numbered 0 ∷ numbered 1 ∷ numbered 2 ∷ numbered 3 ∷ outside ∷ outside ∷ []
unfolding computes
own = refl

-- three columns and two rows that run north
abbrev chart : Shape
chart = Even (record { ni = 3; nj = 2; scan = 64 })

-- the last point and the one after it; the last place, and one to the right of it and one below
lost : map (λ k. charted chart (record { 0 = k })) (5 ∷ 6 ∷ []) ≡ Some (record { row = 0; column = 2 }) ∷ None ∷ []
unfolding computes
lost = refl

nowhere : map (pointed chart) (record { row = 0; column = 2 } ∷ record { row = 0; column = 3 } ∷ record { row = 2; column = 0 } ∷ []) ≡ Some (record { 0 = 5 }) ∷ None ∷ None ∷ []
unfolding computes
nowhere = refl

-- "R with B = 0 gives all bits zero", whatever s and A are
zero-shown : (display_of (set (set (set specimen 82 0xc3) 83 0) 84 0) nothing).reference ≡ of_bits binary64 0
unfolding computes
zero-shown = refl
