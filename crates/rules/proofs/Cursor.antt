-- Document 02, R-6, computed on the specimen, whose four points are one group, and, where several groups are needed, on
-- presence given as a function.
use Rattle.std.specs.Prelude.{Err, None, Ok, Option, Result, Some}
use mathlib.Core.Path.{◌≡◌, refl}
use mathlib.Core.Bool.{Bool, true, false, cond}
use mathlib.Core.List.{List, [], ◌∷◌, ◌++◌, map}
use Prim.Native.Nat.{ℕ, ◌%◌}
use lib.Dec.{eqb}
use lib.ListN.{set}
use Rattle.rules.specs.declared.{Spot.Spot, Refusal.Refusal}
use Rattle.rules.specs.Table.{refusal, any_of}
use Rattle.rules.specs.Cursor.{the_groups_for, the_group_size, ones_in, index_of, the_index_after, index_faults, cursor_number}
use Rattle.rules.specs.Cursor.{cursor_of}
use Rattle.rules.proofs.Computes.{computes, specimen, nothing}

-- groups at each edge of n, and the sizes of the groups of 600 points
groups : map the_groups_for (1 ∷ 255 ∷ 256 ∷ 257 ∷ 512 ∷ 513 ∷ 3447 ∷ 65536 ∷ []) ≡ 1 ∷ 1 ∷ 1 ∷ 2 ∷ 2 ∷ 3 ∷ 14 ∷ 256 ∷ []
unfolding computes
groups = refl

sizes : map (the_group_size 600) (0 ∷ 1 ∷ 2 ∷ 3 ∷ []) ++ map (the_group_size 512) (0 ∷ 1 ∷ [])
    ≡ 256 ∷ 256 ∷ 88 ∷ 0 ∷ 256 ∷ 256 ∷ []
unfolding computes
sizes = refl

-- filling for the specimen: one entry, later ones stay; 14 for no room, and a damaged message's own reply first
filling : index_of specimen nothing (9 ∷ 8 ∷ []) ≡ record { refusal = refusal 0; entries = 1 }
unfolding computes
filling = refl

filled-list : the_index_after specimen nothing (9 ∷ 8 ∷ []) ≡ 0 ∷ 8 ∷ []
unfolding computes
filled-list = refl

no_room : index_of specimen nothing [] ≡ record { refusal = refusal 14; entries = 0 }
unfolding computes
no_room = refl

own_first : index_of (set specimen 86 25) nothing [] ≡ record { refusal = refusal 11; entries = 0 }
unfolding computes
own_first = refl

-- the specimen's chart, row by row from the north: absent and 7, then 0 and 2
abbrev place : ℕ → ℕ → Spot
place row column = record { row = row; column = column }

abbrev at : List ℕ → ℕ → ℕ → Result (Option ℕ) Refusal
at index row column = cursor_of specimen nothing index (place row column)

chart : at (0 ∷ []) 0 0 ∷ at (0 ∷ []) 0 1 ∷ at (0 ∷ []) 1 0 ∷ at (0 ∷ []) 1 1 ∷ []
    ≡ (Ok None) ∷ (Ok (Some 7)) ∷ (Ok (Some 0)) ∷ (Ok (Some 2)) ∷ []
unfolding computes
chart = refl

-- 24 just outside, before 25; 25 for no entry, for one too high, for the greatest that a list holds, and at an absent
-- place too; what stands after the last group is not looked at
outside : at [] 2 0 ∷ at (0 ∷ []) 0 2 ∷ at (0 ∷ []) 4294967295 4294967295 ∷ []
    ≡ Err (refusal 24) ∷ Err (refusal 24) ∷ Err (refusal 24) ∷ []
unfolding computes
outside = refl

unfit : at [] 0 1 ∷ at (1 ∷ []) 0 1 ∷ at (4294967295 ∷ []) 0 1 ∷ at (1 ∷ []) 0 0 ∷ at (0 ∷ 77 ∷ []) 0 1 ∷ []
    ≡ Err (refusal 25) ∷ Err (refusal 25) ∷ Err (refusal 25) ∷ Err (refusal 25) ∷ (Ok (Some 7)) ∷ []
unfolding computes
unfit = refl

-- every third of 600 points is present, 200 in all, in groups of 86, 85 and 29: their own entries, and each way in
-- which a group's can be wrong: too low or high by one, the next one wrong, above m with the next one agreeing, too few
-- entries. A group that is not asked for may have any entry
abbrev third : ℕ → ℕ
third i = cond (eqb (i % 3) 0) 1 0

abbrev bad : List ℕ → ℕ → Bool
bad index g = any_of (index_faults index 600 200 g (ones_in third 600 g))

ones : map (ones_in third 600) (0 ∷ 1 ∷ 2 ∷ []) ≡ 86 ∷ 85 ∷ 29 ∷ []
unfolding computes
ones = refl

own_entries : map (bad (0 ∷ 86 ∷ 171 ∷ [])) (0 ∷ 1 ∷ 2 ∷ []) ≡ false ∷ false ∷ false ∷ []
unfolding computes
own_entries = refl

low_or_high : bad (1 ∷ 86 ∷ 171 ∷ []) 0 ∷ bad (0 ∷ 85 ∷ 171 ∷ []) 1 ∷ bad (0 ∷ 87 ∷ 171 ∷ []) 1
    ∷ bad (0 ∷ 86 ∷ 170 ∷ []) 2 ∷ bad (0 ∷ 86 ∷ 172 ∷ []) 2 ∷ []
    ≡ true ∷ true ∷ true ∷ true ∷ true ∷ []
unfolding computes
low_or_high = refl

next_wrong : bad (0 ∷ 85 ∷ 171 ∷ []) 0 ∷ bad (0 ∷ 86 ∷ 172 ∷ []) 1 ∷ [] ≡ true ∷ true ∷ []
unfolding computes
next_wrong = refl

above : bad (114 ∷ 200 ∷ 0 ∷ []) 0 ∷ bad (115 ∷ 201 ∷ 0 ∷ []) 0
    ∷ bad (0 ∷ 115 ∷ 200 ∷ []) 1 ∷ bad (0 ∷ 116 ∷ 201 ∷ []) 1 ∷ []
    ≡ false ∷ true ∷ false ∷ true ∷ []
unfolding computes
above = refl

too_few : map (bad (0 ∷ 86 ∷ [])) (0 ∷ 1 ∷ 2 ∷ []) ≡ true ∷ true ∷ true ∷ []
unfolding computes
too_few = refl

others : bad (0 ∷ 86 ∷ 4294967295 ∷ []) 0 ∷ bad (4294967295 ∷ 86 ∷ 171 ∷ []) 1
    ∷ bad (7 ∷ 7 ∷ 171 ∷ 9 ∷ []) 2 ∷ []
    ≡ false ∷ false ∷ false ∷ []
unfolding computes
others = refl

-- a sum is exact: an entry that would come out right in 32 bits is refused
exact : bad (4294967296 ∷ 86 ∷ 171 ∷ []) 0 ∷ bad (4294967295 ∷ 85 ∷ 171 ∷ []) 0 ∷ [] ≡ true ∷ true ∷ []
unfolding computes
exact = refl

-- "the value is the one whose data number is its group's entry plus the ones before the place in that group": from its
-- own index the count of ones before it; from another that is not refused, by that one
numbers : map (cursor_number third (0 ∷ 86 ∷ 171 ∷ [])) (0 ∷ 255 ∷ 258 ∷ 597 ∷ [])
    ++ (cursor_number third (0 ∷ 115 ∷ 200 ∷ []) 258 ∷ [])
    ≡ 0 ∷ 85 ∷ 86 ∷ 199 ∷ 115 ∷ []
unfolding computes
numbers = refl
