-- What a block of points leaves of the values held, and of the octets that they are put into. A block is 256 values:
-- whole octets, whatever their width.
use Rattle.std.specs.Prelude.{ℕ, ◌+◌, ◌-◌, ◌*◌, Bool, cond, ◌&&◌, List, ◌++◌, eqb, leb, ltb, length, take, drop}
use Rattle.bits.specs.Bits.{count}
use Rattle.rules.specs.Bitmap.{value_of}
use Rattle.packs.specs.Pack.{pack_fits, packed}
use Rattle.gathering.specs.Gather.{here_from, gather_into, gather_fits}
use Rattle.blocks.specs.declared.{Progress.Progress}

-- values in a block, and room for one that is not full and the points of another
abbrev pub block_length : ℕ
block_length = 256

abbrev pub held_room : ℕ
held_room = 512

-- how many of the points that are left the next block has
unfoldable pub block_of : ℕ → ℕ
block_of left = cond (ltb left block_length) left block_length

-- the values of a block's present points stored after the first c held, and how many are held then
unfoldable pub held_with : List ℕ → List ℕ → ℕ → ℕ → List ℕ → List ℕ
held_with values marks at c held =
    take c held ++ gather_into (here_from marks at) (value_of values) (length values) (drop c held)

unfoldable pub count_with : List ℕ → List ℕ → ℕ → ℕ → ℕ
count_with values marks at c = c + count (here_from marks at) 0 (length values)

-- the values held after the first 256 come to the front
unfoldable pub moved_up : List ℕ → List ℕ
moved_up held = drop block_length held ++ drop block_length held

-- the first c values held, of n bits each, packed into the octets from `place` on
unfoldable pub packed_from : ℕ → ℕ → List ℕ → ℕ → List ℕ → List ℕ
packed_from n c held place out = take place out ++ packed n (take c held) (drop place out)

-- 256 values or more are held, and 256 of them have room
unfoldable pub full : ℕ → ℕ → List ℕ → ℕ → List ℕ → Bool
full n c held place out = leb block_length c && pack_fits n (take block_length held) (length out - place)

-- they are packed then, and those after them are held
unfoldable pub settled_at : ℕ → ℕ → List ℕ → ℕ → List ℕ → Progress
settled_at n c held place out =
    cond (full n c held place out) (record { place = place + n * 32; held = c - block_length }) (record { place = place; held = c })

unfoldable pub settled_held : ℕ → ℕ → List ℕ → ℕ → List ℕ → List ℕ
settled_held n c held place out = cond (full n c held place out) (moved_up held) held

unfoldable pub settled_out : ℕ → ℕ → List ℕ → ℕ → List ℕ → List ℕ
settled_out n c held place out = cond (full n c held place out) (packed_from n block_length held place out) out

-- whether a block of m points has room after c values held, marks from point `at` on, and a place among the octets
unfoldable pub block_fits : ℕ → ℕ → ℕ → ℕ → Progress → ℕ → Bool
block_fits m marked at room p octets =
    eqb room held_room && leb p.held held_room
    && (leb p.place octets && gather_fits m (held_room - p.held) at marked)

-- whether the values held are in their list, and have a place
unfoldable pub the_last_fits : ℕ → Progress → ℕ → Bool
the_last_fits room p octets = leb p.held room && leb p.place octets

-- a block's points gathered after what is held, and settled; what does not fit leaves all as it was
abbrev pub block_at : List ℕ → List ℕ → ℕ → ℕ → List ℕ → Progress → List ℕ → Progress
block_at values marks at n held p out =
    cond (block_fits (length values) (length marks) at (length held) p (length out))
    (settled_at n (count_with values marks at p.held) (held_with values marks at p.held held) p.place out) p

abbrev pub block_held : List ℕ → List ℕ → ℕ → ℕ → List ℕ → Progress → List ℕ → List ℕ
block_held values marks at n held p out =
    cond (block_fits (length values) (length marks) at (length held) p (length out))
    (settled_held n (count_with values marks at p.held) (held_with values marks at p.held held) p.place out) held

abbrev pub block_out : List ℕ → List ℕ → ℕ → ℕ → List ℕ → Progress → List ℕ → List ℕ
block_out values marks at n held p out =
    cond (block_fits (length values) (length marks) at (length held) p (length out))
    (settled_out n (count_with values marks at p.held) (held_with values marks at p.held held) p.place out) out

-- the values that are held, packed
abbrev pub last_out : ℕ → List ℕ → Progress → List ℕ → List ℕ
last_out n held p out = cond (the_last_fits (length held) p (length out)) (packed_from n p.held held p.place out) out
