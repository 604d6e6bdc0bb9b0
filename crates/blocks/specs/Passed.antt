-- How far values are on their way into octets.
use Rattle.std.specs.Prelude.{◌≡◌, ℕ, ◌+◌, ◌*◌, List, length, take, drop}
use Rattle.bits.specs.Bits.{packed_into}
use Rattle.blocks.specs.declared.{Progress.Progress}
use Rattle.blocks.specs.Block.{block_length, held_room}

-- of the values xs so far, of n bits each, whole blocks are packed into the octets d, and those after them are held
pub record Passed (n : ℕ) (xs d : List ℕ) (p : Progress) (held out : List ℕ) : Type 0 where
  pub blocks : ℕ
  pub at : p.place ≡ blocks * (n * 32)
  pub count : length xs ≡ blocks * block_length + p.held
  pub size : length held ≡ held_room
  pub same : length out ≡ length d
  pub here : take p.held held ≡ drop (blocks * block_length) xs
  pub is : out ≡ packed_into n (take (blocks * block_length) xs) d
