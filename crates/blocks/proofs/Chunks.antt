-- A list taken a chunk at a time, as `gathering` has it: for the crates that use blocks.
pub use Rattle.gathering.proofs.Chunks.{Left, Chunk, left_all, none_before, left_none, chunk_turn}
