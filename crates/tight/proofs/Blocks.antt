-- The contracts of `blocks` are tight.
use mathlib.Core.Path.{refl}
use Rattle.blocks.specs.contracts as contracts
use Rattle.tight.specs.Tight.{Tight}
use Rattle.tight.proofs.Laws.{by-reply, by-list, by-lists}

pub block_of : Tight contracts.block_of.ended λ M 𝓤 𝓛. contracts.block_of.clauses 𝓛
block_of k g h x y ws vs = by-reply k refl

pub put_block : Tight contracts.put_block.ended λ M 𝓤 𝓛. contracts.put_block.clauses 𝓛
put_block k g h x y ws vs = by-lists k λ e f i. (tt, (tt, (tt, (tt, (e i, (tt, (f i, tt)))))))

pub put_last : Tight contracts.put_last.ended λ M 𝓤 𝓛. contracts.put_last.clauses 𝓛
put_last k g h x y ws vs = by-list k λ e i. (tt, (tt, (tt, (e i, tt))))
