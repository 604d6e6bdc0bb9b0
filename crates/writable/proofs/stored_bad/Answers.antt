-- Refusal 10: the three kinds of bitmap.
use Rattle.rules.specs.Table.{any_of}
use Rattle.rules.specs.Writing.{stored_faults}
use Rattle.writable.proofs.stored_bad.Goals as goal

pub returns-in-Without : goal.returns-in-Without
unfolding any_of stored_faults
returns-in-Without c values e = rw c.in-Without.is

pub returns-in-Carried : goal.returns-in-Carried
unfolding any_of stored_faults
returns-in-Carried c values e = rw c.in-Carried.is

pub returns-in-Stored : goal.returns-in-Stored
returns-in-Stored c values e = rw c.in-Stored.is (c.store_bad.ensures values e)
